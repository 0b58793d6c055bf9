use Rattle.chk_ctl_verify.proofs.sinks.look_in.Goals as goal

pub returns-in-Agents : goal.returns-in-Agents
returns-in-Agents g c =
    record {
      told = rw c.in-Agents.is c.look_in_agents.ensures.told;
      own = c.look_in_agents.ensures.own;
      cause = c.look_in_agents.ensures.cause;
    }

pub returns-in-Sinks : goal.returns-in-Sinks
returns-in-Sinks g c =
    record {
      told = rw c.in-Sinks.is c.look_in_sinks.ensures.told;
      own = c.look_in_sinks.ensures.own;
      cause = c.look_in_sinks.ensures.cause;
    }

pub returns-in-Wahead : goal.returns-in-Wahead
returns-in-Wahead g c =
    record {
      told = rw c.in-Wahead.is c.look_in_wahead.ensures.told;
      own = c.look_in_wahead.ensures.own;
      cause = c.look_in_wahead.ensures.cause;
    }
