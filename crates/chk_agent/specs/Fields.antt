-- What the fields stand for.
use Rattle.std.specs.Prelude.{◌≡◌, map}
use Rattle.chk_site.specs.declared.acts.Role.TheVariants.{Agent}
use Rattle.chk_checkpoint.specs.Lines.{shown}
use Rattle.chk_agent.specs.declared.agent.Agent.TheInside.{Inside}
use Rattle.chk_agent.specs.States.{State}
use Rattle.chk_agent.specs.Fits.{IsSound}

abbrev pub agent_view : Inside → State
agent_view a = record {
  source = a.who.name;
  cluster = a.cluster;
  adaptors = a.adaptors.items;
  last = a.last;
  delivery = a.delivery;
  saved = map shown a.saved.items;
  ready = a.ready;
}

-- the process is an agent's, and the state is sound
pub record IsSoundInside (a : Inside) : Type 0 where
  pub role : a.who.role ≡ Agent
  pub sound : IsSound (agent_view a)
