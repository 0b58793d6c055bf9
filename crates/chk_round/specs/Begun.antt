-- How the agent of a round begins: its start, and the adding of the logs.
use Rattle.std.specs.Prelude.{◌≡◌, ℕ, List, [], Option, Ok}
use Rattle.chk_control.specs.declared.Class.{Class}
use Rattle.chk_site.specs.declared.acts.Call.TheVariants.{Clock}
use Rattle.chk_site.specs.declared.acts.Who.{Who}
use Rattle.chk_site.specs.History.{History}
use Rattle.chk_site.specs.Site.{Adds, asked, answered, sized, Calls}
use Rattle.chk_site.specs.Runs.{HasStarted, Leads, Owns}
use Rattle.chk_failover.specs.Turns.{Turns}
use Rattle.chk_world.specs.Knowing.{agent}
use Rattle.chk_world.specs.Places.{As}
use Rattle.chk_world.specs.Rules.{Legal}
use Rattle.chk_world.specs.Works.{Asks}
use Rattle.chk_sink.specs.Works.{OfStart}
use Rattle.chk_agent.specs.declared.agent.Rules.{Rules}
use Rattle.chk_agent.specs.Facts.{Matches}
use Rattle.chk_agent.specs.Starts.{FindsCheckpoint, IsFresh, StartsAndReads}
use Rattle.chk_agent.specs.States.{State}
use Rattle.chk_round.specs.Adding.{AddsLogs}
use Rattle.chk_round.specs.Processes.{c1}
use Rattle.chk_round.specs.Starts.{inside}

-- The collector `c1` was started, and then this agent: its own checkpoint was read, and where others
-- leave it the state is of the lines that stand there. From a legal history on both starts lead to
-- one, and behind the second it is as the agent knows it. Last it asked for the time.
pub record AgentBegan (who : Who) (ring : Turns) (rules : Rules) (s : State)
    (old new : Option History) : Type 0 where
  pub mid : Option History
  pub next : Option History
  pub collector : Adds old mid (Owns (Asks c1 (OfStart c1)))
  pub collector_started : Adds old mid (HasStarted c1)
  pub legal : (stamped : List (List ℕ)) → Adds old mid
      (Leads (As stamped c1) (Legal stamped) (Legal stamped))
  pub fresh : IsFresh who ring rules s
  pub started : Adds mid next (HasStarted who)
  pub acts : StartsAndReads who (Ok s) mid next
  pub finds : FindsCheckpoint (λ s. s.saved) who (Ok s) mid next
  pub told : (stamped : List (List ℕ)) → Adds mid next
      (Leads (As stamped who) (Legal stamped) (Matches stamped s))
  pub now : ℕ
  pub timed : Adds next new (Calls (asked who Clock [] 0 0) (answered sized (Ok now)))

-- Behind that each of these logs was added in order, a new one with this class, a past one with the
-- class of its line. All chunks are of this cluster.
pub record BeginsSo (source kind : List ℕ) (class : Class) (cluster : List ℕ)
    (logs : List (List ℕ)) (t : State) (old new : Option History) : Type 0 where
  pub rules : Rules
  pub cluster_is : rules.cluster ≡ cluster
  pub fresh : State
  pub mid : Option History
  pub began : AgentBegan (agent source) inside rules fresh old mid
  pub adds : AddsLogs class kind logs fresh (Ok tt) t mid new
