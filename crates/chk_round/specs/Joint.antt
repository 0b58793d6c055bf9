-- What the history is to a collector and an agent that act in turn.
use Rattle.std.specs.Prelude.{◌≡◌, ℕ, false, List, Contains, Option, Result, Ok, Err}
use Rattle.chk_site.specs.declared.acts.Who.{Who}
use Rattle.chk_site.specs.History.{History, is_stopped}
use Rattle.chk_site.specs.Runs.{Leads}
use Rattle.chk_site.specs.Site.{Adds}
use Rattle.chk_world.specs.Mailbox.{IsEmptyFor}
use Rattle.chk_world.specs.Rules.{Legal}
use Rattle.chk_world.specs.Together.{Together}
use Rattle.chk_sink.specs.Held.{Matches as SinksMatch}
use Rattle.chk_sink.specs.States.{State as Sinks, process}
use Rattle.chk_agent.specs.Facts.{Matches as AgentMatches}
use Rattle.chk_agent.specs.States.{State as Agents, process as agent_of}
use Rattle.chk_agent_drain.specs.Parts.{SameRest}
use Rattle.chk_round.specs.declared.faults.RoundFault.{RoundFault}
use Rattle.chk_round.specs.declared.faults.RoundFault.TheVariants.{Damaged, Length, Shrank, Spent, Checkpoint, Refused}
use Rattle.chk_round.specs.Keeping.{SinksKept}
use Rattle.chk_round.specs.LastPolls.{MayBeLost}
use Rattle.chk_round.specs.Spent.{LastSink, WhereRunning}

-- the history is as the sinks and the agent know it, no message waits for the collector in the
-- mailbox, and no sink of the collector's start was given up, unless one was full
abbrev pub BothAt : List (List ℕ) → Sinks → Agents → History → Type 0
BothAt stamped s a history =
    SinksMatch stamped s history
    × (AgentMatches stamped a history × (IsEmptyFor (process s) history × SinksKept s history))

-- the run started both, and both act in it
pub record AreIn (started acting : List Who) (s : Sinks) (a : Agents) : Type 0 where
  pub collector_started : Contains started (process s)
  pub collector_acts : Contains acting (process s)
  pub agent_started : Contains started (agent_of a)
  pub agent_acts : Contains acting (agent_of a)

-- the history is legal, and the site was stopped
pub record OnlyStopped (stamped : List (List ℕ)) (history : History) : Type 0 where
  pub legal : Legal stamped history
  pub never : is_stopped history ≡ false → ⊥

-- At Ok both know the history. Nothing of the program's own is ever damaged, no log is shorter than
-- what was read of it, the agent gets the replies that were made, numbers are spent only where the
-- start's last sink was created, and a length ends it that was told by the last poll.
abbrev pub GoesOn : List (List ℕ) → Sinks → Agents → Result (Unit {0}) RoundFault → History → Type 0
GoesOn stamped s a (Ok value) history = BothAt stamped s a history
GoesOn stamped s a (Err (Damaged name at)) history = OnlyStopped stamped history
GoesOn stamped s a (Err (Checkpoint at)) history = OnlyStopped stamped history
GoesOn stamped s a (Err (Refused code)) history = OnlyStopped stamped history
GoesOn stamped s a (Err (Length stem got want)) history =
    WhereRunning stamped (MayBeLost s.collector s.born stem got want) history
GoesOn stamped s a (Err (Shrank path had is)) history = OnlyStopped stamped history
GoesOn stamped s a (Err (Spent n)) history = WhereRunning stamped (LastSink s.collector n) history
GoesOn stamped s a (Err fault) history = Legal stamped history

-- from the earlier states to the later ones
abbrev pub JointTo : Sinks → Agents → Sinks → Agents → Result (Unit {0}) RoundFault → Option History → Option History → Type 0
JointTo s a t b result old new =
    (stamped : List (List ℕ)) (started acting : List Who) → AreIn started acting s a
    → Adds old new (Leads (Together stamped started acting) (BothAt stamped s a) (GoesOn stamped t b result))

-- the same agent, with its cluster, its adaptors, its addresses and its room for rows
pub record IsSameAgent (s t : Agents) : Type 0 where
  pub source : t.source ≡ s.source
  pub cluster : t.cluster ≡ s.cluster
  pub ready : t.ready ≡ s.ready
  pub rest : SameRest s t
