-- What the start of a round leaves.
use Rattle.std.specs.Prelude.{◌≡◌, ◌⊎◌, ℕ, List, [], ◌∷◌, ◌++◌, codes, Option, Result, Ok, Err}
use Rattle.chk_site.specs.declared.acts.Call.TheVariants.{Clock}
use Rattle.chk_site.specs.declared.acts.CallFault.{CallFault}
use Rattle.chk_site.specs.declared.acts.CallFault.TheVariants.{Failed, NoMemory as site_wanting}
use Rattle.chk_site.specs.declared.acts.Who.{Who}
use Rattle.chk_site.specs.History.{History, files_after}
use Rattle.chk_site.specs.Messages.{self_address}
use Rattle.chk_site.specs.Site.{Adds, asked, answered, sized, Calls}
use Rattle.chk_failover.specs.Turns.{Turns}
use Rattle.chk_world.specs.Committed.{number_in}
use Rattle.chk_world.specs.Knowing.{agent}
use Rattle.chk_world.specs.Names.{BornFile, file}
use Rattle.chk_world.specs.Places.{AtTold}
use Rattle.chk_world.specs.Rules.{Legal}
use Rattle.chk_sink.specs.Starts.{IsFresh as AreFreshSinks}
use Rattle.chk_sink.specs.States.{State as Sinks, last_number}
use Rattle.chk_agent.specs.declared.agent.Rules.{Rules}
use Rattle.chk_agent.specs.Starts.{IsFresh as IsFreshAgent}
use Rattle.chk_agent.specs.States.{State as Agents}
use Rattle.chk_round.specs.declared.faults.RoundFault.{RoundFault}
use Rattle.chk_round.specs.declared.faults.RoundFault.TheVariants.{Outside, NoMemory, Damaged, Length, Shrank, Spent, Checkpoint, Refused}
use Rattle.chk_round.specs.declared.starting.Pair.{Pair}
use Rattle.chk_round.specs.declared.words.Limits.{Limits}
use Rattle.chk_round.specs.declared.words.RoundWords.{RoundWords}
use Rattle.chk_round.specs.Joint.{BothAt, OnlyStopped}
use Rattle.chk_round.specs.Processes.{c1}

-- the one address inside the process
abbrev pub inside : Turns
inside = record { addresses = self_address ∷ []; place = 0; failures = 0 }

abbrev pub rules_of : RoundWords → Limits → Rules
rules_of w limits = record {
  rows = limits.rows;
  queue = limits.queue;
  poll = 10000;
  expire = 300000;
  cluster = w.cluster;
}

-- both have just started
pub record AreFresh (source : List ℕ) (ring : Turns) (rules : Rules) (s : Sinks) (a : Agents) : Type 0 where
  pub sinks : AreFreshSinks c1 300000 s
  pub agent_is : IsFreshAgent (agent source) ring rules a

-- Both know the history. The program's own files are never damaged, and the starts are spent only
-- where the last one was made.
abbrev pub Met : List (List ℕ) → Result Pair RoundFault → History → Type 0
Met stamped (Ok pair) history = BothAt stamped pair.collector pair.agent history
Met stamped (Err (Damaged name at)) history = OnlyStopped stamped history
Met stamped (Err (Checkpoint at)) history = OnlyStopped stamped history
Met stamped (Err (Refused code)) history = OnlyStopped stamped history
Met stamped (Err (Length stem got want)) history = ⊥
Met stamped (Err (Shrank path had is)) history = OnlyStopped stamped history
Met stamped (Err (Spent n)) history =
    AtTold stamped c1 (λ front. (n ≡ last_number)
    × (number_in (file (files_after front) (BornFile (codes "c1"))) ≡ last_number)) history
Met stamped (Err fault) history = Legal stamped history

-- the time was asked for, and this is what the site answered
abbrev pub ClockGave : Who → Result ℕ RoundFault → Option History → Option History → Type 0
ClockGave who (Ok now) old new = Adds old new (Calls (asked who Clock [] 0 0) (answered sized (Ok now)))
ClockGave who (Err fault) old new =
    (given : CallFault) × Adds old new (Calls (asked who Clock [] 0 0) (answered sized (Err given)))
    × (((given ≡ Failed) × (fault ≡ Outside Clock)) ⊎ ((given ≡ site_wanting) × (fault ≡ NoMemory)))

-- the last of these calls asked for the time, and this is what the site answered
pub record EndsWithClock (who : Who) (now : ℕ) (added history : History) : Type 0 where
  pub later : History
  pub earlier : History
  pub split : added ≡ later ++ earlier
  pub calls : Calls (asked who Clock [] 0 0) (answered sized (Ok now)) later (earlier ++ history)
