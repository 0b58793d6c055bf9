-- What a whole round leads to.
use Rattle.std.specs.Prelude.{◌≡◌, ℕ, false, List, ◌++◌, codes, Result, Ok, Err}
use Rattle.chk_site.specs.declared.acts.Who.{Who}
use Rattle.chk_site.specs.History.{History, Others, is_stopped}
use Rattle.chk_site.specs.Runs.{Leads}
use Rattle.chk_world.specs.Places.{AtTold}
use Rattle.chk_world.specs.Rules.{Legal}
use Rattle.chk_world.specs.Sight.{job}
use Rattle.chk_world.specs.Together.{Outside as OutsideOf, Together}
use Rattle.chk_agent.specs.Facts.{Matches as AgentMatches}
use Rattle.chk_round.specs.declared.faults.RoundFault.{RoundFault}
use Rattle.chk_round.specs.declared.faults.RoundFault.TheVariants.{Damaged, Length, Shrank, Spent, Checkpoint, Refused}
use Rattle.chk_round.specs.declared.whole_round.Rounded.{Rounded}
use Rattle.chk_round.specs.Closing.{HasRun}
use Rattle.chk_round.specs.Joint.{OnlyStopped}
use Rattle.chk_round.specs.LastPolls.{LastPoll}
use Rattle.chk_round.specs.Rounds.{RoundDone}
use Rattle.chk_round.specs.Spent.{IsSpentRound, WhereRunning}

-- At Ok the history is legal and as the agent knows it, and the job may act on, whose run is done.
-- Nothing of the program's own is ever damaged, no log is shorter than what was read of it, the agent
-- gets the replies that were made, where numbers are spent it is said which, and a length ends it
-- that was told by the last poll, of a sink of the collector that was given up.
abbrev pub AfterRound : List (List ℕ) → Result Rounded RoundFault → History → Type 0
AfterRound stamped (Ok r) history =
    AgentMatches stamped r.agent history × AtTold stamped job (HasRun r.report) history
AfterRound stamped (Err (Damaged name at)) history = OnlyStopped stamped history
AfterRound stamped (Err (Checkpoint at)) history = OnlyStopped stamped history
AfterRound stamped (Err (Refused code)) history = OnlyStopped stamped history
AfterRound stamped (Err (Length stem got want)) history =
    WhereRunning stamped (LastPoll (codes "c1") stem got want) history
AfterRound stamped (Err (Shrank path had is)) history = OnlyStopped stamped history
AfterRound stamped (Err (Spent n)) history =
    WhereRunning stamped (IsSpentRound (codes "c1") n) history
AfterRound stamped (Err fault) history = Legal stamped history

-- from a legal history on
pub record RoundTo (stamped : List (List ℕ)) (started acting : List Who) (source : List ℕ) (result : Result Rounded RoundFault)
    (added history : History) : Type 0 where
  pub leads : Leads (Together stamped started acting) (Legal stamped) (AfterRound stamped result) added history
  pub source_is : (r : Rounded) → result ≡ Ok r → r.agent.source ≡ source
  pub done : (r : Rounded) → result ≡ Ok r → Others (OutsideOf stamped started) added history → Legal stamped history
      → is_stopped (added ++ history) ≡ false → RoundDone (codes "c1") source r.agent r.report added history
