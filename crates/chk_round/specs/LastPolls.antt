-- What stands behind a round that a length below an answered offset ended.
use Rattle.std.specs.Prelude.{◌≡◌, ◌⊎◌, ℕ, ◌<◌, IsTrue, List, ◌++◌, Option, Some, Result, Ok, Err}
use Rattle.chk_bytes.specs.Stems.{Stem, is_stem}
use Rattle.chk_site.specs.declared.acts.Who.{Who}
use Rattle.chk_site.specs.History.{History}
use Rattle.chk_world.specs.DoneSinks.{IsGone}
use Rattle.chk_world.specs.NamedEnds.{gave_up}
use Rattle.chk_sink.specs.Held.{Holds}
use Rattle.chk_sink.specs.States.{State as Sinks, process}
use Rattle.chk_collector.specs.Passing.{HasPassed}
use Rattle.chk_agent.specs.States.{State as Agents}
use Rattle.chk_exchange.specs.Exchanges.{PollsInside}
use Rattle.chk_exchange.specs.Least.{TellsLeast}
use Rattle.chk_round.specs.declared.faults.RoundFault.{RoundFault}
use Rattle.chk_round.specs.declared.faults.RoundFault.TheVariants.{Length}

-- The last steps are a poll inside the process, which left this offset of the sink above the length
-- that it gave.
pub record IsLastPoll (collector : List ℕ) (stem : Stem) (got want : ℕ) (history : History)
    : Type 0 where
  pub polled : History
  pub earlier : History
  pub split : history ≡ polled ++ earlier
  pub sinks : Sinks
  pub agent : Agents
  pub sinks_then : Sinks
  pub agent_then : Agents
  pub collector_is : sinks.collector ≡ collector
  pub held : Holds sinks earlier
  pub polls : PollsInside (process sinks) sinks agent
      (Ok (Some (record { stem = stem; got = got; want = want }))) sinks_then agent_then
      (Some earlier) (Some history)
  pub below : got < want
  pub known : IsTrue (is_stem stem)

-- Where the sink is one of the collector's, it was given up before, or it is gone. One of this start
-- was given up only where one of the start has passed 2^62 bytes.
pub record MayBeLost (collector : List ℕ) (born : ℕ) (stem : Stem) (got want : ℕ)
    (history : History) : Type 0 where
  pub poll : IsLastPoll collector stem got want history
  pub start : poll.sinks.born ≡ born
  pub lost : stem.collector ≡ collector → IsTrue (gave_up stem history) ⊎ IsGone history stem
  pub passed : stem.collector ≡ collector → stem.born ≡ born → IsTrue (gave_up stem history)
      → HasPassed collector born history

-- The last steps are such a poll, of a sink of the start in which the collector made it, which was
-- given up before, since a sink of the same start has passed 2^62 bytes.
pub record LastPoll (collector : List ℕ) (stem : Stem) (got want : ℕ) (history : History)
    : Type 0 where
  pub poll : IsLastPoll collector stem got want history
  pub own : stem.collector ≡ collector
  pub start : stem.born ≡ poll.sinks.born
  pub lost : IsTrue (gave_up stem history)
  pub passed : HasPassed collector stem.born history

-- where such a poll ended so, the length is at least what stayed committed
abbrev pub LengthTold : {T : Type 0} → Who → Sinks → Agents → Result T RoundFault → Option History
    → Option History → Type 0
LengthTold who s a (Err (Length stem got want)) old new =
    TellsLeast who s a (Some (record { stem = stem; got = got; want = want })) old new
LengthTold who s a result old new = Unit {0}
