-- Why a round has no number left.
use Rattle.std.specs.Prelude.{◌≡◌, ℕ, ◌-◌, ◌^◌, false, List, ◌++◌, Option, Some, None, Ok}
use Rattle.chk_bytes.specs.Numbers.{last_number}
use Rattle.chk_site.specs.declared.acts.Who.{Who}
use Rattle.chk_site.specs.History.{History, files_after, is_stopped}
use Rattle.chk_world.specs.Committed.{number_in}
use Rattle.chk_world.specs.Names.{BornFile, file}
use Rattle.chk_world.specs.Rules.{Legal}
use Rattle.chk_archive.specs.Written.{LacksNumbers}
use Rattle.chk_sink.specs.Held.{Holds}
use Rattle.chk_sink.specs.States.{State as Sinks, process}
use Rattle.chk_exchange.specs.declared.fault.ExchangeFault.TheVariants.{Spent}
use Rattle.chk_exchange.specs.Exchanges.{Serves}
pub use Rattle.chk_exchange.specs.Least.{Goes}

-- the history is legal, and where the site wasn't stopped P holds of it
pub record WhereRunning (stamped : List (List ℕ)) (P : History → Type 0)
    (history : History) : Type 0 where
  pub legal : Legal stamped history
  pub alive : is_stopped history ≡ false → P history

-- ---- the sinks of a start

-- An agent sent a message, the collector took it and answered that this number is spent, and the
-- agent asked for the answer. The handling led from the first sinks to the second ones.
pub record ToldSpent (who : Who) (n : ℕ) (s t : Sinks) (old new : Option History) : Type 0 where
  pub mid : Option History
  pub next : Option History
  pub sent : Goes old mid
  pub served : Serves who s (Ok (Some (Spent n))) t mid next
  pub got : Goes next new

-- The collector's start of this number has no number left for a sink: a put of a chunk told so.
-- Before that exchange, which ends the history, the history held the sinks; behind it the last one
-- that was created has the last number.
pub record LastSink (collector : List ℕ) (n : ℕ) (history : History) : Type 0 where
  pub exchange : History
  pub earlier : History
  pub split : history ≡ exchange ++ earlier
  pub before : Sinks
  pub behind : Sinks
  pub collector_is : before.collector ≡ collector
  pub start : before.born ≡ n
  pub held : Holds before earlier
  pub told : ToldSpent (process before) n before behind (Some earlier) (Some history)
  pub none : behind.current ≡ None
  pub last : behind.number ≡ last_number

-- ---- all numbers

-- no number is left for a segment that is needed now
abbrev pub IsSpentArchive : ℕ → History → Type 0
IsSpentArchive n history =
    (n ≡ last_number) × LacksNumbers history

-- Which numbers are spent: those of the collector's starts, of the sinks of its start, or of the
-- archive's segments.
pub data IsSpentRound (collector : List ℕ) (n : ℕ) (history : History) : Type 0 where
  starts : n ≡ last_number
      → number_in (file (files_after history) (BornFile collector)) ≡ last_number
      → IsSpentRound collector n history
  sinks : LastSink collector n history → IsSpentRound collector n history
  segments : IsSpentArchive n history → IsSpentRound collector n history
