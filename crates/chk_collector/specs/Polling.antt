-- What the questions for the stems of a poll lead to.
use Rattle.chk_sink.specs.declared.fault.SinkFault.TheVariants.{Damaged}
use Rattle.std.specs.Prelude.{◌≡◌, ℕ, ◌*◌, ◌≤◌, List, length, map, Option, Result, Err}
use Rattle.chk_bytes.specs.Stems.{Stem}
use Rattle.chk_site.specs.declared.acts.Who.{Who}
use Rattle.chk_site.specs.History.{History}
use Rattle.chk_http_grammar.specs.Messages.{Ack, PollRequest, acks_text}
use Rattle.chk_http.specs.Queries.{IsQuery}
use Rattle.chk_world.specs.Collectors.{Handling, CommittedLengths}
use Rattle.chk_world.specs.Places.{AtTold}
use Rattle.chk_sink.specs.declared.fault.SinkFault.{SinkFault}
use Rattle.chk_sink.specs.States.{State, process}
use Rattle.chk_sink.specs.Held.{Handles}
use Rattle.chk_sink.specs.Closes.{OnceDone}
use Rattle.chk_collector.specs.Least.{TellLeast}

-- the request is a poll for the stems of this query
abbrev pub AsksFor : List ℕ → List ℕ → Type 0
AsksFor query request = (stems : List Stem) → IsQuery stems query → PollRequest stems request

-- the lines are one for each stem, with its committed length since the taking t
pub record TellLengths (who : Who) (t : ℕ) (stems : List Stem) (lines : List ℕ) (history : History) : Type 0 where
  pub acks : List Ack
  pub lines_are : lines ≡ acks_text acks
  pub lengths : CommittedLengths who history t stems acks

-- nothing of the collector's own is ever damaged
abbrev pub IsSoundly : Result (Unit {0}) SinkFault → Type 0
IsSoundly (Err (Damaged name at)) = ⊥
IsSoundly result = Unit {0}

-- the history holds the sinks and these messages, and where all stems were asked for the lines tell their lengths
pub record PollHolds (s : State) (handled : List Handling) (t : ℕ) (stems : List Stem) (lines : List ℕ) (result : Result (Unit {0}) SinkFault)
    (history : History) : Type 0 where
  pub handles : Handles s handled history
  pub told : OnceDone result (TellLengths (process s) t stems lines history)
  pub sound : IsSoundly result

-- the same of a told history
abbrev pub CountedAll : List (List ℕ) → State → List Handling → ℕ → List Stem → List ℕ → Result (Unit {0}) SinkFault → History → Type 0
CountedAll stamped s handled t stems lines result history = AtTold stamped (process s) (PollHolds s handled t stems lines result) history

-- there is a line for each stem, in order, none of more than 126 bytes; those of this collector's
-- sinks tell at least what stays committed
pub record HasLineOf (who : Who) (stems : List Stem) (lines : List ℕ) (old new : Option History)
    : Type 0 where
  pub acks : List Ack
  pub lines_are : lines ≡ acks_text acks
  pub of_stems : map (λ a. a.stem) acks ≡ stems
  pub short : length lines ≤ 126 * length stems
  pub least : TellLeast who acks old new
