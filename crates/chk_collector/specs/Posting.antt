-- What the puts of a post's chunks lead to.
use Rattle.chk_collector.specs.Handled.{EndsInPlace}
use Rattle.std.specs.Prelude.{◌≡◌, ◌⊎◌, ℕ, ◌*◌, ◌≤◌, List, [], ◌∷◌, length, map, Contains, Result}
use Rattle.chk_site.specs.History.{History}
use Rattle.chk_chunk.specs.Keys.{Chunk}
use Rattle.chk_http_grammar.specs.Messages.{Ack, ack_of, acks_text}
use Rattle.chk_world.specs.Collectors.{Handling, Appended, IsPosted, Tells, TellAll, with_appends}
use Rattle.chk_world.specs.Places.{AtTold}
use Rattle.chk_sink.specs.declared.fault.SinkFault.{SinkFault}
use Rattle.chk_sink.specs.declared.fault.SinkFault.TheVariants.{Damaged}
use Rattle.chk_sink.specs.States.{State, process}
use Rattle.chk_sink.specs.Held.{Handles}
use Rattle.chk_sink.specs.Puts.{IsHeader}
use Rattle.chk_sink.specs.Closes.{OnceDone}
use Rattle.chk_collector.specs.Answering.{TellFirst}
use Rattle.chk_collector.specs.OwnLines.{AreOfStart}

-- each is a chunk of a post that was taken and not yet answered
abbrev pub ArePosted : List Handling → List Chunk → Type 0
ArePosted handled chunks = (c : Chunk) → Contains chunks c → IsPosted handled c

-- the appends are headers of sinks, and one record for each of these chunks, in order
abbrev pub TellEach : List Chunk → List Appended → Type 0
TellEach [] [] = Unit {0}
TellEach (c ∷ cs) [] = ⊥
TellEach [] (w ∷ appends) = IsHeader w × TellEach [] appends
TellEach (c ∷ cs) (w ∷ appends) =
    (IsHeader w × TellEach (c ∷ cs) appends) ⊎ (Tells c (ack_of w.stem w.end) w × TellEach cs appends)

-- the lines are one for each chunk, each of an append of its own
pub record TellAppends (chunks : List Chunk) (lines : List ℕ) (appends : List Appended) : Type 0 where
  pub acks : List Ack
  pub lines_are : lines ≡ acks_text acks
  pub tell : TellAll chunks acks appends
  pub each : TellEach chunks appends

-- the history holds the sinks, and since these messages were taken some appends were made, of the first chunks; where
-- all were put the lines tell of them
pub record PutsHold (s : State) (handled : List Handling) (chunks : List Chunk) (lines : List ℕ) (result : Result (Unit {0}) SinkFault)
    (history : History) : Type 0 where
  pub appends : List Appended
  pub handles : Handles s (map (with_appends appends) handled) history
  pub first : TellFirst chunks appends
  pub told : OnceDone result (TellAppends chunks lines appends)

-- the same of a told history
abbrev pub WroteAll : List (List ℕ) → State → List Handling → List Chunk → List ℕ → Result (Unit {0}) SinkFault → History → Type 0
WroteAll stamped s handled chunks lines result history = AtTold stamped (process s) (PutsHold s handled chunks lines result) history

-- there is one line for each chunk, none of more than 126 bytes, of a sink of the start, and the last one is the place of the
-- sink that is written to
pub record HasLineEach (s : State) (chunks : List Chunk) (lines : List ℕ) : Type 0 where
  pub acks : List Ack
  pub lines_are : lines ≡ acks_text acks
  pub as_many : length acks ≡ length chunks
  pub short : length lines ≤ 126 * length chunks
  pub place : EndsInPlace s acks
  pub of_start : AreOfStart s acks

-- a put finds nothing damaged
abbrev pub IsOfPut : SinkFault → Type 0
IsOfPut (Damaged name at) = ⊥
IsOfPut fault = Unit {0}
