-- What a reader takes of the bytes that a read gave.
use Rattle.std.specs.Prelude.{ℕ, ◌+◌, ◌-◌, ◌≤◌, ◌<◌, Bool, ◌||◌, not, ◌==◌, min}
use Rattle.std.specs.Prelude.{is_some, if◌then◌else◌, List, [], ◌∷◌, length, option_to_list}
use Rattle.chk_site.specs.declared.suffixes.Piece.{Piece}
use Rattle.chk_site.specs.declared.acts.ActAnswer.TheVariants.{Done}
use Rattle.chk_site.specs.Honest.{AtLogRead}
use Rattle.chk_site.specs.Logs.{Shown}
use Rattle.chk_site.specs.CutLaws.{MayStop}
use Rattle.chk_site.specs.declared.limits.TheConstants.{PIECE_BYTES, LOG_END}

-- how many bytes a read at this place asks for: none at or past the place at which each log ends
abbrev pub asks_at : ℕ → ℕ
asks_at at = min (LOG_END - at) PIECE_BYTES

-- how many bytes stand up to the last newline, with it
abbrev pub to_last_newline : List ℕ → ℕ
to_last_newline [] = 0
to_last_newline (b ∷ bytes) =
    if to_last_newline bytes == 0 then (if b == 10 then 1 else 0) else to_last_newline bytes + 1

-- how many bytes a reader takes: without lines, or at the end of a rotated generation, all of
-- them; else those up to the last newline, or a whole piece without one
abbrev pub taken : Bool → Bool → List ℕ → ℕ
taken lines ends piece =
    if not lines || ends then length piece
    else if to_last_newline piece == 0
    then (if length piece == PIECE_BYTES then PIECE_BYTES else 0)
    else to_last_newline piece

-- the same of what a read gave
abbrev pub taken_of : Bool → Piece → ℕ
taken_of lines piece = taken lines (is_some piece.ended) piece.bytes

-- What is taken ends where a reader may stop, and no such place comes later among the next bytes
-- that were asked for and there.
pub record TakesMost (lines : Bool) (piece : Piece) (g : Shown) (at max : ℕ) : Type 0 where
  pub stop : MayStop lines g (at + taken_of lines piece)
  pub last : (q : ℕ) → at + taken_of lines piece < q → q ≤ at + max → q ≤ length g.bytes
      → MayStop lines g q → ⊥

-- the law of a reader that stands where it may stop
abbrev pub ReaderTakesMost : Type 0
ReaderTakesMost =
    (lines : Bool) (piece : Piece) (g : Shown) (at max : ℕ)
    → max ≤ PIECE_BYTES → MayStop lines g at
    → AtLogRead (Done (piece.bytes ∷ option_to_list piece.ended) 0 0) at max g
    → TakesMost lines piece g at max
