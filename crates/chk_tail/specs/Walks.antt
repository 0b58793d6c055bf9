-- The steps of a reader of a log: which reads it makes, and what it gives.
use Rattle.std.specs.Prelude.{◌≡◌, ◌⊎◌, ℕ, ◌+◌, ◌-◌, ◌<◌, ◌==◌, Bool, true, false, IsTrue}
use Rattle.std.specs.Prelude.{List, [], ◌∷◌, take, codes, is_some, if◌then◌else◌}
use Rattle.std.specs.Prelude.{Option, Some, None, Result, Ok, Err}
use Rattle.chk_site.specs.declared.acts.Who.{Who}
use Rattle.chk_site.specs.declared.acts.Call.TheVariants.{LogRead}
use Rattle.chk_site.specs.declared.acts.CallFault.{CallFault}
use Rattle.chk_site.specs.declared.acts.CallFault.TheVariants.{Short}
use Rattle.chk_site.specs.declared.acts.OutsideFault.{OutsideFault}
use Rattle.chk_site.specs.declared.acts.OutsideFault.TheVariants.{NoMemory as no_memory}
use Rattle.chk_site.specs.declared.suffixes.Piece.{Piece}
use Rattle.chk_site.specs.Suffixes.{is_after, is_suffix}
use Rattle.chk_site.specs.History.{History}
use Rattle.chk_site.specs.Site.{Adds, Asked, asked, answered, Calls, Ends, piece_given}
use Rattle.chk_tail.specs.declared.step.Step.{Step}
use Rattle.chk_tail.specs.declared.step.Step.TheVariants.{Bytes, AtEnd, Shrank}
use Rattle.chk_tail.specs.Taking.{asks_at, taken_of}

-- a place of a log: the suffix behind which its generation comes, the offset at which that begins,
-- and its own offset
pub record Spot : Type 0 where
  pub after : Option (List ℕ)
  pub first : ℕ
  pub offset : ℕ

-- how a reader reads: for whom, which log, by lines or not, and over the generations of the path or
-- in the base file alone
pub record Way : Type 0 where
  pub who : Who
  pub path : List ℕ
  pub lines : Bool
  pub rotated : Bool

-- how the part behind a suffix stands in a call
abbrev pub part : Bool → Option (List ℕ) → List ℕ
part false after = codes "base"
part true None = codes "-"
part true (Some suffix) = suffix

-- the place of the file
abbrev pub in_file : Spot → ℕ
in_file p = p.offset - p.first

-- the read of a reader at a place; the offset counts against the end of all places
abbrev pub reading : Way → Spot → Asked
reading way p =
    asked way.who LogRead (way.path ∷ part way.rotated p.after ∷ []) (in_file p)
    (asks_at p.offset)

-- the place behind some bytes, and behind the generation that they ended, where they ended one
abbrev pub behind : Spot → Option (List ℕ) → ℕ → Spot
behind p None n = record p { offset = p.offset + n }
behind p (Some suffix) n =
    record { after = Some suffix; first = p.offset + n; offset = p.offset + n }

-- the place behind a generation that the bytes ended, where they ended one
abbrev pub mark_behind : Spot → Option (List ℕ) → ℕ → List Spot
mark_behind p None n = []
mark_behind p (Some suffix) n = behind p (Some suffix) n ∷ []

-- the same of what a read gave
abbrev pub given_marks : Bool → Spot → Result Piece CallFault → List Spot
given_marks lines p (Ok piece) = mark_behind p piece.ended (taken_of lines piece)
given_marks lines p (Err fault) = []

-- A generation that a read ended comes after the suffix of the place. A read of the base file ends
-- none.
abbrev pub EndsAfter : Way → Spot → Option (List ℕ) → Type 0
EndsAfter way p None = Unit {0}
EndsAfter way p (Some suffix) =
    IsTrue way.rotated × IsTrue (is_suffix suffix) × IsTrue (is_after p.after suffix)

-- what a step gives of a piece that was read at this offset
abbrev pub step_of : Bool → ℕ → Piece → Step
step_of lines at piece =
    if taken_of lines piece == 0 then AtEnd
    else Bytes (take (taken_of lines piece) piece.bytes) (at + taken_of lines piece)

-- A read that decides: it gave bytes of which some are taken, or none and no generation's end, or
-- it was refused.
abbrev pub Decides : Way → Spot → Result Piece CallFault → Result Step OutsideFault → Spot → Type 0
Decides way p (Ok piece) result next =
    EndsAfter way p piece.ended
    × (((0 < taken_of way.lines piece)
    × (result ≡ Ok (Bytes (take (taken_of way.lines piece) piece.bytes)
    (p.offset + taken_of way.lines piece)))
    × (next ≡ behind p piece.ended (taken_of way.lines piece)))
    ⊎ ((taken_of way.lines piece ≡ 0) × (piece.ended ≡ None) × (result ≡ Ok AtEnd) × (next ≡ p)))
Decides way p (Err (Short size)) result next = (result ≡ Ok (Shrank (in_file p) size)) × (next ≡ p)
Decides way p (Err fault) (Err outside) next =
    Ends {T = Piece} LogRead (Err fault) outside × (next ≡ p)
Decides way p (Err fault) (Ok gave) next = ⊥

-- The reads of one step, in turn: some that end a generation without bytes, and one that decides.
-- `marks` are the places behind the generations that were passed, the oldest first. Without memory
-- for such a place the step ends at that read.
pub data Walks (way : Way) (result : Result Step OutsideFault) (next : Spot)
    : Spot → List Spot → Option History → Option History → Type 0 where
  decided : {p : Spot} {old new : Option History} (given : Result Piece CallFault)
      → Adds old new (Calls (reading way p) (answered piece_given given))
      → Decides way p given result next
      → Walks way result next p (given_marks way.lines p given) old new
  walked : {p : Spot} {marks : List Spot} {old mid new : Option History}
      (piece : Piece) (suffix : List ℕ)
      → piece.ended ≡ Some suffix → EndsAfter way p (Some suffix) → taken_of way.lines piece ≡ 0
      → Adds old mid (Calls (reading way p) (answered piece_given (Ok piece)))
      → Walks way result next (behind p (Some suffix) 0) marks mid new
      → Walks way result next p (behind p (Some suffix) 0 ∷ marks) old new
  unkept : {p : Spot} {old new : Option History} (piece : Piece) → IsTrue (is_some piece.ended)
      → Adds old new (Calls (reading way p) (answered piece_given (Ok piece)))
      → result ≡ Err no_memory → next ≡ p
      → Walks way result next p [] old new
