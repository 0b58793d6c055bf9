-- What the fields of a reader stand for.
use Rattle.std.specs.Prelude.{◌≡◌, ◌+◌, ◌==◌, List, map, take, is_some, if◌then◌else◌}
use Rattle.std.specs.Prelude.{Option, Some, None, Result}
use Rattle.chk_site.specs.declared.acts.Who.{Who}
use Rattle.chk_site.specs.declared.acts.OutsideFault.{OutsideFault}
use Rattle.chk_site.specs.declared.suffixes.Piece.{Piece}
use Rattle.chk_site.specs.History.{History}
use Rattle.chk_tail.specs.declared.step.Step.{Step}
use Rattle.chk_tail.specs.declared.step.Step.TheVariants.{Bytes, AtEnd}
use Rattle.chk_tail.specs.Taking.{taken_of}
use Rattle.chk_tail.specs.Walks.{Spot, Walks, behind, mark_behind}
use Rattle.chk_rotate.specs.declared.place.Mark.{Mark}
use Rattle.chk_rotate.specs.declared.reader.RotTail.TheInside.{Inside}
use Rattle.chk_rotate.specs.Marks.{RiseTo, newest_at}
use Rattle.chk_rotate.specs.Readers.{Reader, way_of, gone_on}

-- a mark as contracts see it
abbrev pub mark_spot : Mark → Spot
mark_spot m = record { after = m.after; first = m.first; offset = m.first }

-- some marks, seen so
abbrev pub marks_of : List Mark → List Spot
marks_of marks = map mark_spot marks

abbrev pub reader_view : Inside → Reader
reader_view t =
    record {
      path = t.path;
      lines = t.lines;
      marks = marks_of t.marks.items;
      read = newest_at (marks_of t.marks.items) t.offset;
    }

-- its marks rise, up to the place read
abbrev pub IsSoundReader : Inside → Type 0
IsSoundReader t = RiseTo (marks_of t.marks.items) t.offset

-- what a step gives of a piece, where it ends with it
abbrev pub given_of : Reader → Piece → Option Step
given_of r piece =
    if taken_of r.lines piece == 0 then (if is_some piece.ended then None else Some AtEnd)
    else Some (Bytes (take (taken_of r.lines piece) piece.bytes)
    (r.read.offset + taken_of r.lines piece))

-- the reader behind what is taken of a piece
abbrev pub past_piece : Piece → Reader → Reader
past_piece piece r =
    gone_on (mark_behind r.read piece.ended (taken_of r.lines piece))
    (behind r.read piece.ended (taken_of r.lines piece)) r

-- The reads were made in turn, and the reader has gone on as they say, also where the last one was
-- refused.
pub record Walked (who : Who) (old : Reader) (result : Result Step OutsideFault) (new : Reader)
    (before after : Option History) : Type 0 where
  pub marks : List Spot
  pub next : Spot
  pub walks : Walks (way_of who old) result next old.read marks before after
  pub is : new ≡ gone_on marks next old
