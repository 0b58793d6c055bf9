-- Streams' records, followed from the newest one back.
use Rattle.std.specs.Prelude.{◌≡◌, ℕ, ◌<◌, ◌≤◌, List, [], ◌∷◌, length, slice_index, None, if◌then◌else◌}
use Rattle.chk_world.specs.Books.{End}
use Rattle.chk_world.proofs.Each.{Each}
use Rattle.chk_record_index.specs.Heads.{Head}
use Rattle.chk_record_reader.specs.Courses.{is_head_of, first_break, reached}
use Rattle.chk_record_reader.specs.OnePass.{end_at, IsListed}

-- where the stream's records among these begin; without any, where it ends in the book
abbrev pub begin_in : End → List Head → ℕ
begin_in e [] = e.end
begin_in e (h ∷ hs) = if is_head_of e.stream h then h.begin else begin_in e hs

-- the stream's records among these go on from each other, up to its end in the book
pub record RunsBack (e : End) (hs : List Head) : Type 0 where
  pub unbroken : first_break e.stream e (begin_in e hs) hs ≡ None
  pub reaches : reached e.stream (begin_in e hs) hs ≡ e.end

-- so it is with each stream in the book, and no other one has records
pub record AllRunBack (es : List End) (hs : List Head) : Type 0 where
  pub listed : Each (IsListed es) hs
  pub run : (k : ℕ) → k < length es → RunsBack (end_at es k) hs

-- each stream's records begin at its place or below it
abbrev pub ReachPlaces : List End → List ℕ → List Head → Type 0
ReachPlaces es places hs = (k : ℕ) → k < length es
    → begin_in (end_at es k) hs ≤ slice_index places k

-- each stream's records begin at its start
abbrev pub ReachStarts : List End → List Head → Type 0
ReachStarts es hs = (k : ℕ) → k < length es → begin_in (end_at es k) hs ≡ (end_at es k).start

-- they run so, and these numbers are where each stream's begin
pub record AreBegins (es : List End) (hs : List Head) (begins : List ℕ) : Type 0 where
  pub all : AllRunBack es hs
  pub are : (k : ℕ) → k < length es → slice_index begins k ≡ begin_in (end_at es k) hs
