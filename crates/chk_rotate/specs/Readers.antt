-- A reader of a log over its generations.
use Rattle.std.specs.Prelude.{◌≡◌, ℕ, max, Bool, true, List, [], ◌∷◌, ◌++◌, take}
use Rattle.std.specs.Prelude.{Option, Result, Ok, Err}
use Rattle.chk_site.specs.declared.acts.Who.{Who}
use Rattle.chk_site.specs.declared.acts.OutsideFault.{OutsideFault}
use Rattle.chk_site.specs.History.{History}
use Rattle.chk_tail.specs.declared.step.Step.{Step}
use Rattle.chk_tail.specs.Walks.{Spot, Way, Walks}
use Rattle.chk_rotate.specs.declared.place.Place.{Place}
use Rattle.chk_rotate.specs.Marks.{place_of, kept_to, RiseTo, newest_at}

-- a place as contracts see it
abbrev pub spot_of : Place → Spot
spot_of p = record { after = p.after; first = p.first; offset = p.offset }

-- The log, whether its bytes are given by lines, the places behind the generations that were passed
-- and may still be needed, the oldest first, and the place read, which lies in the last one's
-- generation.
pub record Reader : Type 0 where
  pub path : List ℕ
  pub lines : Bool
  pub marks : List Spot
  pub read : Spot

-- its marks rise to the place read, which lies in the generation of the last one
pub record IsRising (r : Reader) : Type 0 where
  pub rises : RiseTo r.marks r.read.offset
  pub newest : newest_at r.marks r.read.offset ≡ r.read

-- a reader that begins at this place
abbrev pub reader_at : List ℕ → Bool → Spot → Reader
reader_at path lines p =
    record { path = path; lines = lines; marks = record p { offset = p.first } ∷ []; read = p }

-- how it reads
abbrev pub way_of : Who → Reader → Way
way_of who r = record { who = who; path = r.path; lines = r.lines; rotated = true }

-- it has gone on to this place, behind these generations
abbrev pub gone_on : List Spot → Spot → Reader → Reader
gone_on marks next r = record r { marks = r.marks ++ marks; read = next }

-- the reader after a step: where it was refused, it is as it was
abbrev pub stepped : List Spot → Spot → Result Step OutsideFault → Reader → Reader
stepped marks next (Ok step) r = gone_on marks next r
stepped marks next (Err fault) r = r

-- The step made its reads in turn, and the reader has gone on as they say.
pub record Stepped (who : Who) (old : Reader) (result : Result Step OutsideFault) (new : Reader)
    (before after : Option History) : Type 0 where
  pub marks : List Spot
  pub next : Spot
  pub walks : Walks (way_of who old) result next old.read marks before after
  pub is : new ≡ stepped marks next result old

-- the reader goes back to an offset
abbrev pub sent_back : ℕ → Reader → Reader
sent_back o r = record r { marks = kept_to o r.marks; read = place_of r.marks o }

-- the reader with these marks, at this offset or where the last of them begins
abbrev pub at_least : List Spot → ℕ → Reader → Reader
at_least marks o r =
    record r { marks = marks; read = newest_at marks (max o (newest_at marks o).first) }

-- the reader keeps the oldest marks, so many, but the first one always, and stands at this offset
abbrev pub rewound : ℕ → ℕ → Reader → Reader
rewound count o r = at_least (take (max count 1) r.marks) o r
