-- What a step of a reader adds to what its agent knows.
use Rattle.std.proofs.Common.{List, [], ◌∷◌, Result}
use Rattle.chk_site.specs.declared.acts.OutsideFault.{OutsideFault}
use Rattle.chk_site.specs.History.{History}
use Rattle.chk_chunk.specs.Keys.{Stream}
use Rattle.chk_world.specs.Checkpoints.{Line}
use Rattle.chk_world.specs.Standing.{Stands}
use Rattle.chk_tail.specs.declared.step.Step.{Step}
use Rattle.chk_tail.specs.Walks.{Spot}
use Rattle.chk_agent_adaptor.specs.Facts.{GaveChunk, IsLong}

-- a line at this place
abbrev pub at_spot : Line → Spot → Line
at_spot l p = record l { offset = p.offset; first = p.first; after = p.after }

-- each place behind a passed generation stands, and so does its offset as the end of the one
-- before
abbrev pub MarksAre : Stream → Line → Spot → List Spot → Spot → History → Type 0
MarksAre s l p [] next history = Unit {0}
MarksAre s l p (m ∷ marks) next history =
    Stands history s (at_spot l m) × Stands history s (at_spot l (record p { offset = m.offset }))
    × MarksAre s l m marks next history

-- The place behind the step stands, so do those behind the generations that it passed, and each
-- chunk of the bytes that it gave. The log isn't shorter than the place.
pub record WalkFacts (s : Stream) (l : Line) (p : Spot) (marks : List Spot)
    (result : Result Step OutsideFault) (next : Spot) (history : History) : Type 0 where
  pub next_stands : Stands history s (at_spot l next)
  pub marks_are : MarksAre s l p marks next history
  pub chunk : GaveChunk s l.start result history
  pub long : IsLong result
