-- Runs of a reader that is fed: what is fed to it, and what it answers.
use Rattle.std.specs.Prelude.{◌≡◌, ℕ, List, [], ◌∷◌, ◌++◌}
use Rattle.chk_seqfile.specs.Entries.{Placed}
use Rattle.chk_salvage.specs.Feeding.{fed_place, fed_limit, fed_marker, fed_rest, record_fed, Answered}
use Rattle.chk_salvage.specs.declared.pieces.Pieces.{Pieces}
use Rattle.chk_salvage.specs.declared.fed.Fed.{Fed}

-- a piece that is fed, or an answer that is given
pub data Act : Type 0 where
  Feeds : List ℕ → Act
  Gives : Fed → Act

-- all bytes that are fed, in order
abbrev pub fed_by : List Act → List ℕ
fed_by [] = []
fed_by (Feeds piece ∷ acts) = piece ++ fed_by acts
fed_by (Gives answer ∷ acts) = fed_by acts

-- all records that are given, in order
abbrev pub given_by : List Act → List Placed
given_by [] = []
given_by (Feeds piece ∷ acts) = given_by acts
given_by (Gives answer ∷ acts) = record_fed answer ++ given_by acts

-- a piece was fed
pub record WasFed (old new : Pieces) (piece : List ℕ) : Type 0 where
  pub limit : fed_limit new ≡ fed_limit old
  pub marker : fed_marker new ≡ fed_marker old
  pub place : fed_place new ≡ fed_place old
  pub rest : fed_rest new ≡ fed_rest old ++ piece

-- a reader goes through these acts, and is another one then
abbrev pub Runs : Pieces → List Act → Pieces → Type 0
Runs p [] q = p ≡ q
Runs p (Feeds piece ∷ acts) q = (r : Pieces) × WasFed p r piece × Runs r acts q
Runs p (Gives answer ∷ acts) q = (r : Pieces) × Answered p r answer × Runs r acts q
