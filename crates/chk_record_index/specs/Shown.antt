-- What own reads of a file show of its bytes, on every site: no step of others and no state of the files is asked for.
use Rattle.std.specs.Prelude.{◌≡◌, ◌⊎◌, ℕ, ◌≤◌, ◌<◌, ◌^◌, true, List, [], ◌∷◌, ◌++◌, length, drop, Option, Some, None, Result, Ok, Err}
use Rattle.chk_bytes.specs.Words.{BeginsWith}
use Rattle.chk_site.specs.declared.acts.OutsideFault.{OutsideFault}
use Rattle.chk_site.specs.declared.acts.CallFault.TheVariants.{Missing, Short}
use Rattle.chk_site.specs.declared.acts.ActAnswer.{ActAnswer}
use Rattle.chk_site.specs.declared.acts.ActAnswer.TheVariants.{Done, Refused}
use Rattle.chk_site.specs.Acts.{Deed, Reads, deed}
use Rattle.chk_site.specs.History.{Step, History, Every}

-- the bytes that a read gave: none where the file wasn't there, or ended before the place
abbrev pub piece_in : ActAnswer → Option (List ℕ)
piece_in (Done (piece ∷ []) size of) = Some piece
piece_in (Refused Missing) = Some []
piece_in (Refused (Short size)) = Some []
piece_in answer = None

-- the bytes have the piece at this place, and they end there where so many were asked for and none came
pub record HasThere (bytes : List ℕ) (at max : ℕ) (piece : List ℕ) : Type 0 where
  pub stands : BeginsWith (drop at bytes) piece
  pub ends : length piece ≡ 0 → 0 < max → length bytes ≤ at

-- the bytes have what a read gave
abbrev pub HasGiven : List ℕ → ℕ → ℕ → Option (List ℕ) → Type 0
HasGiven bytes at max (Some piece) = HasThere bytes at max piece
HasGiven bytes at max None = Unit {0}

-- the same of any call: it says nothing of the file where it isn't a read of it
abbrev pub Bears : List ℕ → List ℕ → Deed → ActAnswer → Type 0
Bears name bytes (Reads which at max) answer = which ≡ name → HasGiven bytes at max (piece_in answer)
Bears name bytes call answer = Unit {0}

-- the bytes have, each at its place, what the site's own reads of this file gave among the added steps
abbrev pub Agree : List ℕ → List ℕ → History → History → Type 0
Agree name bytes = Every (λ before step. step.own ≡ true → Bears name bytes (deed step.act) step.act.answer)

-- The own reads of this file among the added steps show that its bytes are so: some bytes have what those reads gave, and all
-- bytes that have it are so.
pub record Shown (name : List ℕ) (Are : List ℕ → Type 0) (added history : History) : Type 0 where
  pub some : List ℕ
  pub small : length some < 2 ^ 63
  pub agree : Agree name some added history
  pub each : (bytes : List ℕ) → length bytes < 2 ^ 63 → Agree name bytes added history → Are bytes

-- it holds of a stretch of the added steps
pub record Within (P : History → History → Type 0) (added history : History) : Type 0 where
  pub before : History
  pub part : History
  pub behind : History
  pub is : added ≡ behind ++ (part ++ before)
  pub holds : P part (before ++ history)

-- bytes agree with the added steps just where they have this piece there
pub record Gave (name : List ℕ) (at max : ℕ) (piece : List ℕ) (added history : History) : Type 0 where
  pub each : (bytes : List ℕ) → Agree name bytes added history → HasThere bytes at max piece
  pub any : (bytes : List ℕ) → HasThere bytes at max piece → Agree name bytes added history

-- the step is an own read of this file, which wasn't there
pub record Misses (name : List ℕ) (step : Step) : Type 0 where
  pub own : step.own ≡ true
  pub at : ℕ
  pub max : ℕ
  pub asks : deed step.act ≡ Reads name at max
  pub missed : step.act.answer ≡ Refused Missing

-- one of the added steps is such a read
abbrev pub HasMissed : List ℕ → History → Type 0
HasMissed name [] = ⊥
HasMissed name (step ∷ added) = Misses name step ⊎ HasMissed name added

-- what one read at a place shows, by what it is taken for
abbrev pub ShowsPiece : List ℕ → ℕ → ℕ → Result (Option (List ℕ)) OutsideFault → History → History → Type 0
ShowsPiece name at max (Ok (Some piece)) added history = Gave name at max piece added history
ShowsPiece name at max (Ok None) added history = Gave name at max [] added history × HasMissed name added
ShowsPiece name at max (Err fault) added history = Unit {0}

-- the same, where a file that isn't there counts as empty
abbrev pub ShowsBytes : List ℕ → ℕ → ℕ → Result (List ℕ) OutsideFault → History → History → Type 0
ShowsBytes name at max (Ok piece) added history = Gave name at max piece added history
ShowsBytes name at max (Err fault) added history = Unit {0}

-- what the reads of a whole file show: its bytes are those that were given; or one of them found no file
abbrev pub ShowsFile : List ℕ → Result (Option (List ℕ)) OutsideFault → History → History → Type 0
ShowsFile name (Ok (Some given)) added history = Shown name (λ bytes. bytes ≡ given) added history
ShowsFile name (Ok None) added history = HasMissed name added
ShowsFile name (Err fault) added history = Unit {0}
