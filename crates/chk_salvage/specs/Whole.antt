-- What is answered of whole files.
use Rattle.std.specs.Prelude.{◌≡◌, ℕ, ◌<◌, List, length, Ok}
use Rattle.chk_seqfile.specs.declared.headers.HeaderRef.{HeaderRef}
use Rattle.chk_seqfile.specs.Headers.{read_header}
use Rattle.chk_seqfile.specs.Entries.{records_of}
use Rattle.chk_salvage.specs.Front.{IsFront, DamageAt, kept, skipped, salvage_of}
use Rattle.chk_salvage.specs.declared.outcome.Front.{Front}
use Rattle.chk_salvage.specs.declared.outcome.FrontStop.{FrontStop}
use Rattle.chk_salvage.specs.declared.outcome.FrontStop.TheVariants.{End, Damaged}
use Rattle.chk_salvage.specs.declared.outcome.Salvaged.{Salvaged}

-- the longest sound front ends there: at the end of the bytes, or below it where an entry can't be read
abbrev pub IsStopOf : List ℕ → List ℕ → FrontStop → Type 0
IsStopOf marker bytes End = IsFront bytes (length bytes)
IsStopOf marker bytes (Damaged at why) = (at < length bytes) × IsFront bytes at × DamageAt marker bytes at why

-- the records of the longest sound front, and where it ends
pub record IsFrontOf (bytes : List ℕ) (front : Front) : Type 0 where
  pub head : HeaderRef
  pub header : read_header bytes ≡ Ok head
  pub entries : front.entries ≡ records_of bytes
  pub stop : IsStopOf head.marker bytes front.stop

-- what can be read of the bytes, and what is skipped
pub record IsSalvageOf (bytes : List ℕ) (found : Salvaged) : Type 0 where
  pub entries : found.entries ≡ kept (salvage_of bytes)
  pub skipped : found.skipped ≡ skipped (salvage_of bytes)
