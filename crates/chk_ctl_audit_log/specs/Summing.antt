-- What was read of a log, and the digest of it.
use Rattle.std.specs.Prelude.{◌≡◌, ℕ, ◌+◌, ◌-◌, ◌<◌, ◌≤◌, Bool, true, false, List, [], ◌++◌}
use Rattle.std.specs.Prelude.{length, max, take, Option, None, Result, Ok, Err}
use Rattle.chk_site.specs.declared.acts.OutsideFault.{OutsideFault}
use Rattle.chk_site.specs.declared.acts.Who.{Who}
use Rattle.chk_site.specs.History.{History}
use Rattle.chk_tail.specs.declared.step.Step.{Step}
use Rattle.chk_tail.specs.declared.step.Step.TheVariants.{Bytes}
use Rattle.chk_tail.specs.Walks.{Spot}
use Rattle.chk_rotate.specs.Readers.{Reader, reader_at, Stepped}
use Rattle.sha2.specs.declared.Sha256.{Sha256}
use Rattle.sha2.specs.Hashers.{Holds256}
use Rattle.sha2.specs.Sha256.{sha256}
use Rattle.chk_ctl_audit_log.specs.declared.summing.LogSum.{LogSum}
use Rattle.chk_ctl_audit_log.specs.declared.summing.LogSum.TheVariants.{Whole, Ends}

-- the place of an offset in the oldest generation, which begins at this one; or its beginning,
-- where that lies behind the offset
abbrev pub place : ℕ → ℕ → Spot
place begin start = record { after = None; first = begin; offset = max begin start }

-- The reader's steps in turn, each of which gave bytes: all of them, and where it stands then.
pub data Reads (who : Who) (from : Reader) : List ℕ → Reader → Option History → Option History
    → Type 0 where
  none : {now : Option History} → Reads who from [] from now now
  more : {text bytes : List ℕ} {end : ℕ} {at next : Reader} {old mid new : Option History}
      → Reads who from text at old mid → Stepped who at (Ok (Bytes bytes end)) next mid new
      → Reads who from (text ++ bytes) next old new

-- the step gave nothing
abbrev pub IsOver : Step → Type 0
IsOver (Bytes bytes end) = ⊥
IsOver step = Unit {0}

-- At least so many bytes were read, and this is the digest of the first of them, so many.
pub record IsDigest (who : Who) (from : Reader) (count : ℕ) (digest : List ℕ)
    (before after : Option History) : Type 0 where
  pub text : List ℕ
  pub reader : Reader
  pub reads : Reads who from text reader before after
  pub enough : count ≤ length text
  pub digest_is : digest ≡ sha256 (take count text)

-- Fewer bytes were read, and then a step gave nothing.
pub record IsShort (who : Who) (from : Reader) (at end : ℕ) (before after : Option History) : Type 0
  where
    pub text : List ℕ
    pub middle : Option History
    pub reader : Reader
    pub next : Reader
    pub reads : Reads who from text reader before middle
    pub step : Step
    pub over : IsOver step
    pub stepped : Stepped who reader (Ok step) next middle after
    pub place : at ≡ from.read.offset + length text
    pub below : at < end

-- the digest of what a reader reads up to an offset, or where that ends before
abbrev pub SummedOn : Who → Reader → ℕ → Result LogSum OutsideFault → Option History
    → Option History → Type 0
SummedOn who from end (Ok (Whole digest)) before after =
    IsDigest who from (end - from.read.offset) digest before after
SummedOn who from end (Ok (Ends at)) before after = IsShort who from at end before after
SummedOn who from end (Err fault) before after = Unit {0}

-- the same of the log, whose oldest generation that is there begins at this offset
abbrev pub SummedLog : Who → List ℕ → ℕ → ℕ → ℕ → Result LogSum OutsideFault → Option History
    → Option History → Type 0
SummedLog who path begin start end result before after =
    SummedOn who (reader_at path false (place begin start)) end result before after

-- A step of the reader: of the bytes that it gave the hasher took the first, so many at most.
pub record TookBytes (who : Who) (most : ℕ) (old new : Reader) (before after : Sha256)
    (earlier later : Option History) : Type 0 where
  pub bytes : List ℕ
  pub end : ℕ
  pub stepped : Stepped who old (Ok (Bytes bytes end)) new earlier later
  pub holds : (taken : List ℕ) → Holds256 before taken
      → Holds256 after (taken ++ take most bytes)

-- it gave nothing
pub record TookNone (who : Who) (old new : Reader) (earlier later : Option History) : Type 0 where
  pub step : Step
  pub over : IsOver step
  pub stepped : Stepped who old (Ok step) new earlier later

abbrev pub TookMore : Who → ℕ → Reader → Reader → Sha256 → Sha256 → Result Bool OutsideFault
    → Option History → Option History → Type 0
TookMore who most old new before after (Ok true) earlier later =
    TookBytes who most old new before after earlier later
TookMore who most old new before after (Ok false) earlier later =
    TookNone who old new earlier later
TookMore who most old new before after (Err fault) earlier later = Unit {0}
