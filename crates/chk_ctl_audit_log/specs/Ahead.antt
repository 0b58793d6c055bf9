-- What was read of a log, and how much of it is compared.
use Rattle.std.specs.Prelude.{◌≡◌, ℕ, ◌+◌, ◌-◌, ◌<◌, ◌≤◌, Bool, true, false, List, [], ◌++◌}
use Rattle.std.specs.Prelude.{length, take, drop, get_or, Option, Result, Ok, Err}
use Rattle.chk_site.specs.declared.acts.OutsideFault.{OutsideFault}
use Rattle.chk_site.specs.declared.acts.Who.{Who}
use Rattle.chk_site.specs.History.{History, Every}
use Rattle.chk_site.specs.Site.{Adds}
use Rattle.chk_tail.specs.declared.step.Step.{Step}
use Rattle.chk_tail.specs.declared.step.Step.TheVariants.{Bytes}
use Rattle.chk_rotate.specs.Readers.{Reader, Stepped}
use Rattle.chk_world.specs.JobSteps.{IsOf, ReadsFile}
use Rattle.chk_ctl_audit_log.specs.Summing.{IsOver}
use Rattle.chk_ctl_audit_log.specs.declared.ahead.Ahead.{Ahead}
use Rattle.chk_ctl_audit_log.specs.declared.ahead.Next.{Next}
use Rattle.chk_ctl_audit_log.specs.declared.ahead.Next.TheVariants.{Same, Differs, Ends}

-- The reader's steps in turn, each of which gave bytes, with reads of files between them: all of
-- the bytes, and where it stands then.
pub data ReadsOn (who : Who) (from : Reader) : List ℕ → Reader → Option History → Option History
    → Type 0 where
  none : {now : Option History} → ReadsOn who from [] from now now
  more : {text bytes : List ℕ} {end : ℕ} {at next : Reader} {old mid new : Option History}
      → ReadsOn who from text at old mid → Stepped who at (Ok (Bytes bytes end)) next mid new
      → ReadsOn who from (text ++ bytes) next old new
  beside : {text : List ℕ} {at : Reader} {old mid new : Option History}
      → ReadsOn who from text at old mid → Adds mid new (Every (IsOf ReadsFile))
      → ReadsOn who from text at old new

-- what was read and isn't compared, and the offset of its first byte
abbrev pub left_of : Ahead → List ℕ
left_of l = drop l.used l.bytes

abbrev pub place_of : Ahead → ℕ
place_of l = l.reader.read.offset - length (left_of l)

-- the reader that began there has read these bytes, which are compared, and those that are left
pub record LogAt (who : Who) (from : Reader) (passed : List ℕ) (l : Ahead)
    (before now : Option History) : Type 0 where
  pub text : List ℕ
  pub reads : ReadsOn who from text l.reader before now
  pub is : text ≡ passed ++ left_of l
  pub plain : l.reader.lines ≡ false
  pub place : l.reader.read.offset ≡ from.read.offset + length text

-- it has read just these, and then a step gave nothing
pub record EndsThere (who : Who) (from : Reader) (text : List ℕ) (before now : Option History)
    : Type 0 where
  pub middle : Option History
  pub reader : Reader
  pub next : Reader
  pub reads : ReadsOn who from text reader before middle
  pub step : Step
  pub over : IsOver step
  pub stepped : Stepped who reader (Ok step) next middle now

-- there are bytes left, or a step gave nothing
abbrev pub Filled : Who → Reader → List ℕ → Ahead → Option History → Result Bool OutsideFault
    → Option History → Type 0
Filled who from passed l before (Ok true) now =
    LogAt who from passed l before now × (0 < length (left_of l))
Filled who from passed l before (Ok false) now = EndsThere who from passed before now
Filled who from passed l before (Err fault) now = Unit {0}

-- the piece of a step that gave one is what is left then
abbrev pub Takes : Step → Ahead → Ahead → Bool → Type 0
Takes (Bytes bytes end) old new some =
    (some ≡ true) × (new.reader ≡ old.reader) × (new.bytes ≡ bytes) × (new.used ≡ 0)
Takes step old new some = (some ≡ false) × (new ≡ old)

-- the first bytes of both are the same and are passed, or they differ
abbrev pub Passed : List ℕ → Ahead → Ahead → Next → Type 0
Passed rest old new (Same n) =
    (0 < n) × (n ≤ length rest) × (take n rest ≡ take n (left_of old))
    × (new.reader ≡ old.reader) × (left_of new ≡ drop n (left_of old))
Passed rest old new (Differs at) =
    (new ≡ old) × (at ≡ place_of old)
    × (0 < length (left_of old) → get_or rest 0 0 ≡ get_or (left_of old) 0 0 → ⊥)
Passed rest old new (Ends at) = ⊥
