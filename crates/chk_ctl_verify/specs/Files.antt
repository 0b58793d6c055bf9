-- What one look at a file shows: the place of its damage, or none.
use Rattle.std.specs.Prelude.{◌≡◌, ℕ, ◌&&◌, ◌==◌, nat_le, nat_lt, Bool, List, [], length}
use Rattle.std.specs.Prelude.{if◌then◌else◌, Option, Some, None, Result, Ok, Err}
use Rattle.chk_bytes.specs.Numbers.{limit, spelled}
use Rattle.chk_chunk.specs.Keys.{chunk_limit}
use Rattle.chk_site.specs.declared.acts.OutsideFault.{OutsideFault}
use Rattle.chk_site.specs.declared.acts.OutsideFault.TheVariants.{Outside as site_failed}
use Rattle.chk_site.specs.declared.acts.OutsideFault.TheVariants.{NoMemory as no_memory}
use Rattle.chk_site.specs.Effect.{IsSmallFile}
use Rattle.chk_site.specs.Files.{File}
use Rattle.chk_site.specs.History.{History}
use Rattle.chk_site.specs.Runs.{anyhow, Leads}
use Rattle.chk_site.specs.Site.{Adds}
use Rattle.chk_replace.specs.Load.{Has}
use Rattle.chk_replace.specs.Replace.{LeavesFile}
use Rattle.chk_world.specs.Names.{CheckFile, spell}
use Rattle.chk_record_index.specs.Feeding.{IsBadAt}
use Rattle.chk_record_index.specs.Gathered.{HasHeads}
use Rattle.chk_record_index.specs.Heads.{Head}
use Rattle.chk_record_index.specs.Shown.{HasMissed, Shown}
use Rattle.chk_record_index.specs.declared.fault.JobFault.{JobFault}
use Rattle.chk_record_index.specs.declared.fault.JobFault.TheVariants as job
use Rattle.chk_checkpoint.specs.declared.Checkpoint.{Checkpoint}
use Rattle.chk_checkpoint.specs.declared.fault.CheckFault.{CheckFault}
use Rattle.chk_checkpoint.specs.declared.fault.CheckFault.TheVariants as check
use Rattle.chk_checkpoint.specs.Loads.{LoadedLines}
use Rattle.chk_ctl_verify.specs.declared.numbers.Held.{Held}
use Rattle.chk_ctl_verify.specs.declared.numbers.Held.TheVariants.{Nothing, Wrong, Number}
use Rattle.chk_ctl_verify.specs.Calls.{HasSize}

-- the place of damage, else the refusal
abbrev pub damage_of : JobFault → Result (Option ℕ) OutsideFault
damage_of (job.Outside call) = Err (site_failed call)
damage_of (job.Damaged name at) = Ok (Some at)
damage_of (job.Spent number) = Err no_memory
damage_of job.NoMemory = Err no_memory

-- own reads show that the file is one of chunks, or from which place on it is none
abbrev pub ChunksSeen : ℕ → List ℕ → Option ℕ → Option History → Option History → Type 0
ChunksSeen most name None old new =
    (heads : List Head) × Adds old new (Shown name (HasHeads most 0 [] heads))
ChunksSeen most name (Some at) old new = Adds old new (Shown name (λ bytes. IsBadAt most bytes at))

-- the damage at this place is one of a file that is there
abbrev pub if_there : ℕ → Option ℕ → Option ℕ
if_there at None = None
if_there at (Some size) = Some at

pub record StillThere (name : List ℕ) (at : ℕ) (found : Option ℕ) (old new : Option History)
    : Type 0 where
  pub size : Option ℕ
  pub asked : HasSize name size old new
  pub is : found ≡ if_there at size

-- The same of a sink that may be taken away meanwhile: damage is that of a file that is still there
-- behind the reads.
pub data SinkSeen (name : List ℕ) : Option ℕ → Option History → Option History → Type 0 where
  sound : {old new : Option History} → ChunksSeen chunk_limit name None old new
      → SinkSeen name None old new
  damaged : {found : Option ℕ} {old mid new : Option History} (at : ℕ)
      → ChunksSeen chunk_limit name (Some at) old mid → StillThere name at found mid new
      → SinkSeen name found old new

-- the number that bytes are, where they are 8 and it is in its range
abbrev pub is_number_from : ℕ → List ℕ → Bool
is_number_from least bytes =
    (length bytes == 8) && (nat_le least (spelled bytes) && nat_lt (spelled bytes) limit)

abbrev pub number_from : ℕ → List ℕ → Option ℕ
number_from least bytes = if is_number_from least bytes then Some (spelled bytes) else None

abbrev pub held_as : Option ℕ → Held
held_as None = Wrong
held_as (Some number) = Number number

abbrev pub held_in : ℕ → List ℕ → Held
held_in least bytes = held_as (number_from least bytes)

-- a read missed the file, or own reads show what it holds
pub data NumberRead (least : ℕ) (name : List ℕ) : Held → Option History → Option History → Type 0
  where
    missed : {old new : Option History} → Adds old new (λ added history. HasMissed name added)
        → NumberRead least name Nothing old new
    read : {old new : Option History} (given : List ℕ)
        → Adds old new (Shown name (λ bytes. bytes ≡ given))
        → NumberRead least name (held_in least given) old new

abbrev pub wrong_number : Held → Option ℕ
wrong_number Nothing = None
wrong_number Wrong = Some 0
wrong_number (Number number) = None

-- a file of one number
pub record NumberSeen (least : ℕ) (name : List ℕ) (found : Option ℕ) (old new : Option History)
    : Type 0 where
  pub held : Held
  pub read : NumberRead least name held old new
  pub is : found ≡ wrong_number held

-- a length that is less than this
abbrev pub past_end : Option ℕ → ℕ → Option ℕ
past_end None number = None
past_end (Some size) number = if nat_lt size number then Some 0 else None

pub record PastSeen (of : List ℕ) (number : ℕ) (found : Option ℕ) (old new : Option History)
    : Type 0 where
  pub size : Option ℕ
  pub asked : HasSize of size old new
  pub is : found ≡ past_end size number

-- the mark of a file, which says no more than its length where it is there
pub data MarkSeen (least : ℕ) (name of : List ℕ) : Option ℕ → Option History → Option History
    → Type 0 where
  unmarked : {old new : Option History} → NumberRead least name Nothing old new
      → MarkSeen least name of None old new
  wrong : {old new : Option History} → NumberRead least name Wrong old new
      → MarkSeen least name of (Some 0) old new
  marked : {found : Option ℕ} {old mid new : Option History} (number : ℕ)
      → NumberRead least name (Number number) old mid → PastSeen of number found mid new
      → MarkSeen least name of found old new

-- damage below this place
abbrev pub below : Option ℕ → ℕ → Option ℕ
below None number = None
below (Some at) number = if nat_lt at number then Some at else None

pub record BelowSeen (name : List ℕ) (number : ℕ) (found : Option ℕ) (old new : Option History)
    : Type 0 where
  pub all : Option ℕ
  pub seen : SinkSeen name all old new
  pub is : found ≡ below all number

-- no number, so nothing is committed
abbrev pub IsNone : Held → Type 0
IsNone (Number number) = ⊥
IsNone held = Unit {0}

-- a sink under writing, up to the length in its mark
pub data OpenSeen (name mark : List ℕ) : Option ℕ → Option History → Option History → Type 0 where
  uncommitted : {old new : Option History} (held : Held) → NumberRead 96 mark held old new
      → IsNone held → OpenSeen name mark None old new
  committed : {found : Option ℕ} {old mid new : Option History} (number : ℕ)
      → NumberRead 96 mark (Number number) old mid → BelowSeen name number found mid new
      → OpenSeen name mark found old new

-- what is found of a checkpoint
abbrev pub check_found : Result Checkpoint CheckFault → Result (Option ℕ) OutsideFault
check_found (Ok lines) = Ok None
check_found (Err (check.Damaged at)) = Ok (Some at)
check_found (Err (check.Outside call)) = Err (site_failed call)
check_found (Err check.NoMemory) = Err no_memory

-- the name of a checkpoint
abbrev pub check_name : List ℕ → List ℕ
check_name source = spell (CheckFile source)

-- a checkpoint that others leave meanwhile
pub record CheckSeen (source : List ℕ) (found : Option ℕ) (old new : Option History)
    : Type 0 where
  pub given : Result Checkpoint CheckFault
  pub loaded : (file : Option File) → IsSmallFile file → Adds old new
      (Leads (anyhow (LeavesFile (check_name source))) (Has (check_name source) file)
      (LoadedLines (check_name source) file given))
  pub is : check_found given ≡ Ok found
