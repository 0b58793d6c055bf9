-- Whether all records of each stream have the start that the book has of it.
use Rattle.std.specs.Prelude.{◌≡◌, ◌<◌, ℕ, List, [], ◌∷◌, length, if◌then◌else◌}
use Rattle.chk_chunk.specs.Keys.{Stream, same_stream}
use Rattle.chk_world.specs.Books.{End}
use Rattle.chk_record_index.specs.Heads.{Head}
use Rattle.chk_record_index.specs.declared.fault.JobFault.{JobFault}
use Rattle.chk_record_index.specs.declared.fault.JobFault.TheVariants.{Damaged, NoMemory}
use Rattle.chk_archive_plan.specs.Passes.{head_in}
use Rattle.chk_archive_plan.specs.Starts.{first_start}
use Rattle.chk_archive_parts.specs.Fetching.{head_file}

-- the start of a stream in a list of ends, or this one
abbrev pub start_in : ℕ → List End → Stream → ℕ
start_in none [] s = none
start_in none (e ∷ es) s = if same_stream s e.stream then e.start else start_in none es s

-- where a stream starts: as these ends say, or else as its first head has it
abbrev pub start_of_stream : List End → List Head → Stream → ℕ
start_of_stream es heads s = start_in (first_start s heads) es s

-- the head at this place has its stream's start
abbrev pub HasStartIn : List End → List Head → ℕ → Type 0
HasStartIn es heads i = (head_in heads i).key.start ≡ start_of_stream es heads (head_in heads i).key.stream

-- the same of each head
abbrev pub HaveStartsIn : List End → List Head → Type 0
HaveStartsIn es heads = (i : ℕ) → i < length heads → HasStartIn es heads i

-- the head at this place is the first one that has another start than its stream
pub record IsOtherStartIn (es : List End) (heads : List Head) (i : ℕ) : Type 0 where
  pub within : i < length heads
  pub other : HasStartIn es heads i → ⊥
  pub before : (k : ℕ) → k < i → HasStartIn es heads k

-- damage is of that head's file, at its record
abbrev pub ToldOtherStart : List (List ℕ) → List End → List Head → JobFault → Type 0
ToldOtherStart files es heads (Damaged name at) =
    (i : ℕ) × IsOtherStartIn es heads i × (name ≡ head_file files heads i) × (at ≡ (head_in heads i).at)
ToldOtherStart files es heads NoMemory = Unit {0}
ToldOtherStart files es heads fault = ⊥
