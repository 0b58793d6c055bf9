-- Whether all records of each stream have one start.
use Rattle.std.specs.Prelude.{◌≡◌, ◌<◌, ℕ, List, [], ◌∷◌, length, if◌then◌else◌}
use Rattle.chk_chunk.specs.Keys.{Stream, same_stream}
use Rattle.chk_record_index.specs.Heads.{Head}
use Rattle.chk_archive_plan.specs.Passes.{known_stream, head_in}
use Rattle.chk_archive_plan.specs.declared.spans.Known.{Known}

-- the start that the stream's first head has
abbrev pub first_start : Stream → List Head → ℕ
first_start s [] = 0
first_start s (h ∷ hs) = if same_stream s h.key.stream then h.key.start else first_start s hs

-- the start that is known of a stream, or else this one
abbrev pub start_known : ℕ → List Known → Stream → ℕ
start_known n [] s = n
start_known n (k ∷ ks) s = if same_stream (known_stream k) s then k.start else start_known n ks s

-- where a stream starts: as it is known, or else as its first head has it
abbrev pub stream_start : List Known → List Head → Stream → ℕ
stream_start known heads s = start_known (first_start s heads) known s

-- the head at this place has its stream's start
abbrev pub HasStart : List Known → List Head → ℕ → Type 0
HasStart known heads i = (head_in heads i).key.start ≡ stream_start known heads (head_in heads i).key.stream

-- the same of each head
abbrev pub HaveStarts : List Known → List Head → Type 0
HaveStarts known heads = (i : ℕ) → i < length heads → HasStart known heads i

-- the head at this place is the first one that has another start than its stream
pub record IsOtherStart (known : List Known) (heads : List Head) (i : ℕ) : Type 0 where
  pub within : i < length heads
  pub other : HasStart known heads i → ⊥
  pub before : (k : ℕ) → k < i → HasStart known heads k
