-- What an archive run takes of the chunks that it found, and what it sets aside.
use Rattle.std.specs.Prelude.{ℕ, ◌-◌, ◌≤◌, Bool, true, false, ◌&&◌, nat_lt, nat_le, List, [], ◌∷◌, drop, filter}
use Rattle.chk_chunk.specs.Keys.{Stream, Chunk, chunk_begin, chunk_end}
use Rattle.chk_world.specs.ArchiveRuns.{with_end, once}

-- the chunk begins at or below the end reached so far, and ends past it
abbrev pub goes_on : ℕ → Chunk → Bool
goes_on reached c = nat_le (chunk_begin c) reached && nat_lt reached (chunk_end c)

-- what it has past that end
abbrev pub part_past : ℕ → Chunk → Chunk
part_past reached c = record { key = c.key; value = drop (reached - chunk_begin c) c.value }

-- the parts that one stream's chunks give, gone through in their order
abbrev pub parts_from : ℕ → List Chunk → List Chunk
parts_from reached [] = []
parts_from reached (c ∷ cs) = elim (goes_on reached c) [
  | true ↦ part_past reached c ∷ parts_from (chunk_end c) cs
  | false ↦ parts_from reached cs
]

-- the end reached by them
abbrev pub reached_from : ℕ → List Chunk → ℕ
reached_from reached [] = reached
reached_from reached (c ∷ cs) = elim (goes_on reached c) [
  | true ↦ reached_from (chunk_end c) cs
  | false ↦ reached_from reached cs
]

-- the parts that the chunks of all streams give
abbrev pub parts_of : (Stream → ℕ) → List Chunk → List Chunk
parts_of ends [] = []
parts_of ends (c ∷ cs) =
    let s = c.key.stream in
    elim (goes_on (ends s) c) [
      | true ↦ part_past (ends s) c ∷ parts_of (with_end ends s (chunk_end c)) cs
      | false ↦ parts_of ends cs
    ]

-- the end of each stream that they reach
abbrev pub ends_of : (Stream → ℕ) → List Chunk → Stream → ℕ
ends_of ends [] = ends
ends_of ends (c ∷ cs) =
    let s = c.key.stream in
    elim (goes_on (ends s) c) [
      | true ↦ ends_of (with_end ends s (chunk_end c)) cs
      | false ↦ ends_of ends cs
    ]

-- the chunk ends past its stream's end
abbrev pub is_past : (Stream → ℕ) → Chunk → Bool
is_past ends c = nat_lt (ends c.key.stream) (chunk_end c)

-- the chunks that are set aside
abbrev pub set_aside : (Stream → ℕ) → List Chunk → List Chunk
set_aside ends cs = once (filter (is_past ends) cs)

-- none of the chunks begins below
abbrev pub NoneBelow : ℕ → List Chunk → Type 0
NoneBelow at [] = Unit {0}
NoneBelow at (c ∷ cs) = (at ≤ chunk_begin c) × NoneBelow at cs

-- the chunks stand in the order of their first offsets
abbrev pub BeginsRise : List Chunk → Type 0
BeginsRise [] = Unit {0}
BeginsRise (c ∷ cs) = NoneBelow (chunk_begin c) cs × BeginsRise cs
