-- When two lines are the same, and numbers that rise.
use Rattle.std.specs.Prelude.{ℕ, zero, suc, ◌+◌, ◌-◌, nat_lt, ◌≤◌, ◌&&◌, ◌==◌, Bool, true, false}
use Rattle.std.specs.Prelude.{not, List, [], ◌∷◌, bytes_eq, if◌then◌else◌, Option, Some, None}
use Rattle.chk_control.specs.Classes.{same_class}
use Rattle.chk_tail.specs.Walks.{Spot}
use Rattle.chk_chunk.specs.declared.Chunk.{Chunk}
use Rattle.chk_agent_adaptor.specs.Adaptors.{Adaptor}
use Rattle.chk_world.specs.Checkpoints.{Line}
use Rattle.chk_agent.specs.declared.answers.Filled.{Filled}
use Rattle.chk_agent.specs.declared.answers.Filled.TheVariants.{Held, Read}

-- the same suffix, or none
abbrev pub same_suffix : Option (List ℕ) → Option (List ℕ) → Bool
same_suffix None None = true
same_suffix (Some a) (Some b) = bytes_eq a b
same_suffix _ _ = false

-- the same truth
abbrev pub same_truth : Bool → Bool → Bool
same_truth true b = b
same_truth false b = not b

-- the same place
abbrev pub same_place : Spot → Spot → Bool
same_place p q = p.offset == q.offset && (p.first == q.first && same_suffix p.after q.after)

abbrev pub place_in : Line → Spot
place_in l = record { after = l.after; first = l.first; offset = l.offset }

abbrev pub same_kind : Line → Line → Bool
same_kind l m = same_truth l.live m.live && (l.start == m.start && same_class l.class m.class)

abbrev pub same_words : Line → Line → Bool
same_words l m = bytes_eq l.name m.name && (bytes_eq l.kind m.kind && bytes_eq l.path m.path)

-- the same line
abbrev pub same_line : Line → Line → Bool
same_line l m = same_place (place_in l) (place_in m) && (same_kind l m && same_words l m)

-- each number is at least this one and greater than the one before it
abbrev pub Rising : ℕ → List ℕ → Type 0
Rising low [] = Unit {0}
Rising low (i ∷ gone) = (low ≤ i) × Rising (suc i) gone

-- the chunk of some bytes of an adaptor's log, which end at an offset
abbrev pub chunk_made : List ℕ → List ℕ → Adaptor → List ℕ → ℕ → Chunk
chunk_made source cluster a bytes end = record {
  source = source;
  kind = a.kind;
  name = a.path;
  start = a.start;
  cluster = cluster;
  seq = end;
  body = bytes;
}

-- where a fill begins: behind the one that was stepped last, or at the first
abbrev pub first_of : ℕ → Option ℕ → ℕ
first_of count None = 0
first_of count (Some i) = if nat_lt i count then i + 1 else 0

-- the number of the adaptor at a place of the order, which goes round
abbrev pub number_at : ℕ → ℕ → ℕ → ℕ
number_at count first k = if nat_lt k (count - first) then first + k else k - (count - first)

-- what a fill answers that gave so many bytes, and found the queue full
abbrev pub held_by : ℕ → ℕ → Filled
held_by used zero = Held used
held_by used (suc n) = Read (suc n)
