-- The records that bytes of a stream complete.
use Rattle.std.specs.Prelude.{◌≡◌, ℕ, zero, suc, ◌+◌, ◌-◌, ◌<◌, Bool, ◌&&◌, nat_le, IsTrue, List, [], ◌∷◌, ◌++◌, length, map, if◌then◌else◌}
use Rattle.chk_bytes.specs.Words.{joined}
use Rattle.chk_chunk.specs.Keys.{Stream, Chunk, has_words}
use Rattle.chk_chunk.specs.Lent.{lent_key}
use Rattle.chk_world.specs.Books.{End}
use Rattle.chk_world.specs.Splits.{Record, ends_from}
use Rattle.chk_record_index.specs.Heads.{Head}
use Rattle.chk_record_index.specs.Order.{lent_head}
use Rattle.chk_record_index.specs.declared.gather.order.HeadRef.{HeadRef}
use Rattle.chk_archive_plan.specs.Passes.{head_in}
use Rattle.chk_record_reader.specs.Courses.{is_head_of}
use Rattle.chk_demux_split.specs.Splitting.{Splitting, pieces_of, records_ahead}

-- the borrowed head is the one at this place, which is of the stream
pub record IsOwnHead (heads : List Head) (s : Stream) (index : ℕ) (h : HeadRef) : Type 0 where
  pub there : lent_head h ≡ head_in heads index
  pub own : IsTrue (is_head_of s (head_in heads index))
  pub words : IsTrue (has_words (lent_key h.key))

-- the head is of the stream and begins at this offset or below it
abbrev pub holds_byte : Stream → ℕ → Head → Bool
holds_byte s at h = is_head_of s h && nat_le h.begin at

-- the cluster of the last such head among the first ones, so many
abbrev pub cluster_back : List Head → Stream → ℕ → ℕ → List ℕ
cluster_back heads s at zero = []
cluster_back heads s at (suc i) =
    if holds_byte s at (head_in heads i) then (head_in heads i).key.cluster else cluster_back heads s at i

-- the record of the end's stream with these bytes, up to this offset
abbrev pub keyed : End → List ℕ → ℕ → List ℕ → Chunk
keyed e cluster seq bytes = record {
  key = record { stream = e.stream; start = e.start; cluster = cluster; seq = seq };
  value = bytes;
}

-- the same, with the cluster of the last one of so many heads that begins at its first byte or below it
abbrev pub made_chunk : List Head → End → ℕ → ℕ → List ℕ → Chunk
made_chunk heads e count seq bytes = keyed e (cluster_back heads e.stream (seq - length bytes) count) seq bytes

-- the same, where there are bytes, of the heads up to one
abbrev pub given_chunks : List Head → End → ℕ → ℕ → List ℕ → List Chunk
given_chunks heads e index seq [] = []
given_chunks heads e index seq (b ∷ bytes) = made_chunk heads e (index + 1) seq (b ∷ bytes) ∷ []

-- how many bytes the splitter holds of no complete record
abbrev pub pending_of : Splitting → ℕ
pending_of s = length s.begun + length s.line

-- where the record ends that the splitter gives, before so many bytes of a head's record weren't fed
abbrev pub place_given : List Head → ℕ → ℕ → Splitting → ℕ
place_given heads index behind s = (head_in heads index).key.seq - behind - pending_of s

-- the splitter was fed these bytes, from a record's first one on
pub record IsSplitting (by_stamps : Bool) (fed : List ℕ) (s : Splitting) : Type 0 where
  pub kind : s.by_stamps ≡ by_stamps
  pub rest : fed ≡ joined (pieces_of by_stamps fed) ++ s.begun ++ s.line
  pub ahead : (more : List ℕ) → pieces_of by_stamps (fed ++ more) ≡ pieces_of by_stamps fed ++ records_ahead s more

-- all of these bytes, the first of which has this offset, end with the head's record; and where a byte stands before that end, no
-- later head of the stream begins at it or below it
pub record IsPlaced (heads : List Head) (e : End) (index from : ℕ) (all : List ℕ) : Type 0 where
  pub ends : (head_in heads index).key.seq ≡ from + length all
  pub alone : (at : ℕ) → at < (head_in heads index).key.seq
      → cluster_back heads e.stream at (index + 1) ≡ cluster_back heads e.stream at (length heads)

-- the chunk of a record
abbrev pub record_chunk : List Head → End → Record → Chunk
record_chunk heads e r = made_chunk heads e (length heads) r.end r.bytes

-- the chunks of the complete records of these bytes
abbrev pub chunks_of_fed : List Head → End → ℕ → Bool → List ℕ → List Chunk
chunks_of_fed heads e from by_stamps fed = map (record_chunk heads e) (ends_from from (pieces_of by_stamps fed))
