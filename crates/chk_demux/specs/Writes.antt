-- What the writing of one segment of records leaves.
use Rattle.std.specs.List.{list_any}
use Rattle.std.specs.Prelude.{◌≡◌, ◌⊎◌, ℕ, ◌<◌, nat_eq, IsTrue, IsFalse, List, [], codes, length, sum_by, Option, Some, None}
use Rattle.chk_bytes.specs.Numbers.{last_number}
use Rattle.chk_bytes.specs.Stems.{Stem, is_count}
use Rattle.chk_site.specs.Files.{File}
use Rattle.chk_chunk.specs.Keys.{Chunk, record_limit}
use Rattle.chk_world.specs.Names.{DemuxFolder, Name, SegmentFile}
use Rattle.chk_world.specs.Books.{Segment}
use Rattle.chk_world.specs.Jobs.{all_segments}
use Rattle.chk_world.specs.Sight.{job, Sight, own_book}
use Rattle.chk_world.proofs.NameTests.{same_name}
use Rattle.chk_book.specs.Segmenting.{Writing, IsSegmentOf}
use Rattle.chk_book.specs.Written.{IsAt}
use Rattle.chk_book.specs.declared.segmenter.Segmenter.{Segmenter}
use Rattle.chk_demux.specs.declared.output.Output.{Output}

-- all that the job knows is the same, but for the segment of records of this number
pub record SameBut (k : ℕ) (v u : Sight) : Type 0 where
  pub listing : u.listing ≡ v.listing
  pub own : (n : Name) → IsFalse (same_name n (SegmentFile DemuxFolder k)) → u.own n ≡ v.own n
  pub sinks : (x : Stem) → u.sinks x ≡ v.sinks x

-- the segment's file holds just these records, all of it synced
pub record HoldsChunks (u : Sight) (g : Segment) (chunks : List Chunk) : Type 0 where
  pub file : File
  pub there : u.own (SegmentFile DemuxFolder g.number) ≡ Some file
  pub is : IsSegmentOf record_limit file.bytes chunks
  pub synced : file.synced ≡ length file.bytes
  pub size : g.length ≡ length file.bytes

-- the segment of this number can be written: the number is the next one of the records' book, which doesn't name it
pub record IsFree (v : Sight) (k : ℕ) : Type 0 where
  pub next : (own_book v DemuxFolder).next ≡ k
  pub count : IsTrue (is_count k)
  pub unnamed : IsFalse (list_any (λ (g : Segment). nat_eq g.number k) (all_segments (own_book v DemuxFolder)))

-- the segmenter is the job's, and writes the segment of records of this number, which isn't the last one
pub record IsForDemux (k : ℕ) (s : Segmenter) : Type 0 where
  pub below : k ≡ last_number → ⊥
  pub who : s.who ≡ job
  pub number : s.number ≡ k
  pub w : Writing
  pub at : IsAt s w
  pub folder : w.folder ≡ codes "demux"

-- the same of the segmenter, where there is one
abbrev pub IsWriter : ℕ → Option Segmenter → Type 0
IsWriter k None = Unit {0}
IsWriter k (Some s) = IsForDemux k s

-- so far these records are written to the segment, and all else that the job knows is as before
pub record IsSoFar (v : Sight) (chunks : List Chunk) (s : Segmenter) (u : Sight) : Type 0 where
  pub same : SameBut s.number v u
  pub w : Writing
  pub at : IsAt s w
  pub folder : w.folder ≡ codes "demux"
  pub chunks_are : w.chunks ≡ chunks
  pub file : File
  pub there : u.own (SegmentFile DemuxFolder s.number) ≡ Some file
  pub held : file.bytes ≡ w.held

-- the same, where a segment was begun; else none are written, and the job knows what it knew
abbrev pub SoFar : Sight → List Chunk → Option Segmenter → Sight → Type 0
SoFar v chunks None u = (chunks ≡ []) × (u ≡ v)
SoFar v chunks (Some s) u = IsSoFar v chunks s u

-- the same of records that are put: where the next number is the last one they are counted alone
abbrev pub PutSoFar : Sight → List Chunk → Option Segmenter → Sight → Type 0
PutSoFar v chunks None u = ((chunks ≡ []) ⊎ ((own_book v DemuxFolder).next ≡ last_number)) × (u ≡ v)
PutSoFar v chunks (Some s) u = IsSoFar v chunks s u

-- how many bytes the chunks have
abbrev pub bytes_of : List Chunk → ℕ
bytes_of chunks = sum_by (λ (c : Chunk). length c.value) chunks

-- where there is a segment, there are records
abbrev pub HasSome : Option Segmenter → List Chunk → Type 0
HasSome None chunks = Unit {0}
HasSome (Some s) chunks = 0 < length chunks

-- so far these records are put, and counted
pub record IsOutput (v : Sight) (chunks : List Chunk) (o : Output) (u : Sight) : Type 0 where
  pub taken : o.taken ≡ bytes_of chunks
  pub entries : o.entries ≡ length chunks
  pub so_far : PutSoFar v chunks o.segmenter u
  pub some : HasSome o.segmenter chunks
