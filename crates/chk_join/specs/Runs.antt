-- The records of a joined archive.
use Rattle.std.specs.Prelude.{◌≡◌, ◌⊎◌, ℕ, ◌+◌, List, [], ◌∷◌, ◌++◌, None, codes, sum_by, length}
use Rattle.chk_site.specs.History.{History}
use Rattle.chk_chunk.specs.Keys.{Chunk, chunk_limit}
use Rattle.chk_world.specs.Books.{End, Book}
use Rattle.chk_world.specs.Jobs.{Run}
use Rattle.chk_world.proofs.Each.{Each}
use Rattle.chk_record_index.specs.Heads.{Head}
use Rattle.chk_join_sources.specs.declared.gathering.Side.{Side}
use Rattle.chk_join_sources.specs.declared.plan.Choice.{Choice}
use Rattle.chk_join_sources.specs.Standing.{chosen_heads}
use Rattle.chk_book.specs.Segmenting.{Writing, IsSegmentOf, all_bytes, IsFinished, segment_of}

-- these chunks are a stream's, and run from its start to its end
pub record IsRunOf (e : End) (cs : List Chunk) : Type 0 where
  pub of : Each (λ (c : Chunk). c.key.stream ≡ e.stream) cs
  pub run : Run e.start e.start cs e.end

-- these chunks are such runs, one stream behind the other
abbrev pub AreRuns : List End → List Chunk → Type 0
AreRuns [] cs = cs ≡ []
AreRuns (e ∷ es) cs =
    (front : List Chunk) × ((back : List Chunk) × ((cs ≡ front ++ back) × (IsRunOf e front × AreRuns es back)))

-- these heads are of one stream, and run from the one offset to the other
abbrev pub HeadsRun : End → ℕ → List Head → ℕ → Type 0
HeadsRun e from [] to = to ≡ from
HeadsRun e from (h ∷ hs) to =
    (h.key.stream ≡ e.stream) × ((h.key.start ≡ e.start) × ((h.begin ≡ from) × HeadsRun e h.key.seq hs to))

-- the same of the heads of each choice, by the end at its place
abbrev pub ChosenRun : Side → Side → List End → List Choice → Type 0
ChosenRun l r [] [] = Unit {0}
ChosenRun l r [] (c ∷ cs) = ⊥
ChosenRun l r (e ∷ es) [] = ⊥
ChosenRun l r (e ∷ es) (c ∷ cs) = HeadsRun e e.start (chosen_heads l r c) e.end × ChosenRun l r es cs

-- the segment of this number has these chunks, whole and synced
pub record IsWritten (number : ℕ) (chunks : List Chunk) (w : Writing) (history : History) : Type 0 where
  pub folder_is : w.folder ≡ codes "joined"
  pub number_is : w.number ≡ number
  pub chunks_are : w.chunks ≡ chunks
  pub form : IsSegmentOf chunk_limit (all_bytes w) w.chunks
  pub finished : IsFinished w history

-- A book with these streams names the segment of this number alone, which has these chunks, and the next number is the one behind
-- it. Where there are no streams it names none, there are no chunks, and this is the next number.
abbrev pub IsAlone : ℕ → List End → Book → List Chunk → History → Type 0
IsAlone next es b chunks history =
    (b.aside ≡ None)
    × (((es ≡ []) × ((b.segments ≡ []) × ((chunks ≡ []) × (b.next ≡ next))))
    ⊎ ((es ≡ [] → ⊥) × ((w : Writing)
    × ((b.segments ≡ segment_of w ∷ []) × ((b.next ≡ next + 1) × IsWritten next chunks w history)))))

-- how many bytes the chunks have
abbrev pub bytes_of : List Chunk → ℕ
bytes_of chunks = sum_by (λ (c : Chunk). length c.value) chunks
