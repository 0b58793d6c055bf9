-- What is copied, whatever becomes of the files that are read.
use Rattle.std.specs.Prelude.{◌≡◌, ℕ, ◌-◌, List, [], ◌∷◌, ◌++◌, codes, take, drop, Result, Ok, Err, if◌then◌else◌}
use Rattle.chk_site.specs.History.{History}
use Rattle.chk_chunk.specs.Keys.{Chunk, chunk_begin}
use Rattle.chk_world.specs.Books.{Book}
use Rattle.chk_record_index.specs.Heads.{Head}
use Rattle.chk_record_index.specs.declared.fault.JobFault.{JobFault}
use Rattle.chk_book.specs.Segmenting.{Writing, HoldsSegment}
use Rattle.chk_book.specs.Written.{IsAt}
use Rattle.chk_book.specs.declared.segmenter.Segmenter.{Segmenter}
use Rattle.chk_join_sources.specs.declared.gathering.Side.{Side}
use Rattle.chk_join_sources.specs.declared.plan.Choice.{Choice}
use Rattle.chk_join_sources.specs.Copying.{IsChosenSegment}

-- the chunk has the head's key, and begins where the head says
pub record IsCopyOf (h : Head) (c : Chunk) : Type 0 where
  pub key : c.key ≡ h.key
  pub begin : chunk_begin c ≡ h.begin

-- the same of each head and the chunk at its place
abbrev pub AreCopies : List Head → List Chunk → Type 0
AreCopies [] [] = Unit {0}
AreCopies [] (c ∷ cs) = ⊥
AreCopies (h ∷ hs) [] = ⊥
AreCopies (h ∷ hs) (c ∷ cs) = IsCopyOf h c × AreCopies hs cs

-- the segment under writing has these chunks
pub record StandsSo (chunks : List Chunk) (s : Segmenter) (history : History) : Type 0 where
  pub w : Writing
  pub at : IsAt s w
  pub folder : w.folder ≡ codes "joined"
  pub chunks_are : w.chunks ≡ chunks
  pub holds : HoldsSegment w history

-- at Ok copies of these heads' records stand behind them
abbrev pub HasStood : List Chunk → List Head → Segmenter → Result (Unit {0}) JobFault → History → Type 0
HasStood chunks heads s (Ok value) history =
    (new : List Chunk) × AreCopies heads new × StandsSo (chunks ++ new) s history
HasStood chunks heads s (Err fault) history = Unit {0}

-- the heads from the one place up to the other
abbrev pub heads_between : Side → ℕ → ℕ → List Head
heads_between side first end = take (end - first) (drop first side.heads.now)

-- those of a choice
abbrev pub chosen_heads : Side → Side → Choice → List Head
chosen_heads l r c =
    if c.from_right then heads_between r c.block.first c.block.end
    else heads_between l c.block.first c.block.end

-- at Ok the segment of this number has copies of these heads' records, whole and synced, and the book names it alone
abbrev pub WroteCopies : ℕ → List Head → Result Book JobFault → History → Type 0
WroteCopies next heads (Ok b) history =
    (new : List Chunk) × AreCopies heads new × ((w : Writing) × IsChosenSegment next new b w history)
WroteCopies next heads (Err fault) history = Unit {0}
