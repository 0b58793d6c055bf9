-- What is behind the cursors of some files.
use Rattle.std.specs.Prelude.{◌≡◌, ◌==◌, ℕ, ◌+◌, ◌<◌, Bool, List, [], ◌∷◌, filter, filter_map}
use Rattle.chk_site.specs.Files.{Files}
use Rattle.chk_seqfile.specs.Entries.{Placed}
use Rattle.chk_world.proofs.Each.{Each}
use Rattle.chk_record_index.specs.Heads.{Head, head_at}
use Rattle.chk_record_index.specs.Feeding.{AreChunks}
use Rattle.chk_record_index.specs.Pieces.{bytes_in}
use Rattle.chk_archive_merge.specs.declared.cursor.Cursor.{Cursor}
use Rattle.chk_archive_merge.specs.Cursors.{StandsBehind}

-- the head is of a record in the file of this number
abbrev pub is_in : ℕ → Head → Bool
is_in number h = h.file == number

-- the records behind the cursor are chunks, and these are their heads
pub record IsSide (most number : ℕ) (bytes : List ℕ) (c : Cursor) (heads : List Head) : Type 0 where
  pub done : List Placed
  pub stands : StandsBehind bytes c done
  pub chunks : AreChunks most done
  pub are : heads ≡ filter_map (head_at most number) done

-- the same of each of the files, of which the first one has this number: those among the heads that are
-- of its records are just those behind its cursor
abbrev pub AreSides : ℕ → Files → ℕ → List (List ℕ) → List Cursor → List Head → Type 0
AreSides most held number [] [] heads = Unit {0}
AreSides most held number [] (c ∷ cs) heads = ⊥
AreSides most held number (w ∷ ws) [] heads = ⊥
AreSides most held number (w ∷ ws) (c ∷ cs) heads =
    IsSide most number (bytes_in (held w)) c (filter (is_in number) heads)
    × AreSides most held (number + 1) ws cs heads

-- each head is of one of the first so many files
abbrev pub AreWithin : ℕ → List Head → Type 0
AreWithin count heads = Each (λ (h : Head). h.file < count) heads
