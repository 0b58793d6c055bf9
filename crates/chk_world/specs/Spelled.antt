-- What is spelled is read back, and what is read was spelled so.
use Rattle.std.specs.Prelude.{◌≡◌, ℕ, IsTrue, List, Some}
use Rattle.chk_world.specs.Names.{Name, is_known, spell, read}
use Rattle.chk_world.specs.Checkpoints.{Line, Version, are_lines, written_version, checkpoint_text, read_checkpoint}
use Rattle.chk_world.specs.Books.{Book, Version as BookVersion, is_book, written_version as written_book_version, book_bytes, read_book}

-- each name of the program's is read back, and each text spells the name that it is read as
pub record NamesAreRead : Type 0 where
  pub back : (n : Name) → IsTrue (is_known n) → read (spell n) ≡ n
  pub so : (w : List ℕ) → spell (read w) ≡ w

-- the checkpoints that are read are those that are spelled, and what can be spelled can be in the written version
pub record CheckpointsAreRead : Type 0 where
  pub back : (v : Version) (lines : List Line) → IsTrue (are_lines v lines)
      → read_checkpoint (checkpoint_text v lines) ≡ Some lines
  pub so : (text : List ℕ) (lines : List Line) → read_checkpoint text ≡ Some lines
      → (v : Version) × IsTrue (are_lines v lines) × (checkpoint_text v lines ≡ text)
  pub written : (v : Version) (lines : List Line) → IsTrue (are_lines v lines)
      → IsTrue (are_lines (written_version lines) lines)

-- the books that are read are those that are spelled, and what can be spelled can be in the written version
pub record BooksAreRead : Type 0 where
  pub back : (v : BookVersion) (b : Book) → IsTrue (is_book v b) → read_book (book_bytes v b) ≡ Some b
  pub so : (bytes : List ℕ) (b : Book) → read_book bytes ≡ Some b
      → (v : BookVersion) × IsTrue (is_book v b) × (book_bytes v b ≡ bytes)
  pub written : (v : BookVersion) (b : Book) → IsTrue (is_book v b) → IsTrue (is_book (written_book_version b) b)
