-- What the publication of a folder's next book leaves.
use Rattle.std.specs.Prelude.{◌≡◌, ℕ, ◌+◌, ◌<◌, IsTrue, IsFalse, List, length, slice_index_or, Result, Ok, Err}
use Rattle.chk_chunk.specs.Keys.{stream_lt}
use Rattle.chk_bytes.specs.Stems.{Stem}
use Rattle.chk_site.specs.declared.acts.OutsideFault.{OutsideFault}
use Rattle.chk_site.specs.Acts.{Deed, Renames}
use Rattle.chk_site.specs.History.{History}
use Rattle.chk_replace.specs.Replace.{tmp}
use Rattle.chk_world.specs.Names.{Folder, Name}
use Rattle.chk_world.specs.Books.{Book}
use Rattle.chk_world.specs.Jobs.{NewBook}
use Rattle.chk_world.specs.Rules.{Legal}
use Rattle.chk_world.specs.Sight.{Sight, sight, own_book, AtJob}
use Rattle.chk_world.specs.JobSteps.{WritesTo}
use Rattle.chk_world.proofs.Publishing.{is_of_book}
use Rattle.chk_book.specs.Folders.{book_name}
use Rattle.chk_book.specs.Views.{end_view}
use Rattle.chk_book.specs.declared.lists.Segment.{Segment as SegmentStruct}
use Rattle.chk_book.specs.declared.lists.End.{End as EndStruct}

-- the folder has this book, and all else that the job knows is the same
pub record IsPublished (folder : Folder) (v : Sight) (b : Book) (u : Sight) : Type 0 where
  pub listing : u.listing ≡ v.listing
  pub sinks : (x : Stem) → u.sinks x ≡ v.sinks x
  pub own : (n : Name) → IsFalse (is_of_book folder n) → u.own n ≡ v.own n
  pub book : own_book u folder ≡ b

-- wherever the job knows the same in a legal history, but for how the book is spelled, this book may be published
abbrev pub MayFollow : List (List ℕ) → Folder → Sight → Book → Type 0
MayFollow stamped folder v b =
    (history : History) → Legal stamped history → IsPublished folder v (own_book v folder) (sight history)
    → NewBook stamped folder history b

-- after another answer than Ok nothing is said but that the history is legal
abbrev pub Published : {T : Type 0} → List (List ℕ) → Folder → Sight → Book → Result T OutsideFault → History → Type 0
Published stamped folder v b (Ok value) history = AtJob stamped (IsPublished folder v b) history
Published stamped folder v b (Err fault) history = Legal stamped history

-- the calls that replace the book of a folder of this name
pub data ReplacesBookOf (folder : List ℕ) : Deed → Type 0 where
  writes_book : (call : Deed) → WritesTo (tmp (book_name folder)) call → ReplacesBookOf folder call
  names_book : ReplacesBookOf folder (Renames (tmp (book_name folder)) (book_name folder))

-- each segment's number is below the next one's
abbrev pub NumbersRise : List SegmentStruct → Type 0
NumbersRise gs =
    (i : ℕ) (d : SegmentStruct) → i + 1 < length gs
    → (slice_index_or gs i d).number < (slice_index_or gs (i + 1) d).number

-- each stream comes before the next one
abbrev pub StreamsRise : List EndStruct → Type 0
StreamsRise es =
    (i : ℕ) (d : EndStruct) → i + 1 < length es
    → IsTrue (stream_lt (end_view (slice_index_or es i d)).stream (end_view (slice_index_or es (i + 1) d)).stream)
