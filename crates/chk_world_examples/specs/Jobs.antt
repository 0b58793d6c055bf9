-- Steps that the job's rules refuse, each beside one that differs in the one fact and is allowed.
use Rattle.std.specs.Prelude.{codes, ℕ, List, [], ◌∷◌, None}
use Rattle.chk_site.specs.declared.acts.Call.TheVariants.{Rename, Remove, Say, Create, Append, Sync}
use Rattle.chk_site.specs.History.{Step, History}
use Rattle.chk_world.specs.Books.{One, book_bytes, Book}
use Rattle.chk_world.specs.ArchiveRuns.{report}
use Rattle.chk_world_examples.specs.Texts.{seg, entry, done_sink, book_name, book_text, book_tmp, segment, stream}
use Rattle.chk_world.specs.Sight.{job}
use Rattle.chk_world_examples.specs.Moments.{g29, g30, g32, g33, g34, g37, g38, g39, done}
use Rattle.chk_world_examples.specs.Refusing.{TheRule, by, Apart}
use Rattle.chk_site.specs.declared.acts.ActAnswer.TheVariants.{Done}

-- the archive's next book has these bytes, and is synced
abbrev pub next_book : List ℕ → History → History
next_book bytes history =
    done job Sync (book_tmp ∷ []) 0 0 (Done [] 0 0)
    (done job Append (book_tmp ∷ bytes ∷ []) 0 0 (Done [] 0 0) (done job Create (book_tmp ∷ []) 0 0 (Done [] 0 0) history))

-- a book that says that the stream ends later than it does
abbrev pub long_book : Book
long_book = record { next = 2; segments = segment ∷ []; ends = record { stream = stream; start = 0; end = 7 } ∷ []; aside = None }

-- a book of nothing
abbrev pub empty_book : Book
empty_book = record { next = 2; segments = []; ends = []; aside = None }

-- the job publishes the archive's book, writes a record, removes the done sink, and prints
abbrev pub publishes : History → Step
publishes = by job Rename (book_tmp ∷ book_name ∷ [])

abbrev pub writes : History → Step
writes = by job Append (seg ∷ entry ∷ [])

abbrev pub removes : History → Step
removes = by job Remove (done_sink ∷ [])

abbrev pub says : List ℕ → History → Step
says text = by job Say (text ∷ [])

-- steps of the job. What its books owe stands in records of their own
pub record JobStepsAreRefused : Type 0 where
  -- a book names synced segments, and says where each stream ends
  pub synced_segment : Apart TheRule (next_book book_text g33) publishes g37 publishes
  pub true_end : Apart TheRule (next_book (book_bytes One long_book) g34) publishes g37 publishes
  -- no archive gets shorter
  pub archive_stays : Apart TheRule (next_book (book_bytes One empty_book) g39) publishes g37 publishes
  -- no segment is changed that a book names
  pub named_segment : Apart TheRule g38 writes g32 writes
  -- a done sink is removed only where its chunks are archived or set aside
  pub archived_sink : Apart TheRule g29 removes g38 removes
  -- a report is of a run, and whole lines are printed
  pub report_of_run : Apart TheRule g30 (says (report 0 0 0 0)) g30 (says (codes "done\n"))
  pub whole_line : Apart TheRule g30 (says (codes "done")) g30 (says (codes "done\n"))
