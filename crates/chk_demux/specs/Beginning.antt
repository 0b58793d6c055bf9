-- How a demux run begins.
use Rattle.std.specs.Prelude.{◌≡◌, List, ℕ, Result, Ok, Err}
use Rattle.chk_site.specs.declared.acts.OutsideFault.{OutsideFault}
use Rattle.chk_site.specs.History.{History}
use Rattle.chk_world.specs.Names.{ArchiveFolder, DemuxFolder}
use Rattle.chk_world.specs.Rules.{Legal}
use Rattle.chk_world.specs.Places.{AtTold}
use Rattle.chk_world.specs.Sight.{job, Sight, own_book, own_chunks, AtJob}
use Rattle.chk_book.specs.Books.{book_view}
use Rattle.chk_record_index.specs.declared.fault.JobFault.{JobFault}
use Rattle.chk_record_index.specs.declared.fault.JobFault.TheVariants.{Damaged}
use Rattle.chk_demux.specs.Demuxed.{Earlier}
use Rattle.chk_demux.specs.declared.beginning.Books.{Books}
pub use Rattle.chk_record_reader.specs.Courses.{Begins, starts, only_reads}

-- what the job knows of the records and of their book
abbrev pub own_earlier : Sight → Earlier
own_earlier v = record {
  records = own_chunks v DemuxFolder (own_book v DemuxFolder).segments;
  segments = (own_book v DemuxFolder).segments;
  next = (own_book v DemuxFolder).next;
}

-- this stands there
abbrev pub HasRecords : Earlier → Sight → Type 0
HasRecords before v = own_earlier v ≡ before

-- at Ok the job may act, and the records are those before; else the history is legal
abbrev pub HasStarted : {T : Type 0} → List (List ℕ) → Earlier → Result T OutsideFault → History → Type 0
HasStarted stamped before (Ok value) history = AtJob stamped (HasRecords before) history
HasStarted stamped before (Err fault) history = Legal stamped history

-- the folders have these books, and the records are those before
pub record HasBooks (before : Earlier) (b : Books) (v : Sight) : Type 0 where
  pub records : own_earlier v ≡ before
  pub archive : own_book v ArchiveFolder ≡ book_view b.archive
  pub demux : own_book v DemuxFolder ≡ book_view b.demux

-- at Ok it is so; neither book is ever damaged
abbrev pub HasBegun : List (List ℕ) → Earlier → Result Books JobFault → History → Type 0
HasBegun stamped before (Ok b) history = AtJob stamped (HasBooks before b) history
HasBegun stamped before (Err (Damaged name at)) history = AtTold stamped job (λ h. ⊥) history
HasBegun stamped before (Err fault) history = Legal stamped history
