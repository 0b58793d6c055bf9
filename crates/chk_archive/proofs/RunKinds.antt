-- The calls of a run's parts are calls of the run, and which of them list the sinks, or read.
use Rattle.std.proofs.Common.{◌≡◌, ℕ, false, List, Option, Some, None, sym, subst, refl, true≢false}
use Rattle.std.specs.Prelude.{IsTrue, codes}
use Rattle.chk_site.specs.Acts.{Deed, Reads, Removes}
use Rattle.chk_site.specs.Honest.{in_folder}
use Rattle.chk_site.specs.History.{History, Every}
use Rattle.chk_site.specs.Site.{Adds}
use Rattle.chk_world.specs.Books.{Book}
use Rattle.chk_world.specs.JobSteps.{IsOf, WritesTo, removes, creates, appends, syncs, ReadsFile, reads, asks}
use Rattle.chk_archive.specs.Archived.{is_sinks_listing, ListsNoSinks, writes_book, names_book, MergesBy, merge_reads, merge_writes, merge_replaces, ArchivesBy, starts, lists_archive, lists_sinks_folder, reads_and_writes, removes_sink}
use Rattle.chk_archive.specs.Beginning.{Begins, starts as begins_start, only_reads}
use Rattle.chk_archive.specs.FolderNames.{segment_number, unnamed_only, is_stray}
use Rattle.chk_archive.specs.Running.{FinishesBy, takes_by, removes_closed}
use Rattle.chk_archive.specs.Sinks.{ListsSinks, lists_sinks}
use Rattle.chk_archive.specs.Tidying.{TidiesBy, lists_archive as tidy_lists, removes_stray}
use Rattle.chk_archive.proofs.OnceListed.{none_listed}
use Rattle.chk_archive.proofs.StrayNames.{stem_of_number}

-- ---- calls of the run

-- a segment that the book doesn't name is one of the archive's
stray_goes : (b : Book) (name : List ℕ) → IsTrue (is_stray b name) → ArchivesBy (Removes (in_folder (codes "archive") name))
stray_goes b name stray = go (segment_number name) refl stray
  where
    go : (o : Option ℕ) → segment_number name ≡ o → IsTrue (unnamed_only b o)
        → ArchivesBy (Removes (in_folder (codes "archive") name))
    go None e none = absurd (true≢false (sym none))
    go (Some k) e some =
        subst (λ n. ArchivesBy (Removes (in_folder (codes "archive") n))) (sym (stem_of_number name k e).1)
        (reads_and_writes _ (merge_writes k _ removes))

pub of_begin : (call : Deed) → Begins call → ArchivesBy call
of_begin call begins_start = starts
of_begin call (only_reads c k) = reads_and_writes c (merge_reads c k)

pub of_tidy : (b : Book) (call : Deed) → TidiesBy b call → ArchivesBy call
of_tidy b call tidy_lists = lists_archive
of_tidy b call (removes_stray name stray) = stray_goes b name stray

pub of_merging : (call : Deed) → MergesBy call → ArchivesBy call
of_merging call k = reads_and_writes call k

pub of_listing : (call : Deed) → ListsSinks call → ArchivesBy call
of_listing call lists_sinks = lists_sinks_folder

pub of_finish : (call : Deed) → FinishesBy call → ArchivesBy call
of_finish call (takes_by c k) = reads_and_writes c k
of_finish call (removes_closed name closed) = removes_sink name closed

-- ---- calls that don't list the sinks

reading_none : (call : Deed) → ReadsFile call → is_sinks_listing call ≡ false
reading_none call (reads name at max) = refl
reading_none call (asks name) = refl

writing_none : (w : List ℕ) (call : Deed) → WritesTo w call → is_sinks_listing call ≡ false
writing_none w call removes = refl
writing_none w call creates = refl
writing_none w call (appends piece) = refl
writing_none w call syncs = refl

merging_none : (call : Deed) → MergesBy call → is_sinks_listing call ≡ false
merging_none call (merge_reads c k) = reading_none c k
merging_none call (merge_writes n c k) = writing_none _ c k
merging_none call (merge_replaces c (writes_book d k)) = writing_none _ d k
merging_none call (merge_replaces c names_book) = refl

begin_none : (call : Deed) → Begins call → is_sinks_listing call ≡ false
begin_none call begins_start = refl
begin_none call (only_reads c k) = reading_none c k

tidy_none : (b : Book) (call : Deed) → TidiesBy b call → is_sinks_listing call ≡ false
tidy_none b call tidy_lists = refl
tidy_none b call (removes_stray name stray) = refl

finish_none : (call : Deed) → FinishesBy call → is_sinks_listing call ≡ false
finish_none call (takes_by c k) = merging_none c k
finish_none call (removes_closed name closed) = refl

pub begin_lists_none : {old new : Option History} → Adds old new (Every (IsOf Begins)) → Adds old new ListsNoSinks
begin_lists_none own = none_listed Begins begin_none own

pub tidy_lists_none : (b : Book) {old new : Option History} → Adds old new (Every (IsOf (TidiesBy b)))
    → Adds old new ListsNoSinks
tidy_lists_none b own = none_listed (TidiesBy b) (tidy_none b) own

pub merging_lists_none : {old new : Option History} → Adds old new (Every (IsOf MergesBy)) → Adds old new ListsNoSinks
merging_lists_none own = none_listed MergesBy merging_none own

pub finish_lists_none : {old new : Option History} → Adds old new (Every (IsOf FinishesBy)) → Adds old new ListsNoSinks
finish_lists_none own = none_listed FinishesBy finish_none own

-- ---- calls that read nothing

pub tidy_reads_none : (b : Book) (call : Deed) → TidiesBy b call → (name : List ℕ) (at max : ℕ) → call ≡ Reads name at max → ⊥
tidy_reads_none b call tidy_lists name at max is = absurd (cc)
tidy_reads_none b call (removes_stray stem stray) name at max is = absurd (cc)

pub listing_reads_none : (call : Deed) → ListsSinks call → (name : List ℕ) (at max : ℕ) → call ≡ Reads name at max → ⊥
listing_reads_none call lists_sinks name at max is = absurd (cc)
