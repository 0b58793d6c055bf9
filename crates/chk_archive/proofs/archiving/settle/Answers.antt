use Rattle.std.proofs.Common.{Ok, Err}
use Rattle.std.proofs.lemmas.Result.{err_from_is_err_and}
use Rattle.chk_site.proofs.Leads.{leads_as}
use Rattle.chk_world.specs.JobSteps.{IsOf}
use Rattle.chk_record_index.specs.Faults.{job_fault}
use Rattle.chk_record_index.specs.Pieces.{AsksInPieces}
use Rattle.chk_record_index.proofs.Gathering.{every_then}
use Rattle.chk_book.specs.Books.{book_view}
use Rattle.chk_book.specs.declared.book.Book.{Book as Struct}
use Rattle.chk_archive_parts.proofs.StepKinds.{as_kind, no_reads, fails_behind}
use Rattle.chk_archive.specs.Archived.{MergesBy, ArchivesBy}
use Rattle.chk_archive.specs.Beginning.{Begins}
use Rattle.chk_archive.specs.Tidying.{TidiesBy}
use Rattle.chk_archive.proofs.Lasts.{as_fails}
use Rattle.chk_archive.proofs.OnceListed.{listed_then}
use Rattle.chk_archive.proofs.RunKinds.{of_begin, of_tidy, of_merging, begin_lists_none, tidy_lists_none, merging_lists_none, tidy_reads_none}
use Rattle.chk_archive.proofs.Settled.{begin_fails, tidy_fails, many_fails, is_merged}
use Rattle.chk_archive.proofs.Shown.{settled_bad, settled_fails, settled_unsound, settled_ok}
use Rattle.chk_archive.proofs.archiving.settle.Goals as goal

pub returns-in_err-book-clause-told : goal.returns-in_err-book-clause-told
returns-in_err-book-clause-told g c stamped loaded =
    let q = err_from_is_err_and c.from_residual.result c.from_residual.ensures.1 in
    rw (q.1, q.2)
    (leads_as (λ h k. k) (λ h k. begin_fails stamped loaded c.in_err-book.field-0.0 h c.in_err-book.ensures.only k)
    (c.in_err-book.ensures.told stamped loaded))

pub returns-in_err-book-clause-own : goal.returns-in_err-book-clause-own
returns-in_err-book-clause-own g c = as_kind Begins ArchivesBy of_begin c.begin.ensures.own

pub returns-in_err-book-clause-none : goal.returns-in_err-book-clause-none
returns-in_err-book-clause-none g c = begin_lists_none c.begin.ensures.own

pub returns-in_err-tidy-clause-told : goal.returns-in_err-tidy-clause-told
returns-in_err-tidy-clause-told g c stamped loaded =
    let q = err_from_is_err_and c.from_residual-in_err-tidy.result c.from_residual-in_err-tidy.ensures.1 in
    let b = book_view c.in_ok-book.book in
    rw (q.1, q.2)
    (tidy_fails stamped loaded b b (c.in_ok-book.ensures.told stamped loaded) c.in_err-tidy.field-0.0
    (c.in_err-tidy.ensures.told stamped))

pub returns-in_err-tidy-clause-own : goal.returns-in_err-tidy-clause-own
returns-in_err-tidy-clause-own g c =
    let b = book_view c.in_ok-book.book in
    every_then (IsOf ArchivesBy) (as_kind Begins ArchivesBy of_begin c.begin.ensures.own)
    (as_kind (TidiesBy b) ArchivesBy (of_tidy b) c.tidy.ensures.own)

pub returns-in_err-tidy-clause-none : goal.returns-in_err-tidy-clause-none
returns-in_err-tidy-clause-none g c =
    listed_then {m = 0} {n = 0} (begin_lists_none c.begin.ensures.own)
    (tidy_lists_none (book_view c.in_ok-book.book) c.tidy.ensures.own)

pub returns-in_err-tidy-clause-pieces : goal.returns-in_err-tidy-clause-pieces
returns-in_err-tidy-clause-pieces g c =
    let b = book_view c.in_ok-book.book in
    every_then AsksInPieces c.begin.ensures.pieces (no_reads (TidiesBy b) (tidy_reads_none b) c.tidy.ensures.own)

pub returns-in_err-tidy-clause-last : goal.returns-in_err-tidy-clause-last
returns-in_err-tidy-clause-last g c =
    let q = err_from_is_err_and c.from_residual-in_err-tidy.result c.from_residual-in_err-tidy.ensures.1 in
    rw (q.1, q.2)
    (fails_behind {T = Struct} (Err (job_fault c.in_err-tidy.field-0.0)) c.begin.ensures.own
    (as_fails (Unit {0}) Struct c.in_err-tidy.field-0.0 c.in_err-tidy.ensures.last))

pub returns-in_err-merge_many-clause-told : goal.returns-in_err-merge_many-clause-told
returns-in_err-merge_many-clause-told g c stamped loaded =
    let q = err_from_is_err_and c.from_residual-in_err-merge_many.result c.from_residual-in_err-merge_many.ensures.1 in
    rw (q.1, q.2)
    (many_fails stamped loaded (book_view c.in_ok-book.book) (book_view c.merge_many.new.book)
    (c.in_ok-book.ensures.told stamped loaded) (c.in_ok-tidy.ensures.told stamped) c.tidy.ensures.own
    c.in_err-merge_many.field-0.0 (c.in_err-merge_many.ensures.told stamped))

pub returns-in_err-merge_many-clause-own : goal.returns-in_err-merge_many-clause-own
returns-in_err-merge_many-clause-own g c =
    let b = book_view c.in_ok-book.book in
    every_then (IsOf ArchivesBy)
    (every_then (IsOf ArchivesBy) (as_kind Begins ArchivesBy of_begin c.begin.ensures.own)
    (as_kind (TidiesBy b) ArchivesBy (of_tidy b) c.tidy.ensures.own))
    (as_kind MergesBy ArchivesBy of_merging c.merge_many.ensures.own)

pub returns-in_err-merge_many-clause-none : goal.returns-in_err-merge_many-clause-none
returns-in_err-merge_many-clause-none g c =
    listed_then {m = 0} {n = 0}
    (listed_then {m = 0} {n = 0} (begin_lists_none c.begin.ensures.own)
    (tidy_lists_none (book_view c.in_ok-book.book) c.tidy.ensures.own)) (merging_lists_none c.merge_many.ensures.own)

pub returns-in_err-merge_many-clause-pieces : goal.returns-in_err-merge_many-clause-pieces
returns-in_err-merge_many-clause-pieces g c =
    let b = book_view c.in_ok-book.book in
    every_then AsksInPieces
    (every_then AsksInPieces c.begin.ensures.pieces (no_reads (TidiesBy b) (tidy_reads_none b) c.tidy.ensures.own))
    c.merge_many.ensures.pieces

pub returns-in_err-merge_many-clause-last : goal.returns-in_err-merge_many-clause-last
returns-in_err-merge_many-clause-last g c =
    let q = err_from_is_err_and c.from_residual-in_err-merge_many.result c.from_residual-in_err-merge_many.ensures.1 in
    rw (q.1, q.2)
    (fails_behind {T = Struct} (Err c.in_err-merge_many.field-0.0)
    (listed_then {m = 0} {n = 0} (begin_lists_none c.begin.ensures.own)
    (tidy_lists_none (book_view c.in_ok-book.book) c.tidy.ensures.own)) c.in_err-merge_many.ensures.last)

pub returns-clause-told : goal.returns-clause-told
returns-clause-told g c stamped loaded =
    is_merged stamped loaded (book_view c.in_ok-book.book) (book_view c.merge_many.new.book)
    (c.in_ok-book.ensures.told stamped loaded) (c.in_ok-tidy.ensures.told stamped) c.tidy.ensures.own
    (c.in_ok-merge_many.ensures.told stamped) c.merge_many.ensures.own

pub returns-clause-own : goal.returns-clause-own
returns-clause-own g c =
    let b = book_view c.in_ok-book.book in
    every_then (IsOf ArchivesBy)
    (every_then (IsOf ArchivesBy) (as_kind Begins ArchivesBy of_begin c.begin.ensures.own)
    (as_kind (TidiesBy b) ArchivesBy (of_tidy b) c.tidy.ensures.own))
    (as_kind MergesBy ArchivesBy of_merging c.merge_many.ensures.own)

pub returns-clause-none : goal.returns-clause-none
returns-clause-none g c =
    listed_then {m = 0} {n = 0}
    (listed_then {m = 0} {n = 0} (begin_lists_none c.begin.ensures.own)
    (tidy_lists_none (book_view c.in_ok-book.book) c.tidy.ensures.own)) (merging_lists_none c.merge_many.ensures.own)

pub returns-clause-pieces : goal.returns-clause-pieces
returns-clause-pieces g c =
    let b = book_view c.in_ok-book.book in
    every_then AsksInPieces
    (every_then AsksInPieces c.begin.ensures.pieces (no_reads (TidiesBy b) (tidy_reads_none b) c.tidy.ensures.own))
    c.merge_many.ensures.pieces

pub returns-clause-last : goal.returns-clause-last
returns-clause-last g c =
    fails_behind {T = Struct} (Ok c.merge_many.new.book)
    (listed_then {m = 0} {n = 0} (begin_lists_none c.begin.ensures.own)
    (tidy_lists_none (book_view c.in_ok-book.book) c.tidy.ensures.own)) c.in_ok-merge_many.ensures.last

pub returns-in_err-book-clause-shown : goal.returns-in_err-book-clause-shown
returns-in_err-book-clause-shown g c =
    let q = err_from_is_err_and c.from_residual.result c.from_residual.ensures.1 in
    rw (q.1, q.2) (settled_bad c.in_err-book.field-0.0 c.in_err-book.ensures.only
    c.in_err-book.ensures.shown)

pub returns-in_err-tidy-clause-shown : goal.returns-in_err-tidy-clause-shown
returns-in_err-tidy-clause-shown g c =
    let q = err_from_is_err_and c.from_residual-in_err-tidy.result c.from_residual-in_err-tidy.ensures.1 in
    rw (q.1, q.2)
    (settled_fails c.in_err-tidy.field-0.0
    (listed_then {m = 0} {n = 0} (begin_lists_none c.begin.ensures.own)
    (tidy_lists_none (book_view c.in_ok-book.book) c.tidy.ensures.own)))

pub returns-in_err-merge_many-clause-shown : goal.returns-in_err-merge_many-clause-shown
returns-in_err-merge_many-clause-shown g c =
    let q = err_from_is_err_and c.from_residual-in_err-merge_many.result c.from_residual-in_err-merge_many.ensures.1 in
    rw (q.1, q.2)
    (settled_unsound (Unit {0}) (book_view c.in_ok-book.book) c.in_err-merge_many.field-0.0
    c.in_err-merge_many.ensures.spent
    c.in_ok-book.ensures.shown c.tidy.ensures.own
    c.in_err-merge_many.ensures.shown)

pub returns-clause-shown : goal.returns-clause-shown
returns-clause-shown g c =
    settled_ok (book_view c.in_ok-book.book) (book_view c.merge_many.new.book)
    (record {
      few = λ low. (c.merge_many.ensures.few low).1;
      many = c.in_ok-merge_many.ensures.many;
      ends = c.merge_many.ensures.kept.0;
      aside = c.merge_many.ensures.kept.1;
    }) c.in_ok-book.ensures.shown c.tidy.ensures.own c.merge_many.ensures.own
