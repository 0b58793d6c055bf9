use Rattle.std.proofs.lemmas.Result.{err_from_is_err_and}
use Rattle.chk_site.proofs.Leads.{leads_then}
use Rattle.chk_world.specs.JobSteps.{IsOf}
use Rattle.chk_record_index.proofs.Gathering.{every_then}
use Rattle.chk_book.specs.Loaded.{book_result}
use Rattle.chk_archive.specs.Beginning.{Begins}
use Rattle.chk_record_index.specs.Pieces.{AsksInPieces}
use Rattle.chk_archive.proofs.BookLoads.{book_loaded, load_works, begin_refused}
use Rattle.chk_record_reader.proofs.Fetching.{failed_read as of_read}
use Rattle.chk_book.specs.declared.book.Book.{Book as Struct}
use Rattle.chk_archive_parts.proofs.WholeSegments.{archive_folder}
use Rattle.chk_archive_parts.proofs.StepKinds.{fails_behind}
use Rattle.chk_archive.proofs.Lasts.{as_fails}
use Rattle.chk_archive.proofs.Shown.{begun_so, begun_fails}
use Rattle.chk_archive.proofs.beginning.begin.Goals as goal

pub returns-clause-told : goal.returns-clause-told
returns-clause-told g c stamped loaded =
    leads_then (c.in_ok-start.ensures.told stamped loaded)
    (book_loaded stamped loaded (book_result c.load_book.result) c.load_book.ensures.raw
    (c.load_book.ensures.own c.requires))

pub returns-clause-own : goal.returns-clause-own
returns-clause-own g c =
    every_then (IsOf Begins) c.in_ok-start.ensures.own
    (load_works (c.load_book.ensures.own c.requires))

pub load_book-requires : goal.load_book-requires
load_book-requires g c = archive_folder

pub returns-in_err-start-clause-told : goal.returns-in_err-start-clause-told
returns-in_err-start-clause-told g c stamped loaded =
    let p = err_from_is_err_and c.from_residual.result c.from_residual.ensures.1 in
    rw (p.1, p.2) (begin_refused stamped loaded c.in_err-start.field-0.0
    (c.in_err-start.ensures.told stamped loaded))

pub returns-in_err-start-clause-last : goal.returns-in_err-start-clause-last
returns-in_err-start-clause-last g c =
    let p = err_from_is_err_and c.from_residual.result c.from_residual.ensures.1 in
    rw (p.1, p.2) (as_fails (Unit {0}) Struct c.in_err-start.field-0.0 c.in_err-start.ensures.last)

pub returns-clause-last : goal.returns-clause-last
returns-clause-last g c = fails_behind c.load_book.result c.in_ok-start.ensures.own c.load_book.ensures.last

pub returns-clause-pieces : goal.returns-clause-pieces
returns-clause-pieces g c = every_then AsksInPieces c.in_ok-start.ensures.pieces c.load_book.ensures.pieces

pub returns-in_err-start-clause-only : goal.returns-in_err-start-clause-only
returns-in_err-start-clause-only g c =
    let p = err_from_is_err_and c.from_residual.result c.from_residual.ensures.1 in
    rw (p.1, p.2) (of_read c.in_err-start.field-0.0)

pub returns-in_err-start-clause-shown : goal.returns-in_err-start-clause-shown
returns-in_err-start-clause-shown g c =
    let p = err_from_is_err_and c.from_residual.result c.from_residual.ensures.1 in
    rw (p.1, p.2) (begun_fails c.in_err-start.field-0.0 c.in_err-start.ensures.own)

pub returns-clause-shown : goal.returns-clause-shown
returns-clause-shown g c = begun_so (book_result c.load_book.result) c.in_ok-start.ensures.own c.load_book.ensures.shown
