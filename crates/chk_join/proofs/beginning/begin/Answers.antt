use Rattle.std.proofs.Common.{refl, ap}
use Rattle.chk_record_index.specs.Faults.{job_fault}
use Rattle.std.proofs.lemmas.Result.{err_from_is_err_and}
use Rattle.std.specs.Prelude.{codes}
use Rattle.chk_site.proofs.Leads.{leads_then}
use Rattle.chk_world.specs.Names.{JoinedFolder}
use Rattle.chk_join.specs.Beginning.{Begins}
use Rattle.chk_join.specs.Working.{Starting, job_result}
use Rattle.chk_book.specs.declared.book.Book.{Book as Struct}
use Rattle.chk_join.proofs.BookLoads.{book_loaded}
use Rattle.chk_join.proofs.Begun.{joined_book, begin_refused, begun_so, start_stays}
use Rattle.chk_join.proofs.Begun.{start_not_loaded, start_begins, load_begins}
use Rattle.chk_join_sources.proofs.Segment.{joined_folder as joined_is_folder}
use Rattle.chk_record_reader.proofs.Fetching.{failed_read as of_read}
use Rattle.chk_archive_parts.proofs.Works.{works_result}
use Rattle.chk_book.proofs.Works.{works_then, own_of}
use Rattle.chk_join.proofs.beginning.begin.Goals as goal

pub load_book-requires : goal.load_book-requires
load_book-requires g c = joined_is_folder

pub returns-in_err-start-clause-told : goal.returns-in_err-start-clause-told
returns-in_err-start-clause-told g c stamped =
    let q = err_from_is_err_and c.from_residual.result c.from_residual.ensures.1 in
    rw (q.1, q.2)
    (begin_refused stamped c.start.result c.in_err-start.field-0.0 c.in_err-start.was (c.start.ensures.told stamped))

pub returns-in_err-start-clause-raw : goal.returns-in_err-start-clause-raw
returns-in_err-start-clause-raw g c file settled small =
    let q = err_from_is_err_and c.from_residual.result c.from_residual.ensures.1 in
    rw (q.1, q.2) (start_not_loaded file c.in_err-start.field-0.0 c.start.ensures.works)

pub returns-in_err-start-clause-works : goal.returns-in_err-start-clause-works
returns-in_err-start-clause-works g c =
    let q = err_from_is_err_and c.from_residual.result c.from_residual.ensures.1 in
    rw (q.1, q.2)
    (works_result Struct Begins (job_result c.start.result) (job_fault c.in_err-start.field-0.0) (ap job_result c.in_err-start.was)
    (start_begins (job_result c.start.result) c.start.ensures.works))

pub returns-in_err-start-clause-only : goal.returns-in_err-start-clause-only
returns-in_err-start-clause-only g c =
    let q = err_from_is_err_and c.from_residual.result c.from_residual.ensures.1 in
    rw (q.1, q.2) (of_read c.in_err-start.field-0.0)

pub returns-clause-told : goal.returns-clause-told
returns-clause-told g c stamped =
    begun_so stamped c.load_book.result
    (leads_then (c.in_ok-start.ensures.told stamped)
    (book_loaded stamped (λ v. Unit {0}) JoinedFolder (codes "joined") refl c.load_book.result c.load_book.ensures.raw
    (c.load_book.ensures.own c.requires)))

pub returns-clause-raw : goal.returns-clause-raw
returns-clause-raw g c file settled small =
    leads_then (start_stays joined_book file settled (own_of Starting (job_result c.start.result) c.start.ensures.works))
    (c.load_book.ensures.raw file small)

pub returns-clause-works : goal.returns-clause-works
returns-clause-works g c =
    works_then Begins (job_result c.start.result) c.load_book.result
    (start_begins (job_result c.start.result) c.start.ensures.works)
    (load_begins c.load_book.result (c.load_book.ensures.own c.requires) c.load_book.ensures.pieces c.load_book.ensures.last)
