use Rattle.std.proofs.Common.{◌≡◌, refl}
use Rattle.std.specs.Prelude.{codes}
use Rattle.std.proofs.lemmas.Result.{err_from_is_err_and}
use Rattle.chk_site.proofs.Leads.{leads_then}
use Rattle.chk_world.specs.Names.{ArchiveFolder, DemuxFolder}
use Rattle.chk_world.specs.Sight.{Sight, own_book}
use Rattle.chk_book.specs.Books.{book_view}
use Rattle.chk_archive_parts.proofs.WholeSegments.{archive_folder}
use Rattle.chk_demux.specs.Beginning.{HasRecords, Begins}
use Rattle.chk_demux.specs.Working.{job_result}
use Rattle.chk_demux.specs.declared.beginning.Books.{Books}
use Rattle.chk_demux.proofs.OneSegment.{demux_folder}
use Rattle.chk_demux.proofs.BookLoads.{book_loaded, begin_refused, load_refused, load_done, both_loaded, loads, loads_done}
use Rattle.chk_demux.specs.Damage.{archive_name, demux_name}
use Rattle.chk_demux.proofs.RawReads.{small_archive, small_demux, started, not_started, archive_refused, demux_refused, books_loaded}
use Rattle.chk_archive_parts.proofs.Works.{works_result}
use Rattle.chk_book.proofs.Works.{works_then, own_of}
use Rattle.chk_demux.proofs.Shown.{start_fails, archive_fails, records_fail, both_shown}
use Rattle.chk_demux.proofs.beginning.begin.Goals as goal

pub load_book-requires : goal.load_book-requires
load_book-requires g c = archive_folder

pub load_book-requires-2 : goal.load_book-requires-2
load_book-requires-2 g c = demux_folder

pub returns-in_err-start-clause-told : goal.returns-in_err-start-clause-told
returns-in_err-start-clause-told g c stamped before =
    let q = err_from_is_err_and c.from_residual.result c.from_residual.ensures.1 in
    rw (q.1, q.2)
    (begin_refused stamped before c.start.result c.in_err-start.field-0.0 c.in_err-start.was (c.start.ensures.told stamped before))

pub returns-in_err-start-clause-raw : goal.returns-in_err-start-clause-raw
returns-in_err-start-clause-raw g c held names settled =
    let q = err_from_is_err_and c.from_residual.result c.from_residual.ensures.1 in
    rw (q.1, q.2) (not_started held names settled c.in_err-start.field-0.0 c.start.ensures.works)

pub returns-in_err-archive-clause-raw : goal.returns-in_err-archive-clause-raw
returns-in_err-archive-clause-raw g c held names settled =
    let q = err_from_is_err_and c.from_residual-in_err-archive.result c.from_residual-in_err-archive.ensures.1 in
    rw (q.1, q.2)
    (archive_refused held names settled c.load_book.result
    (started held names settled (own_of Begins (job_result c.start.result) c.start.ensures.works))
    (c.load_book.ensures.raw (held archive_name) (small_archive held names settled))
    (c.load_book.ensures.own c.requires)
    c.in_err-archive.field-0.0 c.in_err-archive.was)

pub returns-in_err-demux-clause-raw : goal.returns-in_err-demux-clause-raw
returns-in_err-demux-clause-raw g c held names settled =
    let q = err_from_is_err_and c.from_residual-in_err-demux.result c.from_residual-in_err-demux.ensures.1 in
    rw (q.1, q.2)
    (demux_refused held names settled c.load_book.result
    (started held names settled (own_of Begins (job_result c.start.result) c.start.ensures.works))
    (c.load_book.ensures.raw (held archive_name) (small_archive held names settled))
    (c.load_book.ensures.own c.requires)
    c.in_ok-archive.archive c.in_ok-archive.was c.load_book-2.result
    (c.load_book-2.ensures.raw (held demux_name) (small_demux held names settled))
    (c.load_book-2.ensures.own c.requires)
    c.in_err-demux.field-0.0 c.in_err-demux.was)

pub returns-clause-raw : goal.returns-clause-raw
returns-clause-raw g c held names settled =
    books_loaded held names settled c.load_book.result
    (started held names settled (own_of Begins (job_result c.start.result) c.start.ensures.works))
    (c.load_book.ensures.raw (held archive_name) (small_archive held names settled))
    (c.load_book.ensures.own c.requires)
    c.in_ok-archive.archive c.in_ok-archive.was c.load_book-2.result
    (c.load_book-2.ensures.raw (held demux_name) (small_demux held names settled))
    (c.load_book-2.ensures.own c.requires)
    c.in_ok-demux.demux c.in_ok-demux.was

pub returns-in_err-archive-clause-told : goal.returns-in_err-archive-clause-told
returns-in_err-archive-clause-told g c stamped before =
    let q = err_from_is_err_and c.from_residual-in_err-archive.result c.from_residual-in_err-archive.ensures.1 in
    rw (q.1, q.2)
    (load_refused stamped before (HasRecords before) ArchiveFolder c.load_book.result c.in_err-archive.field-0.0 c.in_err-archive.was
    (leads_then (c.in_ok-start.ensures.told stamped before)
    (book_loaded stamped (HasRecords before) ArchiveFolder (codes "archive") refl c.load_book.result c.load_book.ensures.raw
    (c.load_book.ensures.own c.requires))))

pub returns-in_err-archive-clause-works : goal.returns-in_err-archive-clause-works
returns-in_err-archive-clause-works g c =
    let q = err_from_is_err_and c.from_residual-in_err-archive.result c.from_residual-in_err-archive.ensures.1 in
    rw (q.1, q.2)
    (works_result Books Begins c.load_book.result c.in_err-archive.field-0.0 c.in_err-archive.was
    (works_then Begins (job_result c.start.result) c.load_book.result c.start.ensures.works
    (loads c.load_book.result (c.load_book.ensures.own c.requires) c.load_book.ensures.pieces c.load_book.ensures.last)))

pub returns-in_err-demux-clause-told : goal.returns-in_err-demux-clause-told
returns-in_err-demux-clause-told g c stamped before =
    let q = err_from_is_err_and c.from_residual-in_err-demux.result c.from_residual-in_err-demux.ensures.1 in
    let a = c.in_ok-archive.archive in
    let P : Sight → Type 0 = λ v. HasRecords before v × (own_book v ArchiveFolder ≡ book_view a) in
    rw (q.1, q.2)
    (load_refused stamped before P DemuxFolder c.load_book-2.result c.in_err-demux.field-0.0 c.in_err-demux.was
    (leads_then
    (load_done stamped (HasRecords before) ArchiveFolder c.load_book.result a c.in_ok-archive.was
    (leads_then (c.in_ok-start.ensures.told stamped before)
    (book_loaded stamped (HasRecords before) ArchiveFolder (codes "archive") refl c.load_book.result c.load_book.ensures.raw
    (c.load_book.ensures.own c.requires))))
    (book_loaded stamped P DemuxFolder (codes "demux") refl c.load_book-2.result c.load_book-2.ensures.raw
    (c.load_book-2.ensures.own c.requires))))

pub returns-in_err-demux-clause-works : goal.returns-in_err-demux-clause-works
returns-in_err-demux-clause-works g c =
    let q = err_from_is_err_and c.from_residual-in_err-demux.result c.from_residual-in_err-demux.ensures.1 in
    rw (q.1, q.2)
    (works_result Books Begins c.load_book-2.result c.in_err-demux.field-0.0 c.in_err-demux.was
    (works_then Begins c.load_book.result c.load_book-2.result
    (works_then Begins (job_result c.start.result) c.load_book.result c.start.ensures.works
    (loads c.load_book.result (c.load_book.ensures.own c.requires) c.load_book.ensures.pieces c.load_book.ensures.last))
    (loads c.load_book-2.result (c.load_book-2.ensures.own c.requires) c.load_book-2.ensures.pieces c.load_book-2.ensures.last)))

pub returns-clause-told : goal.returns-clause-told
returns-clause-told g c stamped before =
    let a = c.in_ok-archive.archive in
    let d = c.in_ok-demux.demux in
    let P : Sight → Type 0 = λ v. HasRecords before v × (own_book v ArchiveFolder ≡ book_view a) in
    both_loaded stamped before a d
    (load_done stamped P DemuxFolder c.load_book-2.result d c.in_ok-demux.was
    (leads_then
    (load_done stamped (HasRecords before) ArchiveFolder c.load_book.result a c.in_ok-archive.was
    (leads_then (c.in_ok-start.ensures.told stamped before)
    (book_loaded stamped (HasRecords before) ArchiveFolder (codes "archive") refl c.load_book.result c.load_book.ensures.raw
    (c.load_book.ensures.own c.requires))))
    (book_loaded stamped P DemuxFolder (codes "demux") refl c.load_book-2.result c.load_book-2.ensures.raw
    (c.load_book-2.ensures.own c.requires))))

pub returns-clause-works : goal.returns-clause-works
returns-clause-works g c =
    let d = c.in_ok-demux.demux in
    loads_done c.load_book-2.result c.in_ok-archive.archive d c.in_ok-demux.was
    (works_then Begins c.load_book.result c.load_book-2.result
    (works_then Begins (job_result c.start.result) c.load_book.result c.start.ensures.works
    (loads c.load_book.result (c.load_book.ensures.own c.requires) c.load_book.ensures.pieces c.load_book.ensures.last))
    (loads c.load_book-2.result (c.load_book-2.ensures.own c.requires) c.load_book-2.ensures.pieces c.load_book-2.ensures.last))

pub returns-in_err-start-clause-shown : goal.returns-in_err-start-clause-shown
returns-in_err-start-clause-shown g c =
    let q = err_from_is_err_and c.from_residual.result c.from_residual.ensures.1 in
    rw (q.1, q.2) (start_fails c.in_err-start.field-0.0 c.start.ensures.works)

pub returns-in_err-archive-clause-shown : goal.returns-in_err-archive-clause-shown
returns-in_err-archive-clause-shown g c =
    let q = err_from_is_err_and c.from_residual-in_err-archive.result c.from_residual-in_err-archive.ensures.1 in
    rw (q.1, q.2) (archive_fails c.in_err-archive.field-0.0 c.start.ensures.works c.in_err-archive.ensures.shown)

pub returns-in_err-demux-clause-shown : goal.returns-in_err-demux-clause-shown
returns-in_err-demux-clause-shown g c =
    let q = err_from_is_err_and c.from_residual-in_err-demux.result c.from_residual-in_err-demux.ensures.1 in
    rw (q.1, q.2)
    (records_fail c.in_err-demux.field-0.0 c.start.ensures.works (c.load_book.ensures.own c.requires) c.in_err-demux.ensures.shown)

pub returns-clause-shown : goal.returns-clause-shown
returns-clause-shown g c =
    both_shown c.in_ok-archive.archive c.in_ok-demux.demux c.start.ensures.works c.in_ok-archive.ensures.shown
    c.in_ok-demux.ensures.shown
