use Rattle.std.proofs.Common.{Err}
use Rattle.std.proofs.lemmas.Result.{err_from_is_err_and}
use Rattle.chk_record_index.specs.Causes.{Shows}
use Rattle.std.specs.Prelude.{codes, drop}
use Rattle.chk_record_reader.specs.Segments.{names_of}
use Rattle.chk_demux.specs.Damage.{archive_book}
use Rattle.chk_demux.specs.Demuxed.{DemuxesBy}
use Rattle.chk_demux.specs.Shown.{IsDamage, ShowsSpent}
use Rattle.chk_demux.specs.Splitting.{texts}
use Rattle.chk_demux.specs.declared.report.DemuxReport.{DemuxReport}
use Rattle.chk_demux.proofs.RawReads.{not_loaded, all_read, older_refused, older_read}
use Rattle.chk_demux.proofs.RunSteps.{not_begun, whole_run, begun_works, whole_works}
use Rattle.chk_archive_parts.proofs.Works.{works_result}
use Rattle.chk_book.proofs.Works.{last_of as last_of_work, pieces_of as pieces_of_work, own_of}
use Rattle.chk_demux.proofs.Shown.{damage_begun, damage_behind, spent_begun}
use Rattle.chk_demux.proofs.NewHeads.{where_rises, spent_behind}
use Rattle.chk_demux.proofs.run.demux.Goals as goal

pub returns-in_err-books-clause-told : goal.returns-in_err-books-clause-told
returns-in_err-books-clause-told g c stamped before named =
    let q = err_from_is_err_and c.from_residual.result c.from_residual.ensures.1 in
    rw (q.1, q.2)
    (not_begun stamped before c.begin.result (c.begin.ensures.told stamped before) c.begin.ensures.only
    c.in_err-books.field-0.0 c.in_err-books.was)

pub returns-clause-told : goal.returns-clause-told
returns-clause-told g c stamped before named =
    whole_run stamped before c.begin.result (c.begin.ensures.told stamped before) c.in_ok-books.books c.in_ok-books.was
    c.split_archive.result c.split_archive.ensures.works (λ v ready. c.split_archive.ensures.told stamped v named ready)

pub returns-in_err-books-clause-raw : goal.returns-in_err-books-clause-raw
returns-in_err-books-clause-raw g c held settled =
    let q = err_from_is_err_and c.from_residual.result c.from_residual.ensures.1 in
    rw (q.1, q.2)
    (not_loaded held settled (texts c.args.types.now) c.begin.result
    (c.begin.ensures.raw held (names_of (codes "archive") (archive_book held)) settled)
    DemuxReport c.in_err-books.field-0.0 c.in_err-books.ensures.only c.in_err-books.was)

pub returns-clause-raw : goal.returns-clause-raw
returns-clause-raw g c held settled =
    all_read held settled (texts c.args.types.now) c.begin.result
    (c.begin.ensures.raw held (names_of (codes "archive") (archive_book held)) settled)
    c.in_ok-books.books c.in_ok-books.was c.split_archive.result c.split_archive.ensures.works
    (λ own counts sorted rises. c.split_archive.ensures.raw held own counts sorted rises)

pub returns-in_err-books-clause-own : goal.returns-in_err-books-clause-own
returns-in_err-books-clause-own g c =
    own_of DemuxesBy c.begin.result (begun_works c.begin.result c.begin.ensures.works)

pub returns-clause-own : goal.returns-clause-own
returns-clause-own g c =
    own_of DemuxesBy c.split_archive.result
    (whole_works c.begin.result c.split_archive.result c.begin.ensures.works c.split_archive.ensures.works)

pub returns-in_err-books-clause-pieces : goal.returns-in_err-books-clause-pieces
returns-in_err-books-clause-pieces g c =
    pieces_of_work DemuxesBy c.begin.result (begun_works c.begin.result c.begin.ensures.works)

pub returns-clause-pieces : goal.returns-clause-pieces
returns-clause-pieces g c =
    pieces_of_work DemuxesBy c.split_archive.result
    (whole_works c.begin.result c.split_archive.result c.begin.ensures.works c.split_archive.ensures.works)

pub returns-in_err-books-clause-last : goal.returns-in_err-books-clause-last
returns-in_err-books-clause-last g c =
    let q = err_from_is_err_and c.from_residual.result c.from_residual.ensures.1 in
    rw (q.1, q.2)
    (last_of_work {T = DemuxReport} DemuxesBy (Err c.in_err-books.field-0.0)
    (works_result DemuxReport DemuxesBy c.begin.result c.in_err-books.field-0.0 c.in_err-books.was
    (begun_works c.begin.result c.begin.ensures.works)))

pub returns-clause-last : goal.returns-clause-last
returns-clause-last g c =
    last_of_work DemuxesBy c.split_archive.result
    (whole_works c.begin.result c.split_archive.result c.begin.ensures.works c.split_archive.ensures.works)

pub returns-in_err-books-clause-shown : goal.returns-in_err-books-clause-shown
returns-in_err-books-clause-shown g c =
    let q = err_from_is_err_and c.from_residual.result c.from_residual.ensures.1 in
    rw (q.1, q.2) (damage_begun DemuxReport c.in_err-books.field-0.0 c.in_err-books.ensures.shown)

pub returns-clause-shown : goal.returns-clause-shown
returns-clause-shown g c =
    where_rises c.in_ok-books.books (Shows IsDamage c.split_archive.result) c.in_ok-books.ensures.shown
    c.split_archive.ensures.works
    (λ sorted. damage_behind c.in_ok-books.books c.split_archive.result c.in_ok-books.ensures.shown
    (c.split_archive.ensures.shown sorted))

pub returns-in_err-books-clause-spent : goal.returns-in_err-books-clause-spent
returns-in_err-books-clause-spent g c =
    let q = err_from_is_err_and c.from_residual.result c.from_residual.ensures.1 in
    rw (q.1, q.2)
    (spent_begun DemuxReport c.in_err-books.field-0.0 c.in_err-books.ensures.only
    c.in_err-books.ensures.shown)

pub returns-clause-spent : goal.returns-clause-spent
returns-clause-spent g c =
    where_rises c.in_ok-books.books (ShowsSpent c.split_archive.result) c.in_ok-books.ensures.shown
    c.split_archive.ensures.works
    (λ sorted. spent_behind c.in_ok-books.books c.split_archive.result c.in_ok-books.ensures.shown
    (c.split_archive.ensures.spent sorted))

-- ---- whatever the older files are

pub returns-in_err-books-clause-older : goal.returns-in_err-books-clause-older
returns-in_err-books-clause-older g c held k enough settled =
    let q = err_from_is_err_and c.from_residual.result c.from_residual.ensures.1 in
    rw (q.1, q.2)
    (older_refused held k enough settled c.begin.result
    (c.begin.ensures.raw held (drop k (names_of (codes "archive") (archive_book held))) settled)
    DemuxReport c.in_err-books.field-0.0 c.in_err-books.was)

pub returns-clause-older : goal.returns-clause-older
returns-clause-older g c held k enough settled =
    older_read held k enough settled c.begin.result
    (c.begin.ensures.raw held (drop k (names_of (codes "archive") (archive_book held))) settled)
    c.in_ok-books.books c.in_ok-books.was c.split_archive.result c.split_archive.ensures.works
    (λ suffice own counts sorted rises. c.split_archive.ensures.older held k suffice own counts sorted rises)
