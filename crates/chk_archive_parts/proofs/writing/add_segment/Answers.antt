use Rattle.std.proofs.Common.{◌∙◌, inr, sym, subst}
use Rattle.std.specs.Prelude.{codes}
use Rattle.std.proofs.lemmas.Result.{err_from_is_err_and}
use Rattle.chk_site.specs.History.{Every}
use Rattle.chk_site.specs.Site.{Adds}
use Rattle.chk_world.specs.JobSteps.{IsOf, WritesTo, ReadsOrWrites}
use Rattle.chk_record_index.specs.Pieces.{AsksInPieces}
use Rattle.chk_record_index.proofs.Gathering.{every_then}
use Rattle.chk_book.specs.Books.{book_view}
use Rattle.chk_book.specs.Folders.{segment_name}
use Rattle.chk_archive_parts.specs.Cuts.{cut_chunks}
use Rattle.chk_archive_parts.specs.Writes.{IsFree, with_new}
use Rattle.chk_archive_parts.proofs.AllFiles.{fails_later}
use Rattle.chk_archive_parts.proofs.ForArchive.{writes_it}
use Rattle.chk_archive_parts.proofs.OneSegment.{begun_so, not_begun}
use Rattle.chk_archive_parts.proofs.StepKinds.{as_kind, no_reads, writes_no_reads, fails_behind}
use Rattle.chk_archive_parts.proofs.WholeSegments.{archive_folder, write_fails, all_written, entered}
use Rattle.chk_record_index.proofs.Causes.{shows_then}
use Rattle.chk_record_reader.proofs.Causes.{late_gone_in, shows_begun, shows_written}
use Rattle.chk_record_reader.specs.Gone.{IsGoneIn}
use Rattle.chk_archive_parts.proofs.writing.add_segment.Goals as goal

pub begin_segment-requires : goal.begin_segment-requires
begin_segment-requires g c = archive_folder

pub returns-in_err-segmenter-clause-told : goal.returns-in_err-segmenter-clause-told
returns-in_err-segmenter-clause-told g c stamped v cs records free =
    let p = err_from_is_err_and c.from_residual.result c.from_residual.ensures.1 in
    let b = book_view c.args.book.now in
    let chunks = cut_chunks cs c.args.cuts.now in
    rw (p.1, p.2)
    (not_begun stamped v c.args.files.now b free (with_new c.args.purpose chunks) b chunks c.in_err-segmenter.field-0.0
    c.in_err-segmenter.ensures.only c.in_err-segmenter.ensures.raw (c.begin_segment.ensures.own c.requires.job))

pub returns-in_err-segmenter-clause-own : goal.returns-in_err-segmenter-clause-own
returns-in_err-segmenter-clause-own g c =
    let w = segment_name (codes "archive") (book_view c.args.book.now).next in
    as_kind (WritesTo w) (ReadsOrWrites w) (λ call k. inr k) (c.begin_segment.ensures.own c.requires.job)

pub returns-in_err-segmenter-clause-pieces : goal.returns-in_err-segmenter-clause-pieces
returns-in_err-segmenter-clause-pieces g c =
    let w = segment_name (codes "archive") (book_view c.args.book.now).next in
    no_reads (WritesTo w) (writes_no_reads w) (c.begin_segment.ensures.own c.requires.job)

pub returns-in_err-write_cuts-clause-told : goal.returns-in_err-write_cuts-clause-told
returns-in_err-write_cuts-clause-told g c stamped v cs records free =
    let p = err_from_is_err_and c.from_residual-in_err-write_cuts.result c.from_residual-in_err-write_cuts.ensures.1 in
    let files = c.args.files.now in
    let b = book_view c.args.book.now in
    let s = c.in_ok-segmenter.segmenter in
    let at = c.in_ok-segmenter.ensures.at in
    let chunks = cut_chunks cs c.args.cuts.now in
    let now : IsFree v files s.number = subst (IsFree v files) (sym at.number) free in
    rw (p.1, p.2)
    (write_fails stamped v (with_new c.args.purpose chunks) b b s c.write_cuts.new.segmenter chunks c.write_cuts.result
    c.in_err-write_cuts.field-0.0 c.in_err-write_cuts.was c.in_err-write_cuts.ensures.only
    (begun_so stamped v files b free s at c.in_ok-segmenter.ensures.raw (c.begin_segment.ensures.own c.requires.job))
    (c.write_cuts.ensures.told stamped v cs records now))

pub returns-in_err-write_cuts-clause-own : goal.returns-in_err-write_cuts-clause-own
returns-in_err-write_cuts-clause-own g c =
    let w = segment_name (codes "archive") (book_view c.args.book.now).next in
    every_then (IsOf (ReadsOrWrites w))
    (as_kind (WritesTo w) (ReadsOrWrites w) (λ call k. inr k) (c.begin_segment.ensures.own c.requires.job))
    (subst (λ n. Adds (g.S.Site.told c.begin_segment.new.site) (g.S.Site.told c.write_cuts.new.site)
    (Every (IsOf (ReadsOrWrites (segment_name (codes "archive") n))))) c.in_ok-segmenter.ensures.at.number
    c.write_cuts.ensures.own)

pub returns-in_err-write_cuts-clause-pieces : goal.returns-in_err-write_cuts-clause-pieces
returns-in_err-write_cuts-clause-pieces g c =
    let w = segment_name (codes "archive") (book_view c.args.book.now).next in
    every_then AsksInPieces (no_reads (WritesTo w) (writes_no_reads w) (c.begin_segment.ensures.own c.requires.job))
    c.write_cuts.ensures.pieces

pub returns-in_err-write_cuts-clause-last : goal.returns-in_err-write_cuts-clause-last
returns-in_err-write_cuts-clause-last g c =
    let p = err_from_is_err_and c.from_residual-in_err-write_cuts.result c.from_residual-in_err-write_cuts.ensures.1 in
    rw (p.1, p.2)
    (fails_later (Unit {0}) (Unit {0}) c.in_err-write_cuts.field-0.0 (c.begin_segment.ensures.own c.requires.job)
    c.in_err-write_cuts.ensures.last)

pub returns-clause-told : goal.returns-clause-told
returns-clause-told g c stamped v cs records free =
    let files = c.args.files.now in
    let b = book_view c.args.book.now in
    let s = c.in_ok-segmenter.segmenter in
    let at = c.in_ok-segmenter.ensures.at in
    let t = c.write_cuts.new.segmenter in
    let chunks = cut_chunks cs c.args.cuts.now in
    let now : IsFree v files s.number = subst (IsFree v files) (sym at.number) free in
    entered stamped v files t b (book_view c.finish_for.new.book) (c.in_ok-write_cuts.ensures.number ∙ at.number) free chunks c.args.purpose
    c.finish_for.result c.finish_for.ensures.only
    (all_written stamped v s t chunks c.write_cuts.result c.in_ok-write_cuts.field-0 c.in_ok-write_cuts.was
    (begun_so stamped v files b free s at c.in_ok-segmenter.ensures.raw (c.begin_segment.ensures.own c.requires.job))
    (c.write_cuts.ensures.told stamped v cs records now))
    (writes_it t c.in_ok-write_cuts.ensures.segment c.finish_for.ensures.own
    (c.write_cuts.ensures.who ∙ (c.in_ok-segmenter.ensures.who ∙ c.requires.job)))
    c.finish_for.ensures.raw

pub returns-clause-own : goal.returns-clause-own
returns-clause-own g c =
    let w = segment_name (codes "archive") (book_view c.args.book.now).next in
    let t = c.write_cuts.new.segmenter in
    let mid = g.S.Site.told c.write_cuts.new.site in
    let last = g.S.Site.told c.finish_for.new.site in
    let at = c.in_ok-segmenter.ensures.at in
    every_then (IsOf (ReadsOrWrites w))
    (every_then (IsOf (ReadsOrWrites w))
    (as_kind (WritesTo w) (ReadsOrWrites w) (λ call k. inr k) (c.begin_segment.ensures.own c.requires.job))
    (subst (λ n. Adds (g.S.Site.told c.begin_segment.new.site) mid
    (Every (IsOf (ReadsOrWrites (segment_name (codes "archive") n))))) at.number c.write_cuts.ensures.own))
    (as_kind (WritesTo w) (ReadsOrWrites w) (λ call k. inr k)
    (subst (λ n. Adds mid last (Every (IsOf (WritesTo (segment_name (codes "archive") n)))))
    (c.in_ok-write_cuts.ensures.number ∙ at.number)
    (writes_it t c.in_ok-write_cuts.ensures.segment c.finish_for.ensures.own
    (c.write_cuts.ensures.who ∙ (c.in_ok-segmenter.ensures.who ∙ c.requires.job)))))

pub returns-clause-pieces : goal.returns-clause-pieces
returns-clause-pieces g c =
    let w = segment_name (codes "archive") (book_view c.args.book.now).next in
    let t = c.write_cuts.new.segmenter in
    let x = segment_name (codes "archive") t.number in
    every_then AsksInPieces
    (every_then AsksInPieces
    (no_reads (WritesTo w) (writes_no_reads w) (c.begin_segment.ensures.own c.requires.job)) c.write_cuts.ensures.pieces)
    (no_reads (WritesTo x) (writes_no_reads x)
    (writes_it t c.in_ok-write_cuts.ensures.segment c.finish_for.ensures.own
    (c.write_cuts.ensures.who ∙ (c.in_ok-segmenter.ensures.who ∙ c.requires.job))))

pub returns-clause-last : goal.returns-clause-last
returns-clause-last g c =
    fails_behind c.finish_for.result
    (every_then AsksInPieces
    (no_reads (WritesTo (segment_name (codes "archive") (book_view c.args.book.now).next))
    (writes_no_reads (segment_name (codes "archive") (book_view c.args.book.now).next))
    (c.begin_segment.ensures.own c.requires.job)) c.write_cuts.ensures.pieces) c.finish_for.ensures.last

pub returns-in_err-segmenter-clause-shown : goal.returns-in_err-segmenter-clause-shown
returns-in_err-segmenter-clause-shown g c =
    let p = err_from_is_err_and c.from_residual.result c.from_residual.ensures.1 in
    rw (p.1, p.2)
    (shows_begun (Unit {0}) (IsGoneIn c.args.files.now c.args.heads.now) c.in_err-segmenter.field-0.0 c.in_err-segmenter.ensures.only
    (c.begin_segment.ensures.own c.requires.job))

pub returns-in_err-write_cuts-clause-shown : goal.returns-in_err-write_cuts-clause-shown
returns-in_err-write_cuts-clause-shown g c =
    let p = err_from_is_err_and c.from_residual-in_err-write_cuts.result c.from_residual-in_err-write_cuts.ensures.1 in
    let files = c.args.files.now in
    let heads = c.args.heads.now in
    rw (p.1, p.2)
    (shows_then (Unit {0}) (Unit {0}) (IsGoneIn files heads) (late_gone_in files heads) c.in_err-write_cuts.field-0.0
    (c.begin_segment.ensures.own c.requires.job) c.in_err-write_cuts.ensures.shown)

pub returns-clause-shown : goal.returns-clause-shown
returns-clause-shown g c =
    shows_written (IsGoneIn c.args.files.now c.args.heads.now) c.finish_for.result c.finish_for.ensures.only
    (fails_behind c.finish_for.result
    (every_then AsksInPieces
    (no_reads (WritesTo (segment_name (codes "archive") (book_view c.args.book.now).next))
    (writes_no_reads (segment_name (codes "archive") (book_view c.args.book.now).next))
    (c.begin_segment.ensures.own c.requires.job)) c.write_cuts.ensures.pieces) c.finish_for.ensures.last)

pub returns-clause-next : goal.returns-clause-next
returns-clause-next g c = c.finish_for.ensures.next

pub returns-clause-aside : goal.returns-clause-aside
returns-clause-aside g c = c.finish_for.ensures.aside
