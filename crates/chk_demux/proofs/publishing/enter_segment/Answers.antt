use Rattle.std.proofs.Common.{Some, ap, refl, subst, Result}
use Rattle.std.specs.Prelude.{codes}
use Rattle.std.proofs.lemmas.Result.{err_from_is_err_and}
use Rattle.chk_site.specs.declared.acts.OutsideFault.{OutsideFault}
use Rattle.chk_site.specs.Site.{Adds}
use Rattle.chk_site.specs.Runs.{Leads}
use Rattle.chk_world.specs.Names.{DemuxFolder}
use Rattle.chk_world.specs.Places.{As}
use Rattle.chk_world.specs.Sight.{job, AtJob}
use Rattle.chk_world.specs.JobSteps.{WritesTo}
use Rattle.chk_record_index.specs.Faults.{job_fault}
use Rattle.chk_book.specs.Books.{book_view}
use Rattle.chk_book.specs.Folders.{segment_name}
use Rattle.chk_demux.specs.Demuxed.{WritesBook, ReplacesBook, writes_segment, replaces}
use Rattle.chk_demux.specs.Working.{EndsSo, Worked, job_result}
use Rattle.chk_demux.specs.Writes.{IsSoFar}
use Rattle.chk_demux.specs.Entering.{Entered}
use Rattle.chk_demux.proofs.RawReads.{call_writes}
use Rattle.chk_demux.proofs.Ends.{so_fails}
use Rattle.chk_demux.proofs.Entries.{entered_so}
use Rattle.chk_demux.proofs.OneSegment.{demux_folder, HasWritten, finish_so, writes_it}
use Rattle.chk_demux.proofs.Works.{worked_replaces}
use Rattle.chk_archive_parts.proofs.Works.{works_result, worked_writes, works_as}
use Rattle.chk_book.proofs.Works.{works_then}
use Rattle.chk_demux.proofs.publishing.enter_segment.Goals as goal

pub finish-requires : goal.finish-requires
finish-requires g c = c.requires.writer.number

pub publish_next-requires-clause-folder : goal.publish_next-requires-clause-folder
publish_next-requires-clause-folder g c = demux_folder

pub returns-in_err-finish-clause-told : goal.returns-in_err-finish-clause-told
returns-in_err-finish-clause-told g c stamped v outs free may =
    let q = err_from_is_err_and c.from_residual.result c.from_residual.ensures.1 in
    let b = book_view c.args.book.now in
    let new = book_view c.finish.new.book in
    let s = c.args.segmenter in
    let own = writes_it b.next s c.requires.writer c.finish.ensures.own in
    rw (q.1, q.2)
    (so_fails {U = Unit {0}} stamped (AtJob stamped (IsSoFar v outs s)) (λ value u. HasWritten v b new outs u)
    (λ value u. Entered v b outs (Some s) u) c.finish.result c.in_err-finish.field-0.0 c.in_err-finish.was
    (finish_so stamped v s b new c.requires.writer.number free outs c.finish.result c.finish.ensures.raw own c.finish.ensures.only))

pub returns-in_err-finish-clause-works : goal.returns-in_err-finish-clause-works
returns-in_err-finish-clause-works g c =
    let q = err_from_is_err_and c.from_residual.result c.from_residual.ensures.1 in
    let b = book_view c.args.book.now in
    let w = segment_name (codes "demux") b.next in
    let own = writes_it b.next c.args.segmenter c.requires.writer c.finish.ensures.own in
    rw (q.1, q.2)
    (works_result (Unit {0}) (WritesBook b.next) c.finish.result c.in_err-finish.field-0.0 c.in_err-finish.was
    (works_as (WritesTo w) (WritesBook b.next) (λ call k. writes_segment call k) c.finish.result
    (worked_writes w c.finish.result own c.finish.ensures.last)))

pub returns-in_err-publish_next-clause-told : goal.returns-in_err-publish_next-clause-told
returns-in_err-publish_next-clause-told g c stamped v outs free may =
    let q = err_from_is_err_and c.from_residual-in_err-publish_next.result c.from_residual-in_err-publish_next.ensures.1 in
    let b = book_view c.args.book.now in
    let new = book_view c.finish.new.book in
    let s = c.args.segmenter in
    let own = writes_it b.next s c.requires.writer c.finish.ensures.own in
    rw (q.1, q.2)
    (subst (λ (r : Result (Unit {0}) OutsideFault). Adds (g.S.Site.told c.args.site.now) (g.S.Site.told c.publish_next.new.site)
    (Leads (As stamped job) (AtJob stamped (IsSoFar v outs s))
    (EndsSo stamped (λ (value : Unit {0}) u. Entered v b outs (Some s) u) (job_result r)))) c.in_err-publish_next.was
    (entered_so stamped v b outs free may s new c.finish.result c.publish_next.result
    (finish_so stamped v s b new c.requires.writer.number free outs c.finish.result c.finish.ensures.raw own c.finish.ensures.only)
    tt c.in_ok-finish.was
    c.publish_next.ensures.own (λ w may. c.publish_next.ensures.told stamped DemuxFolder w refl may)))

pub returns-in_err-publish_next-clause-works : goal.returns-in_err-publish_next-clause-works
returns-in_err-publish_next-clause-works g c =
    let q = err_from_is_err_and c.from_residual-in_err-publish_next.result c.from_residual-in_err-publish_next.ensures.1 in
    let b = book_view c.args.book.now in
    let w = segment_name (codes "demux") b.next in
    let own = writes_it b.next c.args.segmenter c.requires.writer c.finish.ensures.own in
    rw (q.1, q.2)
    (works_result (Unit {0}) (WritesBook b.next) (job_result c.publish_next.result) (job_fault c.in_err-publish_next.field-0.0)
    (ap (λ (r : Result (Unit {0}) OutsideFault). job_result r) c.in_err-publish_next.was)
    (works_then (WritesBook b.next) c.finish.result (job_result c.publish_next.result)
    (works_as (WritesTo w) (WritesBook b.next) (λ call k. writes_segment call k) c.finish.result
    (worked_writes w c.finish.result own c.finish.ensures.last))
    (works_as ReplacesBook (WritesBook b.next) (λ call k. replaces call k) (job_result c.publish_next.result)
    (worked_replaces c.publish_next.result c.publish_next.ensures.own c.publish_next.ensures.last))))

pub returns-clause-told : goal.returns-clause-told
returns-clause-told g c stamped v outs free may =
    let b = book_view c.args.book.now in
    let new = book_view c.finish.new.book in
    let s = c.args.segmenter in
    let own = writes_it b.next s c.requires.writer c.finish.ensures.own in
    subst (λ (r : Result (Unit {0}) OutsideFault). Adds (g.S.Site.told c.args.site.now) (g.S.Site.told c.publish_next.new.site)
    (Leads (As stamped job) (AtJob stamped (IsSoFar v outs s))
    (EndsSo stamped (λ (value : Unit {0}) u. Entered v b outs (Some s) u) (job_result r)))) c.in_ok-publish_next.was
    (entered_so stamped v b outs free may s new c.finish.result c.publish_next.result
    (finish_so stamped v s b new c.requires.writer.number free outs c.finish.result c.finish.ensures.raw own c.finish.ensures.only)
    tt c.in_ok-finish.was
    c.publish_next.ensures.own (λ w may. c.publish_next.ensures.told stamped DemuxFolder w refl may))

pub returns-clause-works : goal.returns-clause-works
returns-clause-works g c =
    let b = book_view c.args.book.now in
    let w = segment_name (codes "demux") b.next in
    let own = writes_it b.next c.args.segmenter c.requires.writer c.finish.ensures.own in
    subst (λ (r : Result (Unit {0}) OutsideFault). Adds (g.S.Site.told c.args.site.now) (g.S.Site.told c.publish_next.new.site)
    (Worked (WritesBook b.next) (job_result r))) c.in_ok-publish_next.was
    (works_then (WritesBook b.next) c.finish.result (job_result c.publish_next.result)
    (works_as (WritesTo w) (WritesBook b.next) (λ call k. writes_segment call k) c.finish.result
    (worked_writes w c.finish.result own c.finish.ensures.last))
    (works_as ReplacesBook (WritesBook b.next) (λ call k. replaces call k) (job_result c.publish_next.result)
    (worked_replaces c.publish_next.result c.publish_next.ensures.own c.publish_next.ensures.last)))

pub returns-in_err-finish-clause-only : goal.returns-in_err-finish-clause-only
returns-in_err-finish-clause-only g c =
    let q = err_from_is_err_and c.from_residual.result c.from_residual.ensures.1 in
    rw (q.1, q.2) c.in_err-finish.ensures.only

pub returns-in_err-publish_next-clause-only : goal.returns-in_err-publish_next-clause-only
returns-in_err-publish_next-clause-only g c =
    let q = err_from_is_err_and c.from_residual-in_err-publish_next.result c.from_residual-in_err-publish_next.ensures.1 in
    rw (q.1, q.2) (call_writes c.in_err-publish_next.field-0.0)
