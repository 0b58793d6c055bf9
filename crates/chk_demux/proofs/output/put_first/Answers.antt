use Rattle.std.proofs.Common.{◌++◌, ◌∷◌, [], subst}
use Rattle.std.specs.Prelude.{codes}
use Rattle.std.proofs.lemmas.Result.{err_from_is_err_and}
use Rattle.chk_site.specs.Site.{Adds}
use Rattle.chk_site.specs.Runs.{Leads}
use Rattle.chk_chunk.specs.Lent.{lent_chunk}
use Rattle.chk_world.specs.Places.{As}
use Rattle.chk_world.specs.Sight.{job, AtJob}
use Rattle.chk_world.specs.JobSteps.{WritesTo}
use Rattle.chk_book.specs.Books.{book_view}
use Rattle.chk_book.specs.Folders.{segment_name}
use Rattle.chk_demux.specs.Working.{EndsSo}
use Rattle.chk_demux.specs.Writes.{IsSoFar, SoFar, IsOutput}
use Rattle.chk_demux.proofs.RawReads.{memory_writes}
use Rattle.chk_demux.proofs.Ends.{so_done}
use Rattle.chk_demux.proofs.Outputs.{is_written, not_spent, spent_at, counted_alone, alone_works, not_first, put_counted, counted_writer, counted_works}
use Rattle.chk_archive_parts.proofs.Works.{works_result}
use Rattle.chk_book.proofs.Works.{own_of}
use Rattle.chk_demux.proofs.output.put_first.Goals as goal

pub write_first-requires-clause-below : goal.write_first-requires-clause-below
write_first-requires-clause-below g c =
    not_spent (book_view c.args.book.now).next c.is_spent.result c.is_spent.ensures c.if-is_spent.false

pub returns-then-is_spent-clause-told : goal.returns-then-is_spent-clause-told
returns-then-is_spent-clause-told g c stamped v outs free =
    let next = (book_view c.args.book.now).next in
    counted_alone stamped v outs c.args.output.now (lent_chunk c.args.chunk.now) next free
    (spent_at next c.is_spent.result c.is_spent.ensures c.if-is_spent.true) c.requires.writer c.count.new.self
    c.count.ensures.segmenter c.count.result c.count.ensures.taken c.count.ensures.entries c.count.ensures.only
    (g.S.Site.told c.args.site.now)

pub returns-then-is_spent-clause-only : goal.returns-then-is_spent-clause-only
returns-then-is_spent-clause-only g c = memory_writes c.count.result c.count.ensures.only

pub returns-then-is_spent-clause-works : goal.returns-then-is_spent-clause-works
returns-then-is_spent-clause-works g c =
    alone_works (segment_name (codes "demux") (book_view c.args.book.now).next) c.count.result c.count.ensures.only
    (g.S.Site.told c.args.site.now)

pub returns-in_err-segmenter-clause-told : goal.returns-in_err-segmenter-clause-told
returns-in_err-segmenter-clause-told g c stamped v outs free =
    let p = err_from_is_err_and c.from_residual.result c.from_residual.ensures.1 in
    let next = (book_view c.args.book.now).next in
    let chunk = lent_chunk c.args.chunk.now in
    let r = c.write_first.result in
    rw (p.1, p.2)
    (not_first stamped v outs c.args.output.now chunk
    (is_written v outs next free (not_spent next c.is_spent.result c.is_spent.ensures c.if-is_spent.false) c.args.output.now.segmenter) r
    (subst (λ o. Adds (g.S.Site.told c.args.site.now) (g.S.Site.told c.write_first.new.site)
    (Leads (As stamped job) (AtJob stamped (SoFar v outs o))
    (EndsSo stamped (λ s u. IsSoFar v (outs ++ chunk ∷ []) s u) r)))
    c.take.ensures.value (c.write_first.ensures.told stamped v outs free))
    {U = Unit {0}} (λ t u. IsOutput v (outs ++ chunk ∷ [])
    (record {
      segmenter = c.take.new.self;
      taken = c.args.output.now.taken;
      entries = c.args.output.now.entries;
    })
    u)
    c.in_err-segmenter.field-0.0 c.in_err-segmenter.was)

pub returns-in_err-segmenter-clause-works : goal.returns-in_err-segmenter-clause-works
returns-in_err-segmenter-clause-works g c =
    let p = err_from_is_err_and c.from_residual.result c.from_residual.ensures.1 in
    let w = segment_name (codes "demux") (book_view c.args.book.now).next in
    rw (p.1, p.2)
    (works_result (Unit {0}) (WritesTo w) c.write_first.result c.in_err-segmenter.field-0.0
    c.in_err-segmenter.was c.write_first.ensures.works)

pub returns-clause-told : goal.returns-clause-told
returns-clause-told g c stamped v outs free =
    let next = (book_view c.args.book.now).next in
    let w = segment_name (codes "demux") next in
    let chunk = lent_chunk c.args.chunk.now in
    let r = c.write_first.result in
    let s = c.in_ok-segmenter.segmenter in
    put_counted stamped v outs c.args.output.now chunk
    (is_written v outs next free (not_spent next c.is_spent.result c.is_spent.ensures c.if-is_spent.false) c.args.output.now.segmenter) s
    (so_done stamped (AtJob stamped (SoFar v outs c.args.output.now.segmenter))
    (λ s u. IsSoFar v (outs ++ chunk ∷ []) s u) r s c.in_ok-segmenter.was
    (subst (λ o. Adds (g.S.Site.told c.args.site.now) (g.S.Site.told c.write_first.new.site)
    (Leads (As stamped job) (AtJob stamped (SoFar v outs o))
    (EndsSo stamped (λ s u. IsSoFar v (outs ++ chunk ∷ []) s u) r)))
    c.take.ensures.value (c.write_first.ensures.told stamped v outs free)))
    w (own_of (WritesTo w) r c.write_first.ensures.works)
    c.count-2.new.self c.count-2.result c.count-2.ensures.taken c.count-2.ensures.entries
    c.count-2.ensures.segmenter c.count-2.ensures.only

pub returns-clause-writer : goal.returns-clause-writer
returns-clause-writer g c =
    counted_writer (book_view c.args.book.now).next c.in_ok-segmenter.segmenter c.count-2.new.self
    c.count-2.result c.in_ok-segmenter.ensures.writer c.count-2.ensures.segmenter

pub returns-clause-works : goal.returns-clause-works
returns-clause-works g c =
    counted_works (segment_name (codes "demux") (book_view c.args.book.now).next) c.count-2.result
    c.count-2.ensures.only c.write_first.result c.in_ok-segmenter.segmenter c.in_ok-segmenter.was
    c.write_first.ensures.works

pub returns-clause-only : goal.returns-clause-only
returns-clause-only g c = memory_writes c.count-2.result c.count-2.ensures.only
