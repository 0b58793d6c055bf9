use Rattle.std.proofs.Common.{◌++◌, ◌∷◌, [], Some, Ok, refl, subst}
use Rattle.std.specs.Prelude.{codes}
use Rattle.std.proofs.lemmas.Result.{err_from_is_err_and}
use Rattle.chk_site.proofs.Leads.{leads_none}
use Rattle.chk_chunk.specs.Lent.{lent_chunk}
use Rattle.chk_world.specs.Sight.{AtJob}
use Rattle.chk_world.specs.JobSteps.{WritesTo}
use Rattle.chk_book.specs.Books.{book_view}
use Rattle.chk_book.specs.Folders.{segment_name}
use Rattle.chk_demux.specs.Writes.{SoFar, IsOutput, IsWriter}
use Rattle.chk_demux.proofs.RawReads.{memory_writes}
use Rattle.chk_demux.proofs.OneSegment.{put_so, writes_it}
use Rattle.chk_demux.proofs.Outputs.{is_written, not_put, put_done, put_counted, counted_works}
use Rattle.chk_archive_parts.proofs.Works.{works_result, worked_writes}
use Rattle.chk_demux.proofs.output.put.Goals as goal

pub returns-in_err-part-clause-told : goal.returns-in_err-part-clause-told
returns-in_err-part-clause-told g c stamped v outs free =
    let p = err_from_is_err_and c.from_residual.result c.from_residual.ensures.1 in
    let next = (book_view c.args.book.now).next in
    let s = c.in-Some.segmenter in
    let f = subst (IsWriter next) c.in-Some.is c.requires.writer in
    rw (p.1, p.2)
    (not_put stamped v outs c.args.output.now (is_written v outs next free f.below c.args.output.now.segmenter) (Ok s)
    (leads_none (g.S.Site.told c.args.site.now)
    (λ h k. subst (λ o. AtJob stamped (SoFar v outs o) h) c.in-Some.is k))
    s c.part.new.self refl (lent_chunk c.args.chunk.now) c.part.result
    (put_so stamped v next s c.part.new.self f.number free outs (lent_chunk c.args.chunk.now)
    c.part.result c.part.ensures.raw c.part.ensures.at (writes_it next s f c.part.ensures.own)
    c.part.ensures.only)
    {U = Unit {0}} (λ t u. IsOutput v (outs ++ lent_chunk c.args.chunk.now ∷ [])
    (record {
      segmenter = Some c.part.new.self;
      taken = c.args.output.now.taken;
      entries = c.args.output.now.entries;
    })
    u)
    c.in_err-part.field-0.0 c.in_err-part.was)

pub returns-in_err-part-clause-works : goal.returns-in_err-part-clause-works
returns-in_err-part-clause-works g c =
    let p = err_from_is_err_and c.from_residual.result c.from_residual.ensures.1 in
    let next = (book_view c.args.book.now).next in
    let w = segment_name (codes "demux") next in
    let f = subst (IsWriter next) c.in-Some.is c.requires.writer in
    rw (p.1, p.2)
    (works_result (Unit {0}) (WritesTo w) c.part.result c.in_err-part.field-0.0 c.in_err-part.was
    (worked_writes w c.part.result (writes_it next c.in-Some.segmenter f c.part.ensures.own)
    c.part.ensures.last))

pub returns-clause-told : goal.returns-clause-told
returns-clause-told g c stamped v outs free =
    let next = (book_view c.args.book.now).next in
    let w = segment_name (codes "demux") next in
    let s = c.in-Some.segmenter in
    let f = subst (IsWriter next) c.in-Some.is c.requires.writer in
    let own = writes_it next s f c.part.ensures.own in
    let chunk = lent_chunk c.args.chunk.now in
    put_counted stamped v outs c.args.output.now chunk (is_written v outs next free f.below c.args.output.now.segmenter)
    c.part.new.self
    (put_done stamped v outs c.args.output.now (is_written v outs next free f.below c.args.output.now.segmenter) (Ok s)
    (leads_none (g.S.Site.told c.args.site.now)
    (λ h k. subst (λ o. AtJob stamped (SoFar v outs o) h) c.in-Some.is k))
    s c.part.new.self refl chunk c.part.result
    (put_so stamped v next s c.part.new.self f.number free outs chunk
    c.part.result c.part.ensures.raw c.part.ensures.at own c.part.ensures.only)
    c.in_ok-part.field-0 c.in_ok-part.was)
    w own
    c.count.new.self c.count.result c.count.ensures.taken c.count.ensures.entries
    c.count.ensures.segmenter c.count.ensures.only

pub returns-clause-works : goal.returns-clause-works
returns-clause-works g c =
    let next = (book_view c.args.book.now).next in
    let w = segment_name (codes "demux") next in
    let f = subst (IsWriter next) c.in-Some.is c.requires.writer in
    counted_works w c.count.result c.count.ensures.only c.part.result c.in_ok-part.field-0
    c.in_ok-part.was
    (worked_writes w c.part.result (writes_it next c.in-Some.segmenter f c.part.ensures.own)
    c.part.ensures.last)

pub returns-in_err-part-clause-only : goal.returns-in_err-part-clause-only
returns-in_err-part-clause-only g c =
    let p = err_from_is_err_and c.from_residual.result c.from_residual.ensures.1 in
    rw (p.1, p.2) c.in_err-part.ensures.only

pub returns-clause-only : goal.returns-clause-only
returns-clause-only g c = memory_writes c.count.result c.count.ensures.only
