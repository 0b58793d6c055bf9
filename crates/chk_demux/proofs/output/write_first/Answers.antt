use Rattle.std.proofs.Common.{◌++◌, ◌∷◌, [], subst}
use Rattle.std.specs.Prelude.{codes}
use Rattle.std.proofs.lemmas.Result.{err_from_is_err_and}
use Rattle.chk_site.specs.Site.{Adds}
use Rattle.chk_site.proofs.Leads.{leads_then}
use Rattle.chk_book.specs.Books.{book_view}
use Rattle.chk_book.specs.Folders.{segment_name}
use Rattle.chk_book.specs.declared.segmenter.Segmenter.{Segmenter}
use Rattle.chk_chunk.specs.Lent.{lent_chunk}
use Rattle.chk_world.specs.Sight.{AtJob}
use Rattle.chk_world.specs.JobSteps.{WritesTo}
use Rattle.chk_demux.specs.Working.{Worked}
use Rattle.chk_demux.specs.Writes.{IsSoFar, SoFar}
use Rattle.chk_demux.proofs.Ends.{so_fails, so_done}
use Rattle.chk_demux.proofs.OneSegment.{put_so, writes_it, still_for}
use Rattle.chk_demux.proofs.Outputs.{still_writer}
use Rattle.chk_archive_parts.proofs.Works.{works_result, worked_writes, works_value}
use Rattle.chk_book.proofs.Works.{works_then}
use Rattle.chk_demux.proofs.output.write_first.Goals as goal

pub returns-in_err-segmenter-clause-told : goal.returns-in_err-segmenter-clause-told
returns-in_err-segmenter-clause-told g c stamped v outs free =
    let p = err_from_is_err_and c.from_residual.result c.from_residual.ensures.1 in
    rw (p.1, p.2)
    (so_fails {U = Segmenter} stamped
    (AtJob stamped (SoFar v outs c.args.segmenter)) (λ s u. IsSoFar v outs s u)
    (λ s u. IsSoFar v (outs ++ lent_chunk c.args.chunk.now ∷ []) s u)
    c.open.result c.in_err-segmenter.field-0.0 c.in_err-segmenter.was
    (c.open.ensures.told stamped v outs free))

pub returns-in_err-segmenter-clause-works : goal.returns-in_err-segmenter-clause-works
returns-in_err-segmenter-clause-works g c =
    let p = err_from_is_err_and c.from_residual.result c.from_residual.ensures.1 in
    let w = segment_name (codes "demux") (book_view c.args.book.now).next in
    rw (p.1, p.2)
    (works_result Segmenter (WritesTo w) c.open.result c.in_err-segmenter.field-0.0
    c.in_err-segmenter.was c.open.ensures.works)

pub returns-in_err-part-clause-told : goal.returns-in_err-part-clause-told
returns-in_err-part-clause-told g c stamped v outs free =
    let p = err_from_is_err_and c.from_residual-in_err-part.result c.from_residual-in_err-part.ensures.1 in
    let next = (book_view c.args.book.now).next in
    let chunk = lent_chunk c.args.chunk.now in
    let s = c.in_ok-segmenter.segmenter in
    let f = c.in_ok-segmenter.ensures.writer in
    rw (p.1, p.2)
    (leads_then
    (so_done stamped (AtJob stamped (SoFar v outs c.args.segmenter)) (λ s u. IsSoFar v outs s u)
    c.open.result s c.in_ok-segmenter.was (c.open.ensures.told stamped v outs free))
    (so_fails {T = Unit {0}} {U = Segmenter} stamped (AtJob stamped (IsSoFar v outs s))
    (λ t u. IsSoFar v (outs ++ chunk ∷ []) c.part.new.self u)
    (λ s u. IsSoFar v (outs ++ chunk ∷ []) s u)
    c.part.result c.in_err-part.field-0.0 c.in_err-part.was
    (put_so stamped v next s c.part.new.self f.number free outs chunk c.part.result c.part.ensures.raw
    c.part.ensures.at (writes_it next s f c.part.ensures.own) c.part.ensures.only)))

pub returns-in_err-part-clause-works : goal.returns-in_err-part-clause-works
returns-in_err-part-clause-works g c =
    let p = err_from_is_err_and c.from_residual-in_err-part.result c.from_residual-in_err-part.ensures.1 in
    let next = (book_view c.args.book.now).next in
    let w = segment_name (codes "demux") next in
    rw (p.1, p.2)
    (works_result Segmenter (WritesTo w) c.part.result c.in_err-part.field-0.0 c.in_err-part.was
    (works_then (WritesTo w) c.open.result c.part.result c.open.ensures.works
    (worked_writes w c.part.result
    (writes_it next c.in_ok-segmenter.segmenter c.in_ok-segmenter.ensures.writer c.part.ensures.own)
    c.part.ensures.last)))

pub returns-clause-told : goal.returns-clause-told
returns-clause-told g c stamped v outs free =
    let next = (book_view c.args.book.now).next in
    let chunk = lent_chunk c.args.chunk.now in
    let s = c.in_ok-segmenter.segmenter in
    let f = c.in_ok-segmenter.ensures.writer in
    leads_then
    (so_done stamped (AtJob stamped (SoFar v outs c.args.segmenter)) (λ s u. IsSoFar v outs s u)
    c.open.result s c.in_ok-segmenter.was (c.open.ensures.told stamped v outs free))
    (so_done {T = Unit {0}} stamped (AtJob stamped (IsSoFar v outs s))
    (λ t u. IsSoFar v (outs ++ chunk ∷ []) c.part.new.self u)
    c.part.result c.in_ok-part.field-0 c.in_ok-part.was
    (put_so stamped v next s c.part.new.self f.number free outs chunk c.part.result c.part.ensures.raw
    c.part.ensures.at (writes_it next s f c.part.ensures.own) c.part.ensures.only))

pub returns-clause-writer : goal.returns-clause-writer
returns-clause-writer g c =
    still_writer (book_view c.args.book.now).next c.part.new.self c.part.result
    (still_for (book_view c.args.book.now).next c.in_ok-segmenter.segmenter c.part.new.self
    (lent_chunk c.args.chunk.now) c.part.result c.in_ok-segmenter.ensures.writer c.part.ensures.at
    c.part.ensures.who) c.in_ok-part.field-0 c.in_ok-part.was

pub returns-clause-works : goal.returns-clause-works
returns-clause-works g c =
    let next = (book_view c.args.book.now).next in
    let w = segment_name (codes "demux") next in
    works_value (Unit {0}) Segmenter (WritesTo w) c.in_ok-part.field-0 c.part.new.self
    (subst (λ r. Adds (g.S.Site.told c.args.site.now) (g.S.Site.told c.part.new.site) (Worked (WritesTo w) r))
    c.in_ok-part.was
    (works_then (WritesTo w) c.open.result c.part.result c.open.ensures.works
    (worked_writes w c.part.result
    (writes_it next c.in_ok-segmenter.segmenter c.in_ok-segmenter.ensures.writer c.part.ensures.own)
    c.part.ensures.last)))

pub returns-in_err-part-clause-only : goal.returns-in_err-part-clause-only
returns-in_err-part-clause-only g c =
    let p = err_from_is_err_and c.from_residual-in_err-part.result c.from_residual-in_err-part.ensures.1 in
    rw (p.1, p.2) c.in_err-part.ensures.only
