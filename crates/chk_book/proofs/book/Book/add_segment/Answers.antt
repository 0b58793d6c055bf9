use Rattle.std.proofs.Common.{◌≤◌, length, Err, refl, ◌∙◌, ap, arith}
use Rattle.std.proofs.lemmas.List.{take_all}
use Rattle.std.proofs.lemmas.Result.{err_from_is_err_and}
use Rattle.chk_site.proofs.Leads.{leads_as, leads_then}
use Rattle.chk_chunk.specs.Lent.{lent_chunk, chunk_of, chunks_of}
use Rattle.chk_world.specs.JobSteps.{IsOf, WritesTo}
use Rattle.chk_book.specs.Books.{book_view}
use Rattle.chk_book.specs.Folders.{segment_name}
use Rattle.chk_book.specs.Written.{taken}
use Rattle.chk_book.proofs.Segmented.{unsaid}
use Rattle.chk_book.specs.declared.segmenter.Segmenter.{Segmenter}
use Rattle.chk_book.proofs.Added.{leads_named, writes_named, fails_later, fails_as, cause_later, cause_then, write_begins, all_begin, spent_write, spent_written, spent_same, next_chunks, added}
use Rattle.chk_record_index.proofs.Gathering.{every_then}
use Rattle.chk_book.proofs.book.Book.add_segment.Goals as goal

pub returns-in_err-part-clause-raw : goal.returns-in_err-part-clause-raw
returns-in_err-part-clause-raw g c =
    let r = c.from_residual-in_err-part in
    let p = err_from_is_err_and r.result r.ensures.1 in
    rw (p.1, p.2)
    (unsaid (λ h. refl) (fails_later {T = Unit {0}} (Err c.in_err-part.field-0.0) c.loop-part.invariant.so.5 c.in_err-part.ensures.last))

pub returns-in_err-part-clause-own : goal.returns-in_err-part-clause-own
returns-in_err-part-clause-own g c =
    λ is.
    let i = c.loop-part.invariant in
    let folder = c.args.folder.now in
    let number = c.args.self.now.next in
    every_then (IsOf (WritesTo (segment_name folder number))) (i.own is)
    (writes_named i.so.0 folder number i.so.2 i.so.3 (c.in_err-part.ensures.own i.so.0 i.so.1 (i.who ∙ is)))

pub returns-in_err-part-clause-last : goal.returns-in_err-part-clause-last
returns-in_err-part-clause-last g c =
    let r = c.from_residual-in_err-part in
    let p = err_from_is_err_and r.result r.ensures.1 in
    rw (p.1, p.2) (fails_later {T = Unit {0}} (Err c.in_err-part.field-0.0) c.loop-part.invariant.so.5 c.in_err-part.ensures.last)

pub loop-part-preserved : goal.loop-part-preserved
loop-part-preserved g c =
    let i = c.loop-part.invariant in
    let w = i.so.0 in
    let folder = c.args.folder.now in
    let number = c.args.self.now.next in
    let chunk = lent_chunk c.lend.result in
    record {
      so = (
        taken c.loop-part.segmenter w chunk,
        c.in_ok-part.ensures.at w i.so.1,
        i.so.2,
        i.so.3,
        next_chunks c.args.parts.now c.loop-part.part-index c.part-item.result w.chunks chunk c.loop-part-test.true i.so.4
            (c.lend.ensures.chunk ∙ ap chunk_of c.part-item.is),
        leads_then i.so.5 (leads_named w folder number i.so.2 i.so.3 (leads_as (λ h x. x) (λ h x. x) (c.in_ok-part.ensures.raw w i.so.1))),
      );
      who = c.part.ensures.who ∙ i.who;
      own = λ is.
          every_then (IsOf (WritesTo (segment_name folder number))) (i.own is)
          (writes_named w folder number i.so.2 i.so.3 (c.in_ok-part.ensures.own w i.so.1 (i.who ∙ is)));
      count = c.in_ok-part.ensures.cause ∙ i.count;
    }

pub returns-clause-raw : goal.returns-clause-raw
returns-clause-raw g c =
    let i = c.loop-part.invariant in
    let w = i.so.0 in
    let folder = c.args.folder.now in
    let number = c.args.self.now.next in
    let parts = c.args.parts.now in
    let past : length parts ≤ c.loop-part.part-index = let e = c.loop-part-test.false in omega (arith, e) in
    let all = i.so.4 ∙ ap chunks_of (take_all c.loop-part.part-index parts past) in
    leads_as (λ h x. x)
    (λ h ended. added folder (chunks_of parts) (book_view c.args.self.now) (book_view c.finish.new.book) c.loop-part.segmenter w i.so.1 i.so.2 i.so.3
    all c.finish.result h ended)
    (leads_then i.so.5 (leads_named w folder number i.so.2 i.so.3 (c.finish.ensures.raw w i.so.1)))

pub returns-clause-own : goal.returns-clause-own
returns-clause-own g c =
    λ is.
    let i = c.loop-part.invariant in
    let folder = c.args.folder.now in
    let number = c.args.self.now.next in
    every_then (IsOf (WritesTo (segment_name folder number))) (i.own is)
    (writes_named i.so.0 folder number i.so.2 i.so.3 (c.finish.ensures.own i.so.0 i.so.1 (i.who ∙ is)))

pub returns-clause-last : goal.returns-clause-last
returns-clause-last g c = fails_later c.finish.result c.loop-part.invariant.so.5 c.finish.ensures.last

pub returns-in_err-segmenter-clause-raw : goal.returns-in_err-segmenter-clause-raw
returns-in_err-segmenter-clause-raw g c =
    let r = c.from_residual in
    let p = err_from_is_err_and r.result r.ensures.1 in
    rw (p.1, p.2)
    (leads_as (λ h x. x) (λ h x. refl) c.in_err-segmenter.ensures.raw)

pub returns-in_err-segmenter-clause-spent : goal.returns-in_err-segmenter-clause-spent
returns-in_err-segmenter-clause-spent g c =
    let r = c.from_residual in
    let p = err_from_is_err_and r.result r.ensures.1 in
    rw (p.1, p.2)
    (spent_same (Unit {0}) Segmenter (book_view c.args.self.now) c.in_err-segmenter.field-0.0
    c.in_err-segmenter.ensures.spent)

pub returns-in_err-segmenter-clause-last : goal.returns-in_err-segmenter-clause-last
returns-in_err-segmenter-clause-last g c =
    let r = c.from_residual in
    let p = err_from_is_err_and r.result r.ensures.1 in
    rw (p.1, p.2)
    (fails_as (Unit {0}) Segmenter c.in_err-segmenter.field-0.0 c.in_err-segmenter.ensures.last)

pub returns-in_err-segmenter-clause-cause : goal.returns-in_err-segmenter-clause-cause
returns-in_err-segmenter-clause-cause g c =
    let r = c.from_residual in
    let p = err_from_is_err_and r.result r.ensures.1 in
    rw (p.1, p.2)
    (cause_later (Unit {0}) Segmenter c.in_err-segmenter.field-0.0 (g.S.Site.fault_count
    c.args.site.now)
    (g.S.Site.fault_count c.args.site.now) (g.S.Site.fault_count c.begin_segment.new.site) refl
    c.in_err-segmenter.ensures.cause)

pub returns-in_err-part-clause-spent : goal.returns-in_err-part-clause-spent
returns-in_err-part-clause-spent g c =
    let r = c.from_residual-in_err-part in
    let p = err_from_is_err_and r.result r.ensures.1 in
    rw (p.1, p.2)
    (spent_write (Unit {0}) (book_view c.args.self.now) c.in_err-part.field-0.0
    c.in_err-part.ensures.only
    (λ e. let other = c.in_ok-segmenter.ensures.spent in other e))

pub returns-in_err-part-clause-only : goal.returns-in_err-part-clause-only
returns-in_err-part-clause-only g c =
    let r = c.from_residual-in_err-part in
    let p = err_from_is_err_and r.result r.ensures.1 in
    rw (p.1, p.2)
    (write_begins c.in_err-part.field-0.0 c.in_err-part.ensures.only)

pub returns-in_err-part-clause-cause : goal.returns-in_err-part-clause-cause
returns-in_err-part-clause-cause g c =
    let r = c.from_residual-in_err-part in
    let p = err_from_is_err_and r.result r.ensures.1 in
    rw (p.1, p.2)
    (cause_later (Unit {0}) (Unit {0}) c.in_err-part.field-0.0 (g.S.Site.fault_count
    c.args.site.now)
    (g.S.Site.fault_count c.loop-part.site) (g.S.Site.fault_count c.part.new.site)
    c.loop-part.invariant.count c.in_err-part.ensures.cause)

pub returns-clause-spent : goal.returns-clause-spent
returns-clause-spent g c =
    spent_written (book_view c.args.self.now) c.finish.result c.finish.ensures.only
    (λ e. let other = c.in_ok-segmenter.ensures.spent in other e)

pub returns-clause-only : goal.returns-clause-only
returns-clause-only g c = all_begin c.finish.result c.finish.ensures.only

pub returns-clause-cause : goal.returns-clause-cause
returns-clause-cause g c =
    cause_then c.finish.result (g.S.Site.fault_count c.args.site.now) (g.S.Site.fault_count
    c.loop-part.site)
    (g.S.Site.fault_count c.finish.new.site) c.loop-part.invariant.count c.finish.ensures.cause
