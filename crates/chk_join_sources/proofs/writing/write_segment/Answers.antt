use Rattle.std.proofs.Common.{◌∙◌, ◌++◌, [], Ok, Err, refl, sym, subst}
use Rattle.std.specs.Prelude.{flat_map, codes}
use Rattle.std.proofs.lemmas.Result.{err_from_is_err_and}
use Rattle.chk_site.specs.Site.{Adds}
use Rattle.chk_site.proofs.Leads.{leads_then}
use Rattle.chk_book.specs.Books.{book_view}
use Rattle.chk_site.specs.History.{Every}
use Rattle.chk_world.specs.JobSteps.{IsOf, WritesTo}
use Rattle.chk_book.specs.Segmenting.{begun}
use Rattle.chk_book.specs.declared.segmenter.Segmenter.{Segmenter}
use Rattle.chk_book.proofs.Added.{fails_as, cause_later, cause_then, spent_same, spent_written}
use Rattle.chk_record_reader.specs.Merging.{AreApart, bare_book}
use Rattle.chk_join_sources.specs.Copying.{joined_segment, Copies, chosen_chunks}
use Rattle.chk_join_sources.proofs.CopySteps.{works_number, writes_copy}
use Rattle.chk_book.proofs.Works.{works_then, worked}
use Rattle.chk_record_reader.proofs.Writing.{writes_ask}
use Rattle.chk_join_sources.proofs.CopiedBlocks.{of_number}
use Rattle.chk_join_sources.proofs.Segment.{not_written, begun_so, not_all, ended_so, own_writes, joined_folder, begun_copied, begun_works, spent_copied}
use Rattle.chk_join_sources.specs.Standing.{chosen_heads}
use Rattle.chk_join_sources.proofs.Standing.{copies_fail, stood_more, stands_begun, stands_number, stands_ended}
use Rattle.chk_join_sources.proofs.writing.write_segment.Goals as goal

pub begin_segment-requires : goal.begin_segment-requires
begin_segment-requires g c = joined_folder

pub copy_all-requires-clause-segment : goal.copy_all-requires-clause-segment
copy_all-requires-clause-segment g c = record {
  who = c.in_ok-segmenter.ensures.who ∙ c.requires.job;
  w = begun (codes "joined") c.args.book.now.next;
  at = c.in_ok-segmenter.ensures.at;
  folder = refl;
}

pub finish-requires : goal.finish-requires
finish-requires g c = c.in_ok-copy_all.ensures.on.number ∙ c.in_ok-segmenter.ensures.at.number

pub returns-in_err-segmenter-clause-raw : goal.returns-in_err-segmenter-clause-raw
returns-in_err-segmenter-clause-raw g c most all held few settled apart left right =
    let p = err_from_is_err_and c.from_residual.result c.from_residual.ensures.1 in
    rw (p.1, p.2)
    (not_written all held c.args.book.now.next (flat_map (chosen_chunks c.args.left.now c.args.right.now held) c.args.choices.now)
    c.in_err-segmenter.field-0.0 c.in_err-segmenter.ensures.only c.in_err-segmenter.ensures.last)

pub returns-in_err-segmenter-clause-works : goal.returns-in_err-segmenter-clause-works
returns-in_err-segmenter-clause-works g c =
    let p = err_from_is_err_and c.from_residual.result c.from_residual.ensures.1 in
    let n = c.args.book.now.next in
    let own = c.in_err-segmenter.ensures.own c.requires.job in
    rw (p.1, p.2)
    (worked {T = Unit {0}} (Copies n) (Err c.in_err-segmenter.field-0.0) (writes_copy n own) (writes_ask (joined_segment n) own)
    (fails_as (Unit {0}) Segmenter c.in_err-segmenter.field-0.0 c.in_err-segmenter.ensures.last))

pub returns-in_err-segmenter-clause-spent : goal.returns-in_err-segmenter-clause-spent
returns-in_err-segmenter-clause-spent g c =
    let p = err_from_is_err_and c.from_residual.result c.from_residual.ensures.1 in
    rw (p.1, p.2)
    (spent_same (Unit {0}) Segmenter (bare_book c.args.book.now.next) c.in_err-segmenter.field-0.0 c.in_err-segmenter.ensures.spent)

pub returns-in_err-segmenter-clause-cause : goal.returns-in_err-segmenter-clause-cause
returns-in_err-segmenter-clause-cause g c =
    let p = err_from_is_err_and c.from_residual.result c.from_residual.ensures.1 in
    rw (p.1, p.2)
    (cause_later (Unit {0}) Segmenter c.in_err-segmenter.field-0.0 (g.S.Site.fault_count c.args.site.now)
    (g.S.Site.fault_count c.args.site.now) (g.S.Site.fault_count c.begin_segment.new.site) refl c.in_err-segmenter.ensures.cause)

pub returns-in_err-copy_all-clause-raw : goal.returns-in_err-copy_all-clause-raw
returns-in_err-copy_all-clause-raw g c most all held few settled apart left right =
    let q = c.from_residual-in_err-copy_all in
    let p = err_from_is_err_and q.result q.ensures.1 in
    let n = c.args.book.now.next in
    let s = c.in_ok-segmenter.segmenter in
    let at = c.in_ok-segmenter.ensures.at in
    let chunks = flat_map (chosen_chunks c.args.left.now c.args.right.now held) c.args.choices.now in
    rw (p.1, p.2)
    (leads_then
    (begun_so all held n s settled apart at c.in_ok-segmenter.ensures.raw (c.begin_segment.ensures.own c.requires.job))
    (not_all all held n c.copy_all.new.segmenter ([] ++ chunks) chunks c.in_err-copy_all.field-0.0
    (of_number all s.number n at.number
    (c.in_err-copy_all.ensures.raw most all held [] few settled
    (subst (λ k. AreApart all (joined_segment k)) (sym at.number) apart) left right))))

pub returns-in_err-copy_all-clause-works : goal.returns-in_err-copy_all-clause-works
returns-in_err-copy_all-clause-works g c =
    let q = c.from_residual-in_err-copy_all in
    let p = err_from_is_err_and q.result q.ensures.1 in
    let n = c.args.book.now.next in
    let s = c.in_ok-segmenter.segmenter in
    let fault = c.in_err-copy_all.field-0.0 in
    rw (p.1, p.2)
    (begun_works s n fault (c.begin_segment.ensures.own c.requires.job)
    (works_number s.number n c.in_ok-segmenter.ensures.at.number (Err fault) c.in_err-copy_all.ensures.works))

pub returns-in_err-copy_all-clause-spent : goal.returns-in_err-copy_all-clause-spent
returns-in_err-copy_all-clause-spent g c =
    let q = c.from_residual-in_err-copy_all in
    let p = err_from_is_err_and q.result q.ensures.1 in
    rw (p.1, p.2)
    (spent_copied (bare_book c.args.book.now.next) c.in_err-copy_all.field-0.0 c.in_err-copy_all.ensures.only
    (λ e. let other = c.in_ok-segmenter.ensures.spent in other e))

pub returns-in_err-copy_all-clause-cause : goal.returns-in_err-copy_all-clause-cause
returns-in_err-copy_all-clause-cause g c =
    let q = c.from_residual-in_err-copy_all in
    let p = err_from_is_err_and q.result q.ensures.1 in
    rw (p.1, p.2)
    (cause_later (Unit {0}) (Unit {0}) c.in_err-copy_all.field-0.0 (g.S.Site.fault_count c.args.site.now)
    (g.S.Site.fault_count c.begin_segment.new.site) (g.S.Site.fault_count c.copy_all.new.site)
    c.in_ok-segmenter.ensures.cause c.in_err-copy_all.ensures.cause)

pub returns-clause-raw : goal.returns-clause-raw
returns-clause-raw g c most all held few settled apart left right =
    let n = c.args.book.now.next in
    let s = c.in_ok-segmenter.segmenter in
    let t = c.copy_all.new.segmenter in
    let at = c.in_ok-segmenter.ensures.at in
    let on = c.in_ok-copy_all.ensures.on in
    let chunks = flat_map (chosen_chunks c.args.left.now c.args.right.now held) c.args.choices.now in
    leads_then
    (leads_then
    (begun_so all held n s settled apart at c.in_ok-segmenter.ensures.raw (c.begin_segment.ensures.own c.requires.job))
    (of_number all s.number n at.number
    (c.in_ok-copy_all.ensures.raw most all held [] few settled
    (subst (λ k. AreApart all (joined_segment k)) (sym at.number) apart) left right)))
    (ended_so all held n t chunks (book_view c.args.book.now) (book_view c.finish.new.book) (on.number ∙ at.number) c.requires.bare
    settled apart c.finish.result c.finish.ensures.only c.finish.ensures.raw
    (subst (λ k. Adds (g.S.Site.told c.copy_all.new.site) (g.S.Site.told c.finish.new.site)
    (Every (IsOf (WritesTo (joined_segment k))))) (on.number ∙ at.number)
    (own_writes t on.writer (λ w is. c.finish.ensures.own w is on.writer.who))))

pub returns-clause-works : goal.returns-clause-works
returns-clause-works g c =
    let n = c.args.book.now.next in
    let s = c.in_ok-segmenter.segmenter in
    let t = c.copy_all.new.segmenter in
    let at = c.in_ok-segmenter.ensures.at in
    let on = c.in_ok-copy_all.ensures.on in
    let own = own_writes t on.writer (λ w is. c.finish.ensures.own w is on.writer.who) in
    works_then {T = Unit {0}} {U = Unit {0}} (Copies n) (Ok tt) c.finish.result
    (begun_copied s n (c.begin_segment.ensures.own c.requires.job)
    (works_number s.number n at.number (Ok tt) c.in_ok-copy_all.ensures.works))
    (works_number t.number n (on.number ∙ at.number) c.finish.result
    (worked (Copies t.number) c.finish.result (writes_copy t.number own) (writes_ask (joined_segment t.number) own) c.finish.ensures.last))

pub returns-clause-spent : goal.returns-clause-spent
returns-clause-spent g c =
    spent_written (bare_book c.args.book.now.next) c.finish.result c.finish.ensures.only
    (λ e. let other = c.in_ok-segmenter.ensures.spent in other e)

pub returns-clause-cause : goal.returns-clause-cause
returns-clause-cause g c =
    cause_then c.finish.result (g.S.Site.fault_count c.args.site.now) (g.S.Site.fault_count c.copy_all.new.site)
    (g.S.Site.fault_count c.finish.new.site) (c.in_ok-copy_all.ensures.cause ∙ c.in_ok-segmenter.ensures.cause) c.finish.ensures.cause

pub returns-in_err-segmenter-clause-stands : goal.returns-in_err-segmenter-clause-stands
returns-in_err-segmenter-clause-stands g c =
    let p = err_from_is_err_and c.from_residual.result c.from_residual.ensures.1 in
    rw (p.1, p.2)
    (copies_fail c.args.book.now.next (flat_map (chosen_heads c.args.left.now c.args.right.now) c.args.choices.now)
    c.in_err-segmenter.field-0.0 c.in_err-segmenter.ensures.last)

pub returns-in_err-copy_all-clause-stands : goal.returns-in_err-copy_all-clause-stands
returns-in_err-copy_all-clause-stands g c =
    let q = c.from_residual-in_err-copy_all in
    let p = err_from_is_err_and q.result q.ensures.1 in
    let n = c.args.book.now.next in
    let s = c.in_ok-segmenter.segmenter in
    let fault = c.in_err-copy_all.field-0.0 in
    rw (p.1, p.2)
    (copies_fail n (flat_map (chosen_heads c.args.left.now c.args.right.now) c.args.choices.now) fault
    (begun_works s n fault (c.begin_segment.ensures.own c.requires.job)
    (works_number s.number n c.in_ok-segmenter.ensures.at.number (Err fault) c.in_err-copy_all.ensures.works)))

pub returns-clause-stands : goal.returns-clause-stands
returns-clause-stands g c =
    let n = c.args.book.now.next in
    let s = c.in_ok-segmenter.segmenter in
    let t = c.copy_all.new.segmenter in
    let at = c.in_ok-segmenter.ensures.at in
    let on = c.in_ok-copy_all.ensures.on in
    let heads = flat_map (chosen_heads c.args.left.now c.args.right.now) c.args.choices.now in
    stands_ended n t heads (book_view c.args.book.now) (book_view c.finish.new.book) (on.number ∙ at.number) c.requires.bare
    c.finish.result
    (stood_more (joined_segment n) s t [] [] heads (Ok tt) (stands_begun n s at c.in_ok-segmenter.ensures.raw)
    c.in_ok-copy_all.ensures.works (λ cs. stands_number s.number n at.number (c.in_ok-copy_all.ensures.stands cs)))
    c.finish.ensures.last c.finish.ensures.raw
