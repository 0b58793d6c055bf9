use Rattle.std.proofs.Common.{◌+◌, ◌∙◌, List, Ok, Err, ℕ, drop, map, subst, sym}
use Rattle.std.proofs.Math.ListN.{drop_of_length-le}
use Rattle.std.proofs.lemmas.Result.{err_from_is_err_and}
use Rattle.chk_book.specs.Views.{end_view}
use Rattle.chk_book.specs.declared.lists.End.{End}
use Rattle.chk_site.specs.Site.{OutsideCause}
use Rattle.chk_cmd_output.specs.Printing.{PrintsInTurn, all_printed}
use Rattle.chk_cmd_output.proofs.Printed.{prints_then, prints_ended}
use Rattle.chk_cmd_archive.specs.Telling.{stream_line}
use Rattle.chk_record_index.proofs.InTurn.{next_of}
use Rattle.chk_cmd_archive.proofs.telling.tell_ends.Goals as goal

abbrev lines : List End → List (List ℕ)
lines ends = map {A = End} {B = List ℕ} (λ e. stream_line (end_view e)) ends

pub returns-in_err-tell_end-clause-told : goal.returns-in_err-tell_end-clause-told
returns-in_err-tell_end-clause-told g c =
    let p = err_from_is_err_and c.from_residual.result c.from_residual.ensures.1 in
    let l = c.loop-end in
    let ends = c.args.ends.now in
    let e = c.end-item.result in
    let fault = c.in_err-tell_end.field-0.0 in
    let next = next_of ends l.end-index e c.loop-end-test.true c.end-item.is in
    rw (p.1, p.2)
    (l.invariant.behind (Err fault) (g.S.Site.told c.tell_end.new.site)
    (subst (λ (es : List End). PrintsInTurn c.args.who.now (lines es) (Err fault) (g.S.Site.told l.site) (g.S.Site.told c.tell_end.new.site)) (sym next)
    (prints_ended (lines (drop (l.end-index + 1) ends)) c.in_err-tell_end.ensures.told)))

pub returns-in_err-tell_end-clause-cause : goal.returns-in_err-tell_end-clause-cause
returns-in_err-tell_end-clause-cause g c =
    let p = err_from_is_err_and c.from_residual.result c.from_residual.ensures.1 in
    rw (p.1, p.2)
    (subst (λ (n : ℕ). OutsideCause {T = Unit {0}} n (g.S.Site.fault_count c.tell_end.new.site) (Err c.in_err-tell_end.field-0.0)) c.loop-end.invariant.count
    c.in_err-tell_end.ensures.cause)

pub loop-end-preserved : goal.loop-end-preserved
loop-end-preserved g c =
    let l = c.loop-end in
    let ends = c.args.ends.now in
    let next = next_of ends l.end-index c.end-item.result c.loop-end-test.true c.end-item.is in
    record {
      count = c.in_ok-tell_end.ensures.cause ∙ l.invariant.count;
      behind = λ result new rest.
          l.invariant.behind result new
          (subst (λ (es : List End). PrintsInTurn c.args.who.now (lines es) result (g.S.Site.told l.site) new) (sym next)
          (prints_then c.in_ok-tell_end.ensures.told rest));
    }

pub returns-clause-told : goal.returns-clause-told
returns-clause-told g c =
    let ends = c.args.ends.now in
    c.loop-end.invariant.behind (Ok tt) (g.S.Site.told c.loop-end.site)
    (subst (λ (es : List End). PrintsInTurn c.args.who.now (lines es) (Ok tt) (g.S.Site.told c.loop-end.site) (g.S.Site.told c.loop-end.site))
    (sym (drop_of_length-le ends c.loop-end-test.false)) all_printed)
