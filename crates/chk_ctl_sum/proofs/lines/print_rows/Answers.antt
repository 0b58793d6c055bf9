use Rattle.std.proofs.Common.{◌+◌, ◌∙◌, ◌≤◌, [], List, Ok, Err, ℕ, length, get_or, min, subst, sym}
use Rattle.std.proofs.lemmas.Result.{err_from_is_err_and}
use Rattle.std.proofs.lemmas.List.{get_or_default}
use Rattle.chk_cmd_output.specs.Printing.{PrintsInTurn, all_printed}
use Rattle.chk_cmd_output.proofs.Printed.{prints_then, prints_ended}
use Rattle.chk_ctl_sum.proofs.LineWords.{below_both, lines_from, lines_next, lines_none}
use Rattle.chk_ctl_sum.proofs.lines.print_rows.Goals as goal

pub loop-index-preserved : goal.loop-index-preserved
loop-index-preserved g c =
    let l = c.loop-index in
    let ends = c.args.ends.now in
    let digests = c.args.digests.now in
    let low = below_both (length ends) (length digests) c.min-count.result l.index
    c.min-count.ensures c.loop-index-test.true in
    let digest : List ℕ = get_or digests l.index [] in
    let next = lines_next ends digests l.index c.index-ends-index.result digest low.0 low.1
    c.index-ends-index.is (sym (get_or_default digests l.index digest [] low.1)) in
    record {
      faults = c.in_ok-print_row.ensures.cause ∙ l.invariant.faults;
      behind = λ result new rest.
          l.invariant.behind result new
          (subst (λ (lines : List (List ℕ)). PrintsInTurn c.args.who.now lines result
          (g.S.Site.told l.site) new) (sym next)
          (prints_then c.in_ok-print_row.ensures.told rest));
    }

pub returns-in_err-print_row-clause-told : goal.returns-in_err-print_row-clause-told
returns-in_err-print_row-clause-told g c =
    let p = err_from_is_err_and c.from_residual.result c.from_residual.ensures.1 in
    let l = c.loop-index in
    let ends = c.args.ends.now in
    let digests = c.args.digests.now in
    let low = below_both (length ends) (length digests) c.min-count.result l.index
    c.min-count.ensures c.loop-index-test.true in
    let digest : List ℕ = get_or digests l.index [] in
    let next = lines_next ends digests l.index c.index-ends-index.result digest low.0 low.1
    c.index-ends-index.is (sym (get_or_default digests l.index digest [] low.1)) in
    let fault = c.in_err-print_row.field-0.0 in
    rw (p.1, p.2)
    (l.invariant.behind (Err fault) (g.S.Site.told c.print_row.new.site)
    (subst (λ (lines : List (List ℕ)). PrintsInTurn c.args.who.now lines (Err fault)
    (g.S.Site.told l.site) (g.S.Site.told c.print_row.new.site)) (sym next)
    (prints_ended (lines_from ends digests (l.index + 1)) c.in_err-print_row.ensures.told)))

pub returns-clause-told : goal.returns-clause-told
returns-clause-told g c =
    let l = c.loop-index in
    let ends = c.args.ends.now in
    let digests = c.args.digests.now in
    let past : min (length ends) (length digests) ≤ l.index =
    subst (λ (n : ℕ). n ≤ l.index) c.min-count.ensures c.loop-index-test.false in
    l.invariant.behind (Ok tt) (g.S.Site.told l.site)
    (subst (λ (lines : List (List ℕ)). PrintsInTurn c.args.who.now lines (Ok tt)
    (g.S.Site.told l.site) (g.S.Site.told l.site))
    (sym (lines_none ends digests l.index past)) all_printed)
