use Rattle.std.proofs.Common.{◌+◌, ◌∙◌, ◌∷◌, ℕ, List, Ok, Err, ap, drop, map, subst, sym}
use Rattle.std.specs.Prelude.{string_bytes}
use Rattle.std.proofs.Math.ListN.{drop_of_length-le}
use Rattle.std.proofs.lemmas.Result.{err_from_is_err_and}
use Rattle.chk_cmd_output.specs.Printing.{PrintsInTurn, all_printed}
use Rattle.chk_cmd_output.proofs.Printed.{prints_then, prints_ended}
use Rattle.chk_ctl_held.proofs.Printed.{next_line}
use Rattle.chk_ctl_held.proofs.printing.Lines.print.Goals as goal

pub returns-in_err-print_line-clause-told : goal.returns-in_err-print_line-clause-told
returns-in_err-print_line-clause-told g c =
    let p = err_from_is_err_and c.from_residual.result c.from_residual.ensures.1 in
    let l = c.loop-line in
    let items = c.deref-line-items.result.now in
    let rest = map string_bytes (drop (l.line-index + 1) items) in
    let fault = c.in_err-print_line.field-0.0 in
    let next = next_line string_bytes items l.line-index c.line-item.result c.loop-line-test.true
    ∙ ap (λ (t : List ℕ). t ∷ rest)
    (sym (c.as_bytes.ensures.value ∙ ap string_bytes c.line-item.is)) in
    rw (p.1, p.2)
    (l.invariant.behind (Err fault) (g.S.Site.told c.print_line.new.site)
    (subst (λ (lines : List (List ℕ)). PrintsInTurn c.args.who.now lines (Err fault)
    (g.S.Site.told l.site) (g.S.Site.told c.print_line.new.site)) (sym next)
    (prints_ended rest c.in_err-print_line.ensures.told)))

pub loop-line-preserved : goal.loop-line-preserved
loop-line-preserved g c =
    let l = c.loop-line in
    let items = c.deref-line-items.result.now in
    let rest = map string_bytes (drop (l.line-index + 1) items) in
    let next = next_line string_bytes items l.line-index c.line-item.result c.loop-line-test.true
    ∙ ap (λ (t : List ℕ). t ∷ rest)
    (sym (c.as_bytes.ensures.value ∙ ap string_bytes c.line-item.is)) in
    record {
      count = c.in_ok-print_line.ensures.cause ∙ l.invariant.count;
      behind = λ result new more.
          l.invariant.behind result new
          (subst (λ (lines : List (List ℕ)). PrintsInTurn c.args.who.now lines result
          (g.S.Site.told l.site) new) (sym next)
          (prints_then c.in_ok-print_line.ensures.told more));
    }

pub returns-clause-told : goal.returns-clause-told
returns-clause-told g c =
    let l = c.loop-line in
    let items = c.deref-line-items.result.now in
    l.invariant.behind (Ok tt) (g.S.Site.told l.site)
    (subst (λ (lines : List (List ℕ)). PrintsInTurn c.args.who.now lines (Ok tt)
    (g.S.Site.told l.site) (g.S.Site.told l.site))
    (sym (ap (map string_bytes) (drop_of_length-le items c.loop-line-test.false))) all_printed)
