use Rattle.std.proofs.Common.{◌+◌, ◌∙◌, ◌++◌, ℕ, List, Ok, Err, ap, map, take, subst, sym, refl}
use Rattle.std.proofs.Math.ListN.{drop_of_length-le}
use Rattle.std.proofs.lemmas.Result.{err_from_is_err_and}
use Rattle.chk_cmd_output.specs.Printing.{PrintsInTurn, all_printed}
use Rattle.chk_ctl_held.specs.declared.stores.Store.{Store}
use Rattle.chk_ctl_held.specs.Elsewhere.{Seen, store_lines, stores_from}
use Rattle.chk_ctl_held.specs.Stores.{seen_of}
use Rattle.chk_ctl_held.proofs.Printed.{all_ended, all_then}
use Rattle.chk_ctl_held.proofs.StoreLines.{lines_from, next_store}
use Rattle.chk_ctl_held.proofs.elsewhere.print_stores.Goals as goal

pub returns-in_err-print_store-clause-told : goal.returns-in_err-print_store-clause-told
returns-in_err-print_store-clause-told g c =
    let p = err_from_is_err_and c.from_residual.result c.from_residual.ensures.1 in
    let l = c.loop-at in
    let stores = c.args.stores.now in
    let x = c.index-stores-at.result in
    let fault = c.in_err-print_store.field-0.0 in
    let next = next_store stores l.at x c.loop-at-test.true c.index-stores-at.is
    ∙ ap (λ (os : List Seen). store_lines (seen_of x) os ++ lines_from stores (l.at + 1))
    (sym c.others_at-others.ensures) in
    rw (p.1, p.2)
    (l.invariant.behind (Err fault) (g.S.Site.told c.print_store.new.site)
    (subst (λ (lines : List (List ℕ)). PrintsInTurn c.args.who.now lines (Err fault)
    (g.S.Site.told l.site) (g.S.Site.told c.print_store.new.site)) (sym next)
    (all_ended (lines_from stores (l.at + 1)) refl c.in_err-print_store.ensures.told)))

pub loop-at-preserved : goal.loop-at-preserved
loop-at-preserved g c =
    let l = c.loop-at in
    let stores = c.args.stores.now in
    let x = c.index-stores-at.result in
    let next = next_store stores l.at x c.loop-at-test.true c.index-stores-at.is
    ∙ ap (λ (os : List Seen). store_lines (seen_of x) os ++ lines_from stores (l.at + 1))
    (sym c.others_at-others.ensures) in
    record {
      count = c.in_ok-print_store.ensures.cause ∙ l.invariant.count;
      behind = λ result new rest.
          l.invariant.behind result new
          (subst (λ (lines : List (List ℕ)). PrintsInTurn c.args.who.now lines result
          (g.S.Site.told l.site) new) (sym next)
          (all_then refl c.in_ok-print_store.ensures.told rest));
    }

pub returns-clause-told : goal.returns-clause-told
returns-clause-told g c =
    let l = c.loop-at in
    let stores = c.args.stores.now in
    let told = g.S.Site.told l.site in
    l.invariant.behind (Ok tt) told
    (subst (λ (lines : List (List ℕ)). PrintsInTurn c.args.who.now lines (Ok tt) told told)
    (sym (ap (λ (s : List Store). stores_from (map seen_of (take l.at stores)) (map seen_of s))
    (drop_of_length-le stores c.loop-at-test.false))) all_printed)
