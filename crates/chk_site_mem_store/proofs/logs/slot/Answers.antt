use Rattle.std.proofs.Common.{sym, ◌∙◌, ap, length}
use Rattle.chk_site_mem_store.proofs.NamedLemmas.{asked_of}
use Rattle.chk_site_mem_store.proofs.LogLemmas.{place-pushed, empty_pushed}
use Rattle.chk_site_mem_store.proofs.logs.slot.Goals as goal

pub returns-clause-found : goal.returns-clause-found
returns-clause-found c =
    let path = c.args.path.now in
    let logs = c.args.logs.now.items in
    let none = asked_of path logs c.place.ensures c.deref.ensures.value c.in_default.is in
    rw c.in_ok-push.ensures.items (place-pushed path logs _ _ none c.in_ok-from_slice.ensures
    (c.len-at.ensures ∙ sym c.deref.ensures.len ∙ ap length c.deref.ensures.value))

pub returns-clause-same : goal.returns-clause-same
returns-clause-same c =
    let path = c.args.path.now in
    let logs = c.args.logs.now.items in
    let none = asked_of path logs c.place.ensures c.deref.ensures.value c.in_default.is in
    rw c.in_ok-push.ensures.items (empty_pushed path logs _ none c.in_ok-from_slice.ensures c.new.ensures)
