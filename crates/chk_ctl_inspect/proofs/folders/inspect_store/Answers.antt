use Rattle.std.proofs.Common.{refl}
use Rattle.chk_ctl_inspect.specs.Folders.{no_store, store_read, store_unentered, store_unread}
use Rattle.chk_ctl_inspect.proofs.Parts.{fails_so, ok_map}
use Rattle.chk_ctl_inspect.proofs.folders.inspect_store.Goals as goal

pub returns-then-not-enter : goal.returns-then-not-enter
returns-then-not-enter g c = store_unentered c.if-not-enter.ensures

pub returns-then-not-is_store : goal.returns-then-not-is_store
returns-then-not-is_store g c =
    no_store refl c.if-not-enter.ensures c.if-not-is_store.ensures

pub returns-in-Ok : goal.returns-in-Ok
returns-in-Ok g c =
    ok_map c.inspect_store_locks.result
    (λ seen x. store_read c.if-not-enter.ensures c.if-not-is_store.ensures c.in-Ok.ensures x)
    c.inspect_store_locks.ensures

pub returns-in-Err : goal.returns-in-Err
returns-in-Err g c =
    store_unread c.if-not-enter.ensures c.if-not-is_store.ensures c.in-Err.ensures
    (fails_so c.in-Err.outcome c.end_with.result c.end_with.ensures.status c.end_with.ensures.told)
