use Rattle.chk_ctl_inspect.specs.Folders.{agents_read, agents_unentered, agents_unread}
use Rattle.chk_ctl_inspect.proofs.Parts.{fails_so, ok_map}
use Rattle.chk_ctl_inspect.proofs.folders.inspect_folder.Goals as goal

pub returns-then-not-enter : goal.returns-then-not-enter
returns-then-not-enter g c = agents_unentered c.if-not-enter.ensures

pub returns-in-Ok : goal.returns-in-Ok
returns-in-Ok g c =
    ok_map c.inspect_agent_locks.result
    (λ seen x. agents_read c.if-not-enter.ensures c.in-Ok.ensures x) c.inspect_agent_locks.ensures

pub returns-in-Err : goal.returns-in-Err
returns-in-Err g c =
    agents_unread c.if-not-enter.ensures c.in-Err.ensures
    (fails_so c.in-Err.outcome c.end_with.result c.end_with.ensures.status c.end_with.ensures.told)
