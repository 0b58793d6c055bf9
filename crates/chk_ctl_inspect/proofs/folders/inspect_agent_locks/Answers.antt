use Rattle.std.proofs.Common.{refl}
use Rattle.chk_ctl_inspect.specs.Folders.{agents_seen, agents_unlocked}
use Rattle.chk_ctl_inspect.proofs.Parts.{fails_so}
use Rattle.chk_ctl_inspect.proofs.folders.inspect_agent_locks.Goals as goal

pub returns-in_ok-folder-in-Ok : goal.returns-in_ok-folder-in-Ok
returns-in_ok-folder-in-Ok g c =
    agents_seen c.in-Ok.ensures c.in_ok-folder-in-Ok.ensures.ok refl

pub returns-in-Err : goal.returns-in-Err
returns-in-Err g c =
    agents_unlocked c.in-Err.ensures
    (fails_so c.in-Err.outcome c.end_with.result c.end_with.ensures.status c.end_with.ensures.told)
