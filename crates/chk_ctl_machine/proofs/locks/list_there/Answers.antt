use Rattle.std.proofs.Common.{None}
use Rattle.chk_ctl_machine.specs.Lending.{listed}
use Rattle.chk_ctl_machine.specs.Locks.{FindsLocks}
use Rattle.chk_ctl_machine.proofs.Lends.{lent, may_take_back}
use Rattle.chk_ctl_machine.proofs.locks.list_there.Goals as goal

pub take_back-requires : goal.take_back-requires
take_back-requires g c =
    may_take_back None _ _ _ _ _ c.lend-folder.ensures c.list_by-listed.ensures.own

pub returns : goal.returns
returns g c =
    lent None (FindsLocks (listed c.list_by-listed.result (λ v. v.items))) _ _ _ _ _ _ _ c.lend-folder.ensures c.take_back.ensures
    (record { told = c.list_by-listed.ensures.told; cause = c.list_by-listed.ensures.cause })
