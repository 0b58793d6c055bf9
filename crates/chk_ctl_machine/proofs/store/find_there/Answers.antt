use Rattle.std.proofs.Common.{None}
use Rattle.chk_ctl_machine.specs.Stores.{FindsStore}
use Rattle.chk_ctl_machine.proofs.Lends.{lent, may_take_back}
use Rattle.chk_ctl_machine.proofs.store.find_there.Goals as goal

pub take_back-requires : goal.take_back-requires
take_back-requires g c =
    may_take_back None _ _ _ _ _ c.lend-folder.ensures c.find_by-found.ensures.own

pub returns : goal.returns
returns g c =
    lent None (FindsStore c.find_by-found.result) _ _ _ _ _ _ _ c.lend-folder.ensures c.take_back.ensures
    (record { told = c.find_by-found.ensures.told; cause = c.find_by-found.ensures.cause })
