use Rattle.std.proofs.Common.{None}
use Rattle.chk_ctl_machine.specs.Lending.{listed}
use Rattle.chk_ctl_machine.specs.Agents.{FindsThem}
use Rattle.chk_ctl_machine.proofs.Lends.{lent, may_take_back}
use Rattle.chk_ctl_machine.proofs.agents.find_there.Goals as goal

pub take_back-requires : goal.take_back-requires
take_back-requires g c =
    may_take_back None _ _ _ _ _ c.lend-folder.ensures c.find_by-found.ensures.own

pub returns : goal.returns
returns g c =
    lent None (FindsThem (listed c.find_by-found.result (λ v. v.items))) _ _ _ _ _ _ _ c.lend-folder.ensures c.take_back.ensures
    (record { told = c.find_by-found.ensures.told; cause = c.find_by-found.ensures.cause })
