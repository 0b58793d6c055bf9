use Rattle.std.proofs.Common.{None}
use Rattle.chk_ctl_machine.proofs.Lends.{may_take_back}
use Rattle.chk_ctl_machine.proofs.control.ask_there.Goals as goal

pub take_back-requires : goal.take_back-requires
take_back-requires g c =
    may_take_back None _ _ _ _ _ c.lend-folder.ensures c.ask_by-answer.ensures.own
