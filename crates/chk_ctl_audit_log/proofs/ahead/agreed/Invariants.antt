use Rattle.std.proofs.Common.{◌≡◌, take}
use Rattle.chk_ctl_audit_log.proofs.ahead.agreed.Given as goal

abbrev pub invariant-loop-index : goal.invariant-loop-index
invariant-loop-index l = take l.index l.one ≡ take l.index l.other
