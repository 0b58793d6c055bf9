use Rattle.std.proofs.Common.{take}
use Rattle.chk_world.proofs.Each.{Each}
use Rattle.chk_ctl_audit.specs.Finding.{IsFrom}
use Rattle.chk_ctl_audit.proofs.agents.of_source.Given as goal

abbrev pub invariant-loop-index : goal.invariant-loop-index
invariant-loop-index l = Each (IsFrom l.source) (take l.index l.ends)
