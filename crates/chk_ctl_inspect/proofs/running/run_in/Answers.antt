use Rattle.chk_ctl_inspect.specs.Running.{entered, unentered}
use Rattle.chk_ctl_inspect.proofs.running.run_in.Goals as goal

pub returns-then-enter : goal.returns-then-enter
returns-then-enter g c = entered c.if-enter.ensures c.run_here.ensures

pub returns-else-enter : goal.returns-else-enter
returns-else-enter g c = unentered c.if-enter.ensures
