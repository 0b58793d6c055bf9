use Rattle.std.proofs.Common.{sym}
use Rattle.chk_ctl_inspect.proofs.running.inspect_command.Goals as goal

pub returns-in-Some : goal.returns-in-Some
returns-in-Some g c = rw (sym c.in-Some.ensures) c.inspect_audit.ensures

pub returns-in-None : goal.returns-in-None
returns-in-None g c = rw (sym c.in-None.ensures) c.run_where.ensures
