use Rattle.std.proofs.Common.{Ok, Err}
use Rattle.chk_wahead.proofs.Joining.{refused_by}
use Rattle.chk_cmd_udp.specs.Runs.{unclosed, told}
use Rattle.chk_cmd_udp.proofs.run.finish.Goals as goal

pub returns-in_err-close-clause-script : goal.returns-in_err-close-clause-script
returns-in_err-close-clause-script g c =
    rw (refused_by c.from_residual.ensures.1)
    (unclosed c.in_err-close.field-0.0 c.in_err-close.ensures.told)

pub returns-in-Ok-clause-script : goal.returns-in-Ok-clause-script
returns-in-Ok-clause-script g c = told (Ok tt) c.in_ok-close.ensures.told c.in-Ok.ensures.told

pub returns-in-Err-clause-script : goal.returns-in-Err-clause-script
returns-in-Err-clause-script g c =
    rw c.from.ensures (told (Err c.in-Err.fault) c.in_ok-close.ensures.told c.in-Err.ensures.told)
