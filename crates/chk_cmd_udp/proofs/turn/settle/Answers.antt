use Rattle.std.proofs.Common.{arith}
use Rattle.chk_wahead.proofs.Joining.{refused_by}
use Rattle.chk_cmd_udp.specs.Turns.{uncommitted, kept, closed}
use Rattle.chk_cmd_udp.proofs.turn.settle.Goals as goal

pub returns-in_err-commit-clause-script : goal.returns-in_err-commit-clause-script
returns-in_err-commit-clause-script g c =
    rw (refused_by c.from_residual.ensures.1)
    (uncommitted c.in_err-commit.field-0.0 c.in_err-commit.ensures.told)

pub returns-then-length-rotate-clause-script : goal.returns-then-length-rotate-clause-script
returns-then-length-rotate-clause-script g c =
    kept c.in_ok-commit.ensures.told (omega (arith, c.length.ensures))

pub returns-clause-script : goal.returns-clause-script
returns-clause-script g c =
    closed c.in_ok-commit.ensures.told (omega (arith, c.length.ensures)) c.close.ensures.told
