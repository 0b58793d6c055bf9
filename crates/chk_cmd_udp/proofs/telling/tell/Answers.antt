use Rattle.chk_cmd_output.specs.Printing.{unprinted}
use Rattle.chk_wahead.proofs.Joining.{refused_by}
use Rattle.chk_cmd_udp.proofs.telling.tell.Goals as goal

pub returns-in_err-line-clause-told : goal.returns-in_err-line-clause-told
returns-in_err-line-clause-told g c = rw (refused_by c.from_residual.ensures.1) unprinted
