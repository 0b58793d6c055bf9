use Rattle.chk_cmd_output.specs.Printing.{unprinted}
use Rattle.chk_ctl_held.proofs.lines.print_waiting.Goals as goal

pub returns-in-Err-clause-told : goal.returns-in-Err-clause-told
returns-in-Err-clause-told g c = unprinted
