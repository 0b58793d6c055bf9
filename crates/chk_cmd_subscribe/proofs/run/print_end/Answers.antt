use Rattle.chk_cmd_output.specs.Printing.{unprinted}
use Rattle.chk_cmd_subscribe.proofs.run.print_end.Goals as goal

pub returns-in_default-clause-told : goal.returns-in_default-clause-told
returns-in_default-clause-told g c = unprinted
