use Rattle.chk_cmd_output.proofs.Printed.{said_line}
use Rattle.chk_cmd_output.proofs.print_line.Goals as goal

pub returns-clause-told : goal.returns-clause-told
returns-clause-told g c =
    said_line c.say-given.result c.reached.result c.requires.line c.say-given.ensures.told c.reached.ensures
