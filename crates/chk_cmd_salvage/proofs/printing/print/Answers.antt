use Rattle.chk_cmd_salvage.proofs.Printed.{print_told}
use Rattle.chk_cmd_salvage.proofs.Running.{print_runs}
use Rattle.chk_cmd_salvage.proofs.printing.print.Goals as goal

pub returns-clause-told : goal.returns-clause-told
returns-clause-told g c =
    print_told c.args.who.now c.args.text.now c.say-said.result c.done.result c.requires.few c.done.ensures
    c.say-said.ensures.only c.say-said.ensures.told

pub returns-clause-runs : goal.returns-clause-runs
returns-clause-runs g c =
    print_runs c.args.who.now c.args.text.now c.say-said.result c.done.result c.done.ensures c.say-said.ensures.told
