use Rattle.chk_cmd_subscribe.specs.Runs.{broken, told}
use Rattle.chk_cmd_subscribe.proofs.Lasting.{run_last}
use Rattle.chk_cmd_subscribe.proofs.Legally.{run_legal}
use Rattle.chk_cmd_subscribe.proofs.Told.{run_once}
use Rattle.chk_cmd_subscribe.proofs.run.subscribe.Goals as goal

pub returns-in-Ok-clause-ran : goal.returns-in-Ok-clause-ran
returns-in-Ok-clause-ran g c = told (rw c.new.ensures at c.in-Ok.ensures.script) c.print_end.ensures.told

pub returns-in-Ok-clause-legal : goal.returns-in-Ok-clause-legal
returns-in-Ok-clause-legal g c = run_legal c.args.who.now c.requires.writer (returns-in-Ok-clause-ran g c)

pub returns-in-Ok-clause-once : goal.returns-in-Ok-clause-once
returns-in-Ok-clause-once g c = run_once (returns-in-Ok-clause-ran g c)

pub returns-in-Ok-clause-last : goal.returns-in-Ok-clause-last
returns-in-Ok-clause-last g c = run_last (returns-in-Ok-clause-ran g c)

pub returns-clause-ran : goal.returns-clause-ran
returns-clause-ran g c = broken (rw c.new.ensures at c.in-Err.ensures.script)

pub returns-clause-legal : goal.returns-clause-legal
returns-clause-legal g c = run_legal c.args.who.now c.requires.writer (returns-clause-ran g c)

pub returns-clause-once : goal.returns-clause-once
returns-clause-once g c = run_once (returns-clause-ran g c)

pub returns-clause-last : goal.returns-clause-last
returns-clause-last g c = run_last (returns-clause-ran g c)
