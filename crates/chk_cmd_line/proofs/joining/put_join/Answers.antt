use Rattle.chk_cmd_line.proofs.joining.put_join.Goals as goal

pub returns-clause-ok : goal.returns-clause-ok
returns-clause-ok c = rw c.from.ensures at c.put_line.ensures.ok
