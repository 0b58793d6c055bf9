use Rattle.chk_cmd_line.proofs.endings.Ending.put_line.Goals as goal

pub returns-in-Growing-clause-ok : goal.returns-in-Growing-clause-ok
returns-in-Growing-clause-ok c =
    rw (c.in-Growing.is, ← c.as_str-in-Growing.ensures.text) c.put_line-in-Growing.ensures.ok

pub returns-in-Unclosed-clause-ok : goal.returns-in-Unclosed-clause-ok
returns-in-Unclosed-clause-ok c =
    rw (c.in-Unclosed.is, ← c.as_str-in-Unclosed.ensures.text) c.put_line-in-Unclosed.ensures.ok
