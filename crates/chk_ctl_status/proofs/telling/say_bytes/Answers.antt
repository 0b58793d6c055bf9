use Rattle.chk_ctl_status.proofs.Said.{told_so}
use Rattle.chk_ctl_status.proofs.telling.say_bytes.Goals as goal

pub returns-clause-told : goal.returns-clause-told
returns-clause-told g c =
    told_so c.args.who.now c.args.text.now c.reached.result c.say-given.result c.reached.ensures
    c.say-given.ensures.told
