use Rattle.chk_replace.proofs.OldAndNew.{last_call}
use Rattle.chk_wahead.proofs.starting.begin.Goals as goal

pub returns-clause-told : goal.returns-clause-told
returns-clause-told g c = last_call c.done.result c.start-started.result c.done.ensures c.start-started.ensures.told
