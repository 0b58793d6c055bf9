use Rattle.chk_replace.proofs.OldAndNew.{last_call}
use Rattle.chk_wahead.proofs.calls.add.Goals as goal

pub returns-clause-told : goal.returns-clause-told
returns-clause-told g c = last_call c.done.result c.append-appended.result c.done.ensures c.append-appended.ensures.told
