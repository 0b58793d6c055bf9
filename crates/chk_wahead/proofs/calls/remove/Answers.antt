use Rattle.chk_replace.proofs.OldAndNew.{last_call}
use Rattle.chk_wahead.proofs.calls.remove.Goals as goal

pub returns-clause-told : goal.returns-clause-told
returns-clause-told g c = last_call c.done.result c.remove-removed.result c.done.ensures c.remove-removed.ensures.told
