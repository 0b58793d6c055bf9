use Rattle.chk_salvage.proofs.LawLemmas.{salvage_keeps_front, salvage_skips_damage}
use Rattle.chk_salvage.proofs.laws.law_salvage.Goals as goal

pub returns-clause-front : goal.returns-clause-front
returns-clause-front c = salvage_keeps_front

pub returns-clause-damage : goal.returns-clause-damage
returns-clause-damage c = salvage_skips_damage
