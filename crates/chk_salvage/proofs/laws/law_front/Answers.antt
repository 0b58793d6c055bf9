use Rattle.chk_salvage.proofs.LawLemmas.{one_front, front_has_records}
use Rattle.chk_salvage.proofs.laws.law_front.Goals as goal

pub returns-clause-one : goal.returns-clause-one
returns-clause-one c = one_front

pub returns-clause-records : goal.returns-clause-records
returns-clause-records c = front_has_records
