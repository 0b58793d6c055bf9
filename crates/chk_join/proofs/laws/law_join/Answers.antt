use Rattle.chk_join.proofs.JoinLaws as JoinLaws
use Rattle.chk_join.proofs.laws.law_join.Goals as goal

pub returns : goal.returns
returns c = JoinLaws.join_laws
