use Rattle.std.proofs.Common.{List, [], ℕ, sym, subst}
use Rattle.chk_round.specs.Reading as told
use Rattle.chk_round.specs.Reading.{IsGrowing}
use Rattle.chk_round.specs.declared.faults.RoundFault.TheVariants.{Growing}
use Rattle.chk_round.proofs.reading.growing.Goals as goal

pub returns-in-Ok-clause-which : goal.returns-in-Ok-clause-which
returns-in-Ok-clause-which c a at =
    subst (λ (p : List ℕ). IsGrowing a.path c.args.reads (Growing p c.args.reads)) (sym (c.in-Ok.ensures a at)) told.grows

pub returns-in-Ok-clause-kind : goal.returns-in-Ok-clause-kind
returns-in-Ok-clause-kind c = (c.in-Ok.path, told.grows)

pub returns-in-Err-clause-which : goal.returns-in-Err-clause-which
returns-in-Err-clause-which c a at = told.untold

pub returns-in-Err-clause-kind : goal.returns-in-Err-clause-kind
returns-in-Err-clause-kind c = ([], told.untold)
