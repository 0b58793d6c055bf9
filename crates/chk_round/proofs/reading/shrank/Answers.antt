use Rattle.std.proofs.Common.{List, [], ℕ, sym, subst}
use Rattle.chk_round.specs.Reading as told
use Rattle.chk_round.specs.Reading.{IsShrank}
use Rattle.chk_round.specs.declared.faults.RoundFault.TheVariants.{Shrank}
use Rattle.chk_round.proofs.reading.shrank.Goals as goal

pub returns-in-Ok-clause-which : goal.returns-in-Ok-clause-which
returns-in-Ok-clause-which c a at =
    subst (λ (p : List ℕ). IsShrank a.path c.args.had c.args.is (Shrank p c.args.had c.args.is)) (sym (c.in-Ok.ensures a at)) told.shrinks

pub returns-in-Ok-clause-kind : goal.returns-in-Ok-clause-kind
returns-in-Ok-clause-kind c = (c.in-Ok.path, told.shrinks)

pub returns-in-Err-clause-which : goal.returns-in-Err-clause-which
returns-in-Err-clause-which c a at = told.untold

pub returns-in-Err-clause-kind : goal.returns-in-Err-clause-kind
returns-in-Err-clause-kind c = ([], told.untold)
