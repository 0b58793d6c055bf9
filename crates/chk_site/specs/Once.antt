-- One call and its answer.
use Rattle.std.specs.Prelude.{Option, Result, MatchResult}
use Rattle.chk_site.specs.declared.acts.ActAnswer.{ActAnswer}
use Rattle.chk_site.specs.Site.{Adds, Asked, answered, plain, Calls, IsDone, Ends, IsTaken}
use Rattle.chk_site.specs.History.{History}
use Rattle.chk_site.specs.declared.acts.OutsideFault.{OutsideFault}
use Rattle.chk_site.specs.declared.acts.CallFault.{CallFault}

-- the call was made, and was done or refused for the state of the files, or else it ended the work
pub record MadeOnce (q : Asked) (result : Result (Unit {0}) OutsideFault) (old new : Option History) : Type 0 where
  pub given : Result (Unit {0}) CallFault
  pub came : MatchResult result (λ value. IsDone given) (λ fault. Ends q.call given fault)
  pub told : Adds old new (Calls q (answered plain given))

-- the call was made, and gave this, or was refused for the state of the files, or else it ended the work
pub record TakenOnce {V : Type 0} (q : Asked) (how : V → ActAnswer) (result : Result (Option V) OutsideFault)
    (old new : Option History) : Type 0 where
  pub given : Result V CallFault
  pub came : MatchResult result (λ taken. IsTaken given taken) (λ fault. Ends q.call given fault)
  pub told : Adds old new (Calls q (answered how given))
