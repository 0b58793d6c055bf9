-- What some steps lead to, where the steps of others meet a supposition.
use Rattle.std.specs.Prelude.{◌≡◌, ◌⊎◌, true, List, [], ◌∷◌, ◌++◌, Option, Result, Ok, Err, if◌then◌else◌}
use Rattle.chk_site.specs.declared.acts.Act.{Act}
use Rattle.chk_site.specs.declared.acts.Who.{Who}
use Rattle.chk_site.specs.declared.acts.OutsideFault.{OutsideFault}
use Rattle.chk_site.specs.declared.acts.OutsideFault.TheVariants.{NoMemory as no_memory}
use Rattle.chk_site.specs.declared.acts.CallFault.{CallFault}
use Rattle.chk_site.specs.Acts.{Starts, deed}
use Rattle.chk_site.specs.Site.{Adds, Asked, answered, plain, Calls, IsDone, Ends}
use Rattle.chk_site.specs.History.{Step, History, Every, Others}

-- what is supposed of each step of others, and what is promised of each step that the site itself makes
pub record Side : Type 1 where
  pub others : History → Step → Type 0
  pub own : History → Step → Type 0

-- nothing is promised of the site's own steps
abbrev pub anyhow : (History → Step → Type 0) → Side
anyhow Supposed = record { others = Supposed; own = λ before step. Unit {0} }

-- each added step of the site's own has P at its place
abbrev pub Owns : (History → Step → Type 0) → History → History → Type 0
Owns P = Every (λ before step. step.own ≡ true → P before step)

-- Where each added step of others is as supposed, and one thing holds before, the other holds at the end. The site's own
-- steps are as promised.
pub record Leads (S : Side) (Before After : History → Type 0) (added history : History) : Type 0 where
  pub leads : Others S.others added history → Before history → After (added ++ history)
  pub own : Owns S.own added history

-- one of the added steps is the start of the process
abbrev pub HasStarted : Who → History → History → Type 0
HasStarted who [] history = ⊥
HasStarted who (step ∷ added) history = ((step.act.who ≡ who) × (deed step.act ≡ Starts)) ⊎ HasStarted who added history

-- The history goes on from an earlier one by some steps, of which P holds.
pub record Since (earlier : History) (P : History → Type 0) (history : History) : Type 0 where
  pub added : History
  pub goes_on : history ≡ added ++ earlier
  pub holds : P added

-- Each call of the script was made in turn and was done, or refused for the state of the files, up to one that ended the work.
pub data MadeInTurn : List Asked → Result Unit OutsideFault → Option History → Option History → Type 0 where
  finished : {now : Option History} → MadeInTurn [] (Ok tt) now now
  unbegun : {qs : List Asked} {now : Option History} → MadeInTurn qs (Err no_memory) now now
  went_on : {q : Asked} {qs : List Asked} {result : Result Unit OutsideFault} {old mid new : Option History} (given : Result Unit CallFault)
      → IsDone given → Adds old mid (Calls q (answered plain given)) → MadeInTurn qs result mid new → MadeInTurn (q ∷ qs) result old new
  ended : {q : Asked} {qs : List Asked} {fault : OutsideFault} {old new : Option History} (given : Result Unit CallFault)
      → Ends q.call given fault → Adds old new (Calls q (answered plain given)) → MadeInTurn (q ∷ qs) (Err fault) old new

-- the acts that calls on the site made among these steps, the newest first
abbrev pub own_acts : History → List Act
own_acts [] = []
own_acts (step ∷ history) = if step.own then step.act ∷ own_acts history else own_acts history
