-- Calls made in turn, of which only their kinds are said.
use Rattle.std.specs.Prelude.{◌≡◌, ◌≢◌, ◌⊎◌, List, [], ◌∷◌, Option, Some, None, Result, Ok, Err}
use Rattle.chk_site.specs.declared.acts.Who.{Who}
use Rattle.chk_site.specs.declared.acts.CallFault.TheVariants.{Failed}
use Rattle.chk_site.specs.declared.acts.OutsideFault.{OutsideFault}
use Rattle.chk_site.specs.declared.acts.OutsideFault.TheVariants.{NoMemory as no_memory}
use Rattle.chk_site.specs.declared.acts.CallFault.{CallFault}
use Rattle.chk_site.specs.declared.acts.ActAnswer.{ActAnswer}
use Rattle.chk_site.specs.declared.acts.ActAnswer.TheVariants.{Refused}
use Rattle.chk_site.specs.Acts.{Deed, deed, deed_by}
use Rattle.chk_site.specs.History.{Step, History}
use Rattle.chk_site.specs.Site.{Adds, Asked, Calls, IsDone, Ends, WasDone}
use Rattle.chk_site.specs.Runs.{Owns}

-- what the call asks for
abbrev pub deed_of : Asked → Deed
deed_of q = deed_by q.call q.words q.number q.max

-- the call took place, or was refused for the state of the files
abbrev pub WentOn : Result ActAnswer CallFault → Type 0
WentOn (Ok answer) = WasDone answer
WentOn given = IsDone given

-- In turn the process made calls that P allows, and no others. Each was done, or refused for the state of the files, up
-- to one that ended the work, where one did.
pub data Works (who : Who) (P : Deed → Type 0) : Option OutsideFault → Option History → Option History → Type 0 where
  rests : {now : Option History} → Works who P None now now
  unbegun : {now : Option History} → Works who P (Some no_memory) now now
  works : {fault : Option OutsideFault} {old mid new : Option History} (q : Asked) (given : Result ActAnswer CallFault)
      → q.who ≡ who → P (deed_of q) → WentOn given → Adds old mid (Calls q given) → Works who P fault mid new
      → Works who P fault old new
  ends : {fault : OutsideFault} {old new : Option History} (q : Asked) (given : Result ActAnswer CallFault)
      → q.who ≡ who → P (deed_of q) → Ends q.call given fault → Adds old new (Calls q given) → Works who P (Some fault) old new

-- what ended the work
abbrev pub fault_of : {T : Type 0} → Result T OutsideFault → Option OutsideFault
fault_of (Ok value) = None
fault_of (Err fault) = Some fault

-- it is what one of these calls asks for
abbrev pub IsOneOf : List Asked → Deed → Type 0
IsOneOf [] call = ⊥
IsOneOf (q ∷ qs) call = (call ≡ deed_of q) ⊎ IsOneOf qs call

-- the step is by this process, and P allows what it asks for
pub record Asks (who : Who) (P : Deed → Type 0) (before : History) (step : Step) : Type 0 where
  pub by : step.act.who ≡ who
  pub allowed : P (deed step.act)

-- no call of the site's own failed among these steps
abbrev pub NoneFailed : History → History → Type 0
NoneFailed = Owns (λ before step. step.act.answer ≢ Refused Failed)
