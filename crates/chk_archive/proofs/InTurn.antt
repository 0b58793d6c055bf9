-- Removals that a loop makes in turn.
use Rattle.std.proofs.Common.{◌≡◌, ℕ, List, [], ◌∷◌, Ok, Err, Option, Result, sym, subst}
use Rattle.chk_site.specs.declared.acts.OutsideFault.{OutsideFault}
use Rattle.chk_site.specs.declared.acts.CallFault.{CallFault}
use Rattle.chk_site.specs.declared.acts.Who.{Who}
use Rattle.chk_site.specs.History.{History}
use Rattle.chk_site.specs.Site.{Adds, answered, plain, Calls, IsDone, Ends}
use Rattle.chk_site.specs.Runs.{MadeInTurn, finished, went_on, ended}
use Rattle.chk_archive.specs.Calling.{removal, removals}

-- whatever follows, the removals so far were made in turn
abbrev pub SoFar : Who → List (List ℕ) → List (List ℕ) → Option History → Option History → Type 0
SoFar who all left old now =
    (result : Result (Unit {0}) OutsideFault) (new : Option History)
    → MadeInTurn (removals who left) result now new → MadeInTurn (removals who all) result old new

pub one_more : (who : Who) (all : List (List ℕ)) (name : List ℕ) (left : List (List ℕ))
    (old now mid : Option History)
    → SoFar who all (name ∷ left) old now → (given : Result (Unit {0}) CallFault) → IsDone given
    → Adds now mid (Calls (removal who name) (answered plain given)) → SoFar who all left old mid
one_more who all name left old now mid so given is told result new rest = so result new
    (went_on given is told rest)

pub one_ended : (who : Who) (all : List (List ℕ)) (name : List ℕ) (left : List (List ℕ))
    (old now new : Option History)
    → SoFar who all (name ∷ left) old now → (given : Result (Unit {0}) CallFault)
    (fault : OutsideFault)
    → Ends (removal who name).call given fault → Adds now new
    (Calls (removal who name) (answered plain given))
    → MadeInTurn (removals who all) (Err fault) old new
one_ended who all name left old now new so given fault ends told = so (Err fault) new
    (ended given ends told)

pub all_made : (who : Who) (all left : List (List ℕ)) (old now : Option History)
    → SoFar who all left old now → left ≡ []
    → MadeInTurn (removals who all) (Ok tt) old now
all_made who all left old now so none =
    so (Ok tt) now (subst (λ l. MadeInTurn (removals who l) (Ok tt) now now) (sym none) finished)
