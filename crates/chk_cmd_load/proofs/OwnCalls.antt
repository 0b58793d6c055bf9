-- The calls of a load, by the process that makes them.
use Rattle.std.proofs.Common.{◌≡◌, ℕ, zero, suc, Bool, true, false, if◌then◌else◌, List, [], ◌∷◌, ◌++◌, Ok, Option, Result, refl, ◌∙◌, ap, subst, arith}
use Rattle.std.specs.Prelude.{Contains, codes}
use Rattle.chk_site.specs.declared.acts.ActAnswer.{ActAnswer}
use Rattle.chk_site.specs.declared.acts.OutsideFault.{OutsideFault}
use Rattle.chk_site.specs.declared.acts.Who.{Who}
use Rattle.chk_site.specs.Acts.{Deed, deed, same_who}
use Rattle.chk_site.specs.History.{Step, History}
use Rattle.chk_site.specs.Runs.{Owns, own_acts}
use Rattle.chk_site.specs.Site.{Adds, answered, plain}
use Rattle.chk_site.proofs.Leads.{Owned, call_owned}
use Rattle.chk_site.proofs.Runs.{adds_as, adds_none, adds_then, every_join}
use Rattle.chk_world.specs.Together.{IsByOne}
use Rattle.chk_world.proofs.Beside.{owns_as}
use Rattle.chk_round.specs.Processes.{processes}
use Rattle.chk_cmd_load.specs.Loads.{IsWritersAppend, IsWritersPrint, LoadsBy, SaysLine, unsaid, said, unsayable, saying}
use Rattle.chk_cmd_load.specs.Loads.IsLoadCall.{appends, prints, rounds}
use Rattle.chk_cmd_load.specs.Pieces.{AppendsInTurn, all_appended, unappended, appended_on, ended, LogPiece, of_writer}
use Rattle.chk_cmd_load.specs.Processes.{chukwa}

abbrev pub OwnCalls : History → History → Type 0
OwnCalls = Owns LoadsBy

-- those of two stretches
pub own_join : (b a history : History) → OwnCalls a history → OwnCalls b (a ++ history) → OwnCalls (b ++ a) history
own_join b a history x y = every_join (λ before step. step.own ≡ true → LoadsBy before step) b a history x y

pub appends_own : {ps : List LogPiece} {result : Result (Unit {0}) OutsideFault} {old new : Option History}
    → AppendsInTurn chukwa ps result old new → Adds old new OwnCalls
appends_own all_appended = adds_none _ OwnCalls (λ history. tt)
appends_own unappended = adds_none _ OwnCalls (λ history. tt)
appends_own (appended_on {p = p} good told more) =
    adds_then OwnCalls
    (adds_as OwnCalls told
    (λ a history calls. call_owned LoadsBy (answered plain (Ok (tt {0}))) (λ before answer files logs running. appends p good) calls))
    (appends_own more) (λ a b history x y. own_join b a history x y)
appends_own (ended {p = p} given good ends told) =
    adds_as OwnCalls told
    (λ a history calls. call_owned LoadsBy (answered plain given) (λ before answer files logs running. appends p good) calls)

-- and just these of the writer's
pub appends_only : {ps : List LogPiece} {result : Result (Unit {0}) OutsideFault} {old new : Option History}
    → AppendsInTurn chukwa ps result old new → Adds old new (Owns IsWritersAppend)
appends_only all_appended = adds_none _ (Owns IsWritersAppend) (λ history. tt)
appends_only unappended = adds_none _ (Owns IsWritersAppend) (λ history. tt)
appends_only (appended_on {p = p} good told more) =
    adds_then (Owns IsWritersAppend)
    (adds_as (Owns IsWritersAppend) told
    (λ a history calls. call_owned IsWritersAppend (answered plain (Ok (tt {0})))
    (λ before answer files logs running. (refl, p, good, refl)) calls))
    (appends_only more)
    (λ a b history x y.
    every_join (λ before step. step.own ≡ true → IsWritersAppend before step) b a history x y)
appends_only (ended {p = p} given good ends told) =
    adds_as (Owns IsWritersAppend) told
    (λ a history calls. call_owned IsWritersAppend (answered plain given)
    (λ before answer files logs running. (refl, p, good, refl)) calls)

-- ---- the summary

module _ {line : List ℕ} (P : History → Step → Type 0) (by : Owned P (saying chukwa line)) where
  pub says_owned : {result : Result (Unit {0}) OutsideFault} {old new : Option History}
      → SaysLine chukwa line result old new → Adds old new (Owns P)
  says_owned unsaid = adds_none _ (Owns P) (λ history. tt)
  says_owned (said told) = adds_as (Owns P) told (λ a history calls. call_owned P (answered plain (Ok (tt {0}))) by calls)
  says_owned (unsayable given ends told) = adds_as (Owns P) told (λ a history calls. call_owned P (answered plain given) by calls)

module _ (line : List ℕ) {result : Result (Unit {0}) OutsideFault} {old new : Option History}
    (says : SaysLine chukwa line result old new) where
  pub say_own : Adds old new OwnCalls
  say_own = says_owned LoadsBy (λ before answer files logs running. prints line) says

  pub say_only : Adds old new (Owns IsWritersPrint)
  say_only = says_owned IsWritersPrint (λ before answer files logs running. (refl, line, refl)) says

-- ---- the round

pub round_own : (added history : History) → Owns (IsByOne (processes (codes "load"))) added history → OwnCalls added history
round_own added history by =
    owns_as (IsByOne (processes (codes "load"))) LoadsBy
    (λ before step one. rounds step.act.who (deed step.act) one.one) added history by

-- none of its processes is the writer
no_writer : (who : Who) → Contains (processes (codes "load")) who → same_who who chukwa ≡ false
no_writer who (zero, low, is) = subst (λ (w : Who). same_who w chukwa ≡ false) is refl
no_writer who (suc zero, low, is) = subst (λ (w : Who). same_who w chukwa ≡ false) is refl
no_writer who (suc (suc zero), low, is) = subst (λ (w : Who). same_who w chukwa ≡ false) is refl
no_writer who (suc (suc (suc k)), low, is) = absurd (let z : ⊥ = omega (arith, low) in z)

pub round_silent : {X : Type 0} (part : Deed → ActAnswer → List X) (added history : History)
    → Owns (IsByOne (processes (codes "load"))) added history → of_writer part (own_acts added) ≡ []
round_silent part [] history by = refl
round_silent {X = X} part (step ∷ added) history by = go step.own refl (round_silent part added history by.0)
  where
    go : (own : Bool) → step.own ≡ own → of_writer part (own_acts added) ≡ [] → of_writer part (own_acts (step ∷ added)) ≡ []
    go true e rest =
        rw e
        (ap (λ (xs : List X). xs ++ (if same_who step.act.who chukwa then part (deed step.act) step.act.answer else [])) rest
        ∙ ap (λ (b : Bool). if b then part (deed step.act) step.act.answer else []) (no_writer step.act.who (by.1 e).one))
    go false e rest = rw e rest
