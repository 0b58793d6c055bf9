-- How the accounts of several calls join to one.
use Rattle.std.proofs.Common.{◌≡◌, ◌≢◌, inr, Bool, true, false, [], ◌∷◌, ◌++◌, Some, Ok, Err, Option, Result, refl, sym, ◌∙◌, ap, subst, append_assoc}
use Rattle.std.proofs.lemmas.List.{append_cancel_right}
use Rattle.std.proofs.lemmas.Option.{same_Some}
use Rattle.chk_site.specs.declared.acts.CallFault.{CallFault}
use Rattle.chk_site.specs.declared.acts.CallFault.TheVariants.{Failed, Missing, Exists, Short, NoMemory}
use Rattle.chk_site.specs.declared.acts.ActAnswer.{ActAnswer}
use Rattle.chk_site.specs.declared.acts.ActAnswer.TheVariants.{Refused}
use Rattle.chk_site.specs.declared.acts.Who.{Who}
use Rattle.chk_site.specs.History.{Step, History, Every, is_stopped}
use Rattle.chk_site.specs.Site.{Adds, Asked, answered, plain, Acted, Added, Calls, IsDone, WasDone, IsTaken, Took}
use Rattle.chk_site.specs.Runs.{HasStarted}

-- one call after another
pub adds_then : {old mid new : Option History} {P Q : History → History → Type 0}
    (R : History → History → Type 0)
    → Adds old mid P → Adds mid new Q
    → ((a b history : History) → P a history → Q b (a ++ history) → R (b ++ a) history)
    → Adds old new R
adds_then R p q join =
    record {
      told =
          λ history e.
          let x = p.told history e in
          let y = q.told (x.0 ++ history) x.1 in (
            y.0 ++ x.0,
            y.1 ∙ ap (λ h. Some h) (sym (append_assoc y.0 x.0 history)),
            join x.0 y.0 history x.2 y.2,
          );
      untold = λ e. q.untold (p.untold e);
    }

-- two accounts of the same steps
pub adds_both : {old new : Option History} {P Q : History → History → Type 0} (R : History → History → Type 0)
    → Adds old new P → Adds old new Q → ((added history : History) → P added history → Q added history → R added history) → Adds old new R
adds_both {Q = Q} R p q join = record {
  told =
      λ history e.
      let x = p.told history e in
      let y = q.told history e in
      let same : y.0 ≡ x.0 = append_cancel_right y.0 x.0 history (same_Some (y.0 ++ history) (x.0 ++ history) (sym y.1 ∙ x.1)) in
      (x.0, x.1, join x.0 history x.2 (subst (λ (a : History). Q a history) same y.2));
  untold = p.untold;
}

-- a weaker account
pub adds_as : {old new : Option History} {P : History → History → Type 0}
    (R : History → History → Type 0)
    → Adds old new P → ((a history : History) → P a history → R a history) → Adds old new R
adds_as R p weaker =
    record {
      told = λ history e. let x = p.told history e in (x.0, x.1, weaker x.0 history x.2);
      untold = p.untold;
    }

-- a start that was made among the first steps was made among all
later_start : (who : Who) (b a history : History) → HasStarted who a history → HasStarted who (b ++ a) history
later_start who [] a history h = h
later_start who (step ∷ b) a history h = inr (later_start who b a history h)

pub start_then : (who : Who) {P : History → History → Type 0} {old mid new : Option History} → Adds old mid (HasStarted who) → Adds mid new P
    → Adds old new (HasStarted who)
start_then who p q = adds_then (HasStarted who) p q (λ a b history x y. later_start who b a history x)

-- no call
pub adds_none : (now : Option History) (R : History → History → Type 0)
    → ((history : History) → R [] history) → Adds now now R
adds_none now R none = record { told = λ history e. ([], e, none history); untold = λ e. e }

-- what each step of two stretches has, each step of both has
pub every_join : (P : History → Step → Type 0) (b a history : History)
    → Every P a history → Every P b (a ++ history) → Every P (b ++ a) history
every_join P [] a history pa pb = pa
every_join P (s ∷ b) a history pa pb = (
  every_join P b a history pa pb.0,
  subst (λ (h : History). P h s) (sym (append_assoc b a history)) pb.1,
)

-- the steps of the first stretch
pub every_early : (P : History → Step → Type 0) (b a history : History)
    → Every P (b ++ a) history → Every P a history
every_early P [] a history p = p
every_early P (s ∷ b) a history p = every_early P b a history p.0

-- the steps of the second one
pub every_late : (P : History → Step → Type 0) (b a history : History)
    → Every P (b ++ a) history → Every P b (a ++ history)
every_late P [] a history p = tt
every_late P (s ∷ b) a history p = (
  every_late P b a history p.0,
  subst (λ (h : History). P h s) (append_assoc b a history) p.1,
)

-- a call that didn't answer that it failed added what its answer says
pub ran : {q : Asked} (r : Result ActAnswer CallFault) {added history : History}
    → r ≢ Err Failed → Calls q r added history → Added q r added history
ran {q = q} r {added = added} {history = history} other calls =
    let cases : (b : Bool) → is_stopped history ≡ b → Added q r added history =
    λ b. elim b as (λ b. is_stopped history ≡ b → Added q r added history) [
      | true ↦ λ e. absurd (other (calls.stopped e).1)
      | false ↦ λ e. calls.running e
    ] in
    cases (is_stopped history) refl

-- a call that was done, or refused for the state of the files
pub done_answer : {V : Type 0} {q : Asked} (given : Result V CallFault) {added history : History}
    → IsDone given → Calls q (answered plain given) added history
    → (answer : ActAnswer) × WasDone answer × Acted q answer added history
done_answer (Ok value) fine calls = (plain value, tt, ran (Ok (plain value)) (λ e. cc) calls)
done_answer (Err Failed) fine calls = absurd fine
done_answer (Err Missing) fine calls = (Refused Missing, tt, ran (Err Missing) (λ e. cc) calls)
done_answer (Err Exists) fine calls = (Refused Exists, tt, ran (Err Exists) (λ e. cc) calls)
done_answer (Err (Short size)) fine calls = (Refused (Short size), tt, ran (Err (Short size)) (λ e. cc) calls)
done_answer (Err NoMemory) fine calls = absurd fine

-- a call that gave something, or was refused for the state of the files
pub taken_answer : {V : Type 0} {q : Asked} (how : V → ActAnswer) (given : Result V CallFault)
    (taken : Option V) {added history : History}
    → IsTaken given taken → Calls q (answered how given) added history
    → (answer : ActAnswer) × Took how taken answer × Acted q answer added history
taken_answer {V = V} {q = q} how (Ok value) taken {added = added} {history = history} is calls =
    let W : Option V → Type 0 =
    λ o. (answer : ActAnswer) × Took how o answer × Acted q answer added history in
    subst W (sym is) (how value, refl, ran (Ok (how value)) (λ e. cc) calls)
taken_answer how (Err Failed) taken is calls = absurd is
taken_answer {V = V} {q = q} how (Err Missing) taken {added = added} {history = history} is calls =
    let W : Option V → Type 0 =
    λ o. (answer : ActAnswer) × Took how o answer × Acted q answer added history in
    subst W (sym is) (Refused Missing, tt, ran (Err Missing) (λ e. cc) calls)
taken_answer {V = V} {q = q} how (Err Exists) taken {added = added} {history = history} is calls =
    let W : Option V → Type 0 =
    λ o. (answer : ActAnswer) × Took how o answer × Acted q answer added history in
    subst W (sym is) (Refused Exists, tt, ran (Err Exists) (λ e. cc) calls)
taken_answer {V = V} {q = q} how (Err (Short size)) taken {added = added} {history = history} is calls =
    let W : Option V → Type 0 =
    λ o. (answer : ActAnswer) × Took how o answer × Acted q answer added history in
    subst W (sym is) (Refused (Short size), tt, ran (Err (Short size)) (λ e. cc) calls)
taken_answer how (Err NoMemory) taken is calls = absurd is
