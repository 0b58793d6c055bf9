-- What is found of a history by going through its acts.
use Rattle.std.proofs.Common.{◌≡◌, ℕ, ◌+◌, ◌<◌, false, List, ◌∷◌, length, take, get_or, sym, ◌∙◌, ap, arith}
use Rattle.std.proofs.lemmas.List.{take_more, length-map, get_or-map}
use Rattle.chk_site.specs.declared.acts.Act.{Act}
use Rattle.chk_site.specs.History.{Step, History}
use Rattle.chk_site_mem_store.specs.Told.{Kept, kept_as, step_of, told_of, acts_of}
use Rattle.chk_site_mem_store.proofs.KeepLemmas.{told_push}

-- the act at place i of the history is this one
pub record Past (kept : List Kept) (i : ℕ) (act : Act) : Type 0 where
  pub step : Step
  pub goes_on : told_of (take (i + 1) kept) ≡ step ∷ told_of (take i kept)
  pub act_is : step.act ≡ act

-- one act more of the acts that are gone through
pub past_step : (kept : List Kept) (acts : List Act) (i : ℕ) (act : Act) → acts ≡ acts_of kept → act ≡ get_or acts i act → i < length acts
    → Past kept i act
past_step kept acts i act same is within =
    let d = kept_as false act in
    let k = get_or kept i d in
    let inside : i < length kept = omega (arith, within, ap length same, length-map kept (λ k. k.act)) in
    record {
      step = step_of (told_of (take i kept)) k;
      goes_on = ap told_of (take_more kept i d inside) ∙ told_push (take i kept) k;
      act_is =
          sym (get_or-map (λ (k : Kept). k.act) kept i d act inside) ∙ sym (ap (λ (acts : List Act). get_or acts i act) same) ∙ sym is;
    }

-- what follows from the acts, with one more
pub past_more : {A : Type 0} (F : History → A) (G : Act → A → A) → ((step : Step) (history : History) → F (step ∷ history) ≡ G step.act (F history))
    → (kept : List Kept) (i : ℕ) (act : Act) → Past kept i act
    → F (told_of (take (i + 1) kept)) ≡ G act (F (told_of (take i kept)))
past_more F G more kept i act past =
    let before = told_of (take i kept) in
    ap F past.goes_on ∙ more past.step before ∙ ap (λ (a : Act). G a (F before)) past.act_is
