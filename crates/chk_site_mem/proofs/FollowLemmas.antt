-- A call follows the script.
use Rattle.std.proofs.Common.{◌≡◌, ℕ, Bool, true, false, List, [], ◌∷◌, Some, None, Result, Ok, Err, refl, sym, ◌∙◌, ap, subst}
use Rattle.std.specs.Prelude.{nat_le, MatchBool, if◌then◌else◌}
use Rattle.chk_site.specs.declared.acts.Act.{Act}
use Rattle.chk_site.specs.declared.acts.CallFault.{CallFault}
use Rattle.chk_site.specs.declared.acts.CallFault.TheVariants.{Failed, Missing, Exists, Short, NoMemory}
use Rattle.chk_site.specs.declared.acts.ActAnswer.{ActAnswer}
use Rattle.chk_site.specs.declared.scripts.Other.{Other}
use Rattle.chk_site.specs.Acts.{deed}
use Rattle.chk_site.specs.History.{is_stopped}
use Rattle.chk_site.specs.Site.{Asked}
use Rattle.chk_site_mem_store.specs.State.{State}
use Rattle.chk_site_mem_store.specs.Told.{is_allowed, told_of}
use Rattle.chk_site_mem_calls.specs.declared.plan.Planned.{Planned}
use Rattle.chk_site_mem_calls.specs.Plans.{LosesNothing, Plans, planned_as}
use Rattle.chk_site_mem.specs.declared.fate.Fate.{Fate}
use Rattle.chk_site_mem.specs.declared.fate.Fate.TheVariants.{Goes, Fails, Stops}
use Rattle.chk_site_mem.proofs.CallLemmas.{plan_loses}
use Rattle.chk_site_mem.specs.Memory.{Memory, BeginsBy, Follows, IsFated, MadeBy, Ran, RunsBy, Unmade, fate_of, faulted, first_due, happened, later, made, next_call, ready, with_theirs, without_due}

-- where the first is due, it happens and the others go on
pub due_happens : (n : ℕ) (others : List Other) (s : State) (other : Other) → first_due n others ≡ Some other
    → happened n (without_due n others) (with_theirs other.act s) ≡ happened n others s
due_happens n [] s other due = absurd (cc)
due_happens n (o ∷ others) s other due = by (nat_le o.before n) due
  where
    by : (b : Bool) → (if b then Some o else None) ≡ Some other
        → happened n (if b then others else o ∷ others) (with_theirs other.act s) ≡ (if b then happened n others (with_theirs o.act s) else s)
    by true e = let same : other ≡ o = cc in ap (λ (o : Other). happened n others (with_theirs o.act s)) same
    by false e = absurd (cc)

pub due_later : (n : ℕ) (others : List Other) (other : Other) → first_due n others ≡ Some other
    → later n (without_due n others) ≡ later n others
due_later n [] other due = absurd (cc)
due_later n (o ∷ others) other due = by (nat_le o.before n) due
  where
    by : (b : Bool) → (if b then Some o else None) ≡ Some other
        → later n (if b then others else o ∷ others) ≡ (if b then later n others else o ∷ others)
    by true e = refl
    by false e = absurd (cc)

pub none_later : (n : ℕ) (others : List Other) → first_due n others ≡ None → without_due n others ≡ later n others
none_later n [] none = refl
none_later n (o ∷ others) none = by (nat_le o.before n) none
  where
    by : (b : Bool) → (if b then Some o else None) ≡ None → (if b then others else o ∷ others) ≡ (if b then later n others else o ∷ others)
    by true e = absurd (cc)
    by false e = refl

-- what others do repeats no taking
pub theirs_repeats : (act : Act) (s : State) → (with_theirs act s).repeats ≡ s.repeats
theirs_repeats act s = by (is_allowed (deed act) act.answer) refl
  where
    by : (b : Bool) → is_allowed (deed act) act.answer ≡ b → (with_theirs act s).repeats ≡ s.repeats
    by true e = rw e refl
    by false e = rw e refl

pub happened_repeats : (n : ℕ) (others : List Other) (s : State) → (happened n others s).repeats ≡ s.repeats
happened_repeats n [] s = refl
happened_repeats n (o ∷ others) s =
    by (nat_le o.before n) (happened_repeats n others (with_theirs o.act s) ∙ theirs_repeats o.act s)
  where
    by : (b : Bool) → (happened n others (with_theirs o.act s)).repeats ≡ s.repeats
        → (if b then happened n others (with_theirs o.act s) else s).repeats ≡ s.repeats
    by true e = e
    by false e = refl

-- a call that runs
runs_by : {T : Type 0} (result : Result T CallFault) (m new : Memory) → is_stopped (told_of m.state.kept) ≡ false
    → RunsBy result m new → Follows m new result
runs_by result m new running runs =
    subst (λ (b : Bool). MatchBool b (new ≡ faulted m) (RunsBy result m new)) (sym running) runs

-- a call that didn't begin
pub follows_unbegun : (T V : Type 0) (fault : CallFault) (m new : Memory) → BeginsBy {T = V} (Err fault) m new
    → Follows {T = T} m new (Err fault)
follows_unbegun T V Failed m new begins =
    subst (λ (b : Bool). MatchBool b (new ≡ faulted m) (RunsBy {T = T} (Err Failed) m new)) (sym begins.0) begins.1
follows_unbegun T V NoMemory m new begins = runs_by {T = T} (Err NoMemory) m new begins.0 begins.1
follows_unbegun T V Missing m new begins = absurd begins
follows_unbegun T V Exists m new begins = absurd begins
follows_unbegun T V (Short size) m new begins = absurd begins

-- a call for whose act there was no memory
pub follows_unmade : (T : Type 0) (m new : Memory) → is_stopped (told_of m.state.kept) ≡ false → new ≡ ready m
    → Follows {T = T} m new (Err NoMemory)
follows_unmade T m new running is =
    runs_by {T = T} (Err NoMemory) m new running (subst (Unmade m) (sym is) (record {
      failing = refl;
      stop = refl;
      calls = refl;
      faults = refl;
      repeats = happened_repeats (next_call m) m.others m.state;
    }))

-- what was planned loses nothing
ready_loses : {T : Type 0} (q : Asked) (how : T → ActAnswer) (m now : Memory) (planned : Planned T) → now ≡ ready m
    → Plans q how now.state planned
    → LosesNothing (ready m).state.repeats.numbers (told_of (ready m).state.kept) planned.act.who (deed planned.act) planned.act.answer
ready_loses q how m now planned is plans =
    let answer = planned.act.answer in
    subst (λ (s : Memory). LosesNothing s.state.repeats.numbers (told_of s.state.kept) planned.act.who (deed planned.act) answer) is
    (plan_loses q how now.state planned plans)

-- a call whose act failed, was stopped or had no memory
pub follows_failed : {T : Type 0} (V : Type 0) (q : Asked) (how : T → ActAnswer) (planned : Planned T) (fault : CallFault) (fate : Fate)
    (m now new : Memory) → is_stopped (told_of m.state.kept) ≡ false → now ≡ ready m → fate ≡ fate_of m → Plans q how now.state planned
    → MadeBy {T = V} (Err fault) fate planned.act now new → Follows {T = T} m new (Err fault)
follows_failed {T} V q how planned Failed fate m now new running is fated plans by =
    runs_by {T = T} (Err Failed) m new running (record {
      act = planned.act;
      loses = ready_loses q how m now planned is plans;
      fate = failed fate fated by.0;
      comes = by.1 ∙ ap (made fate planned.act) is ∙ ap (λ (f : Fate). made f planned.act (ready m)) fated;
    })
  where
    is_fated : (f : Fate) → IsFated {T = Unit {0}} f (Err Failed) → IsFated {T = T} f (Err Failed)
    is_fated Goes none = none
    is_fated Fails so = tt
    is_fated (Stops left) so = tt

    failed : (f : Fate) → f ≡ fate_of m → IsFated {T = Unit {0}} f (Err Failed) → IsFated {T = T} (fate_of m) (Err Failed)
    failed f same so = subst (λ (f : Fate). IsFated {T = T} f (Err Failed)) same (is_fated f so)
follows_failed {T} V q how planned NoMemory fate m now new running is fated plans same =
    follows_unmade T m new running (same ∙ is)
follows_failed V q how planned Missing fate m now new running is fated plans none = absurd none
follows_failed V q how planned Exists fate m now new running is fated plans none = absurd none
follows_failed V q how planned (Short size) fate m now new running is fated plans none = absurd none

-- a call that gives what was planned
pub follows_made : {T V : Type 0} (value : V) (q : Asked) (how : T → ActAnswer) (act : Act) (gives : Result T CallFault) (fate : Fate)
    (m now new : Memory) → is_stopped (told_of m.state.kept) ≡ false → now ≡ ready m → fate ≡ fate_of m
    → Plans q how now.state (planned_as act gives) → MadeBy (Ok value) fate act now new → Follows m new gives
follows_made {T} value q how act gives fate m now new running is fated plans by = runs_by gives m new running (cases gives plans)
  where
    goes : fate_of m ≡ Goes
    goes = sym fated ∙ by.0

    ran : (gives : Result T CallFault) → Plans q how now.state (planned_as act gives) → IsFated Goes gives → Ran gives m new
    ran gives plans so = record {
      act = act;
      loses = ready_loses q how m now (planned_as act gives) is plans;
      fate = subst (λ (f : Fate). IsFated f gives) (sym goes) so;
      comes = by.1 ∙ ap (made fate act) is ∙ ap (λ (f : Fate). made f act (ready m)) fated;
    }

    cases : (gives : Result T CallFault) → Plans q how now.state (planned_as act gives) → RunsBy gives m new
    cases (Ok value) plans = ran (Ok value) plans tt
    cases (Err Failed) plans = absurd plans.answers
    cases (Err NoMemory) plans = absurd plans.answers
    cases (Err Missing) plans = ran (Err Missing) plans tt
    cases (Err Exists) plans = ran (Err Exists) plans tt
    cases (Err (Short size)) plans = ran (Err (Short size)) plans tt
