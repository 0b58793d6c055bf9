-- What a call adds to the history.
use Rattle.std.proofs.Common.{◌≡◌, inl, inr, ℕ, true, false, List, [], ◌∷◌, ◌++◌, Option, Some, Result, Ok, Err, refl, sym, ◌∙◌, ap, subst}
use Rattle.std.proofs.lemmas.Bool.{false≢true}
use Rattle.chk_site.specs.declared.acts.Act.{Act}
use Rattle.chk_site.specs.declared.lists.Left.{Left}
use Rattle.chk_site.specs.declared.acts.CallFault.{CallFault}
use Rattle.chk_site.specs.declared.acts.CallFault.TheVariants.{Failed, Missing, Exists, Short, NoMemory}
use Rattle.chk_site.specs.declared.acts.ActAnswer.{ActAnswer}
use Rattle.chk_site.specs.declared.acts.ActAnswer.TheVariants.{Refused, Stopped}
use Rattle.chk_site.specs.Acts.{Deed, ReadsLog, AsksNewest, GrowsLog, Creates, Appends, Syncs, Renames, Removes, Cuts, AsksSize, Reads, Lists, Sends, Gets, Takes, TakesMore, deed, deed_by}
use Rattle.chk_site.specs.declared.acts.Who.{Who}
use Rattle.chk_site.specs.History.{Step, History, Every, IsTheirs, Modelled, is_stopped}
use Rattle.chk_site.specs.Honest.{Honest, Agrees}
use Rattle.chk_site.specs.Site.{Adds, Asked, own_step, answered, Acted, Added, Calls, CallsSome, CauseOf}
use Rattle.chk_site_mem_calls.specs.declared.plan.Planned.{Planned}
use Rattle.chk_site_mem_store.specs.State.{State}
use Rattle.chk_site_mem_store.specs.Told.{told_of, with_answer}
use Rattle.chk_site_mem_calls.specs.Plans.{LosesNothing, Plans, act_of, planned_as}
use Rattle.chk_site_mem_store.specs.Going.{TheirsSince, GoesOn}
use Rattle.chk_site_mem.specs.Begun.{Becomes, Begins}
use Rattle.chk_site.proofs.Runs.{adds_as}
use Rattle.chk_site.proofs.Leads.{theirs_run}

-- a call that failed or was stopped agrees with the history too
pub agrees_failed : (history : History) (who : Who) (call : Deed) (answer : ActAnswer) → Agrees history who call answer
    → Agrees history who call (Refused Failed)
agrees_failed history who (ReadsLog path part at max) answer agrees = tt
agrees_failed history who (AsksNewest path) answer agrees = tt
agrees_failed history who (GrowsLog path piece) answer agrees = tt
agrees_failed history who (Creates name) answer agrees = tt
agrees_failed history who (Appends name piece) answer agrees = tt
agrees_failed history who (Syncs name) answer agrees = tt
agrees_failed history who (Renames old new) answer agrees = tt
agrees_failed history who (Removes name) answer agrees = tt
agrees_failed history who (Cuts name n) answer agrees = tt
agrees_failed history who (AsksSize name) answer agrees = tt
agrees_failed history who (Reads name at max) answer agrees = tt
agrees_failed history who (Lists folder) answer agrees = tt
agrees_failed history who (Sends n address bytes) answer agrees = (agrees.0, tt)
agrees_failed history who (Gets m) answer agrees = tt
agrees_failed history who (Takes door wait) answer agrees = tt
agrees_failed history who (TakesMore t) answer agrees = tt
agrees_failed history who call answer agrees = tt

pub agrees_stopped : (history : History) (who : Who) (call : Deed) (answer : ActAnswer) (left : List Left) → Agrees history who call answer
    → Agrees history who call (Stopped left)
agrees_stopped history who (ReadsLog path part at max) answer left agrees = tt
agrees_stopped history who (AsksNewest path) answer left agrees = tt
agrees_stopped history who (GrowsLog path piece) answer left agrees = tt
agrees_stopped history who (Creates name) answer left agrees = tt
agrees_stopped history who (Appends name piece) answer left agrees = tt
agrees_stopped history who (Syncs name) answer left agrees = tt
agrees_stopped history who (Renames old new) answer left agrees = tt
agrees_stopped history who (Removes name) answer left agrees = tt
agrees_stopped history who (Cuts name n) answer left agrees = tt
agrees_stopped history who (AsksSize name) answer left agrees = tt
agrees_stopped history who (Reads name at max) answer left agrees = tt
agrees_stopped history who (Lists folder) answer left agrees = tt
agrees_stopped history who (Sends n address bytes) answer left agrees = (agrees.0, tt)
agrees_stopped history who (Gets m) answer left agrees = tt
agrees_stopped history who (Takes door wait) answer left agrees = tt
agrees_stopped history who (TakesMore t) answer left agrees = tt
agrees_stopped history who call answer left agrees = tt

-- what a call asks for, as a step reads it
abbrev pub deed_asked : Asked → Deed
deed_asked q = deed_by q.call q.words q.number q.max

-- steps of others and then the call's own
pub acted_adds : (q : Asked) (answer : ActAnswer) (act : Act) (start now next : History) (R : History → History → Type 0)
    → act ≡ act_of q answer → Agrees now q.who (deed_asked q) answer → is_stopped start ≡ false
    → TheirsSince start now → GoesOn act now next
    → ((added : History) → Acted q answer added start → R added start) → Adds (Some start) (Some next) R
acted_adds q answer act start now next R act_is agrees running since goes gives =
    let own : Step = own_step q answer goes.files goes.logs in
    let is : record { own = true; act = act; files = goes.files; logs = goes.logs } ≡ own =
    ap (λ (a : Act). let s : Step = record { own = true; act = a; files = goes.files; logs = goes.logs } in s) act_is in
    let honest : Honest now own = record { modelled = subst (Modelled now) is goes.modelled; agrees = agrees } in
    let told : next ≡ (own ∷ since.added) ++ start =
    goes.goes_on ∙ ap (λ s. s ∷ now) is ∙ ap (λ h. own ∷ h) since.goes_on in
    let acted : Acted q answer (own ∷ since.added) start = record {
      others = since.added;
      files = goes.files;
      logs = goes.logs;
      added_is = refl;
      running = running;
      theirs = since.theirs;
      honest = subst (λ (h : History). Honest h own) since.goes_on honest;
    } in
    record {
      told = λ history e.
          let same : start ≡ history = cc in (
            own ∷ since.added,
            ap (λ (h : History). Some h) (told ∙ ap (λ h. (own ∷ since.added) ++ h) same),
            subst (R (own ∷ since.added)) same (gives (own ∷ since.added) acted),
          );
      untold = λ e. absurd (cc);
    }

-- only others acted
theirs_add : (start now : History) (R : History → History → Type 0) → TheirsSince start now
    → ((added : History) → Every IsTheirs added start → R added start) → Adds (Some start) (Some now) R
theirs_add start now R since gives =
    record {
      told = λ history e.
          let same : start ≡ history = cc in (
            since.added,
            ap (λ (h : History). Some h) (since.goes_on ∙ ap (λ h. since.added ++ h) same),
            subst (R since.added) same (gives since.added since.theirs),
          );
      untold = λ e. absurd (cc);
    }

-- a call that ran
runs_so : (q : Asked) (result : Result ActAnswer CallFault) (added start : History) → is_stopped start ≡ false
    → Added q result added start → Calls q result added start
runs_so q result added start running done = record { running = λ e. done; stopped = λ e. absurd (cc) }

-- no memory for the call
pub unmade_call : (q : Asked) (start now : History) → is_stopped start ≡ false → TheirsSince start now
    → Adds (Some start) (Some now) (Calls q (Err NoMemory))
unmade_call q start now running since =
    theirs_add start now (Calls q (Err NoMemory)) since (λ added theirs. runs_so q (Err NoMemory) added start running theirs)

-- a call whose act failed, was stopped or had no memory
pub failed_call : {T : Type 0} (V : Type 0) (q : Asked) (how : T → ActAnswer) (planned : Planned T) (fault : CallFault) (start : History) (s : State) (next : History)
    → is_stopped start ≡ false → TheirsSince start (told_of s.kept) → Plans q how s planned → Becomes {T = V} planned.act (Err fault) (told_of s.kept) next
    → Adds (Some start) (Some next) (Calls q (Err fault))
failed_call V q how planned Failed start s next running since plans (inl goes) =
    acted_adds q (Refused Failed) _ start (told_of s.kept) next (Calls q (Err Failed)) (ap (λ a. with_answer a (Refused Failed)) plans.act_is)
    (agrees_failed (told_of s.kept) q.who (deed_asked q) planned.act.answer plans.agrees) running since goes
    (λ added acted. runs_so q (Err Failed) added start running (inl acted))
failed_call V q how planned Failed start s next running since plans (inr stops) =
    acted_adds q (Stopped stops.0) _ start (told_of s.kept) next (Calls q (Err Failed)) (ap (λ a. with_answer a (Stopped stops.0)) plans.act_is)
    (agrees_stopped (told_of s.kept) q.who (deed_asked q) planned.act.answer stops.0 plans.agrees) running since stops.1
    (λ added acted. runs_so q (Err Failed) added start running (inr (stops.0, acted)))
failed_call V q how planned NoMemory start s next running since plans same =
    unmade_call q start next running (subst (λ (h : History). TheirsSince start h) (sym same) since)
failed_call V q how planned Missing start s next running since plans none = absurd none
failed_call V q how planned Exists start s next running since plans none = absurd none
failed_call V q how planned (Short size) start s next running since plans none = absurd none

-- a call that gives what was planned
pub made_call : {T : Type 0} (q : Asked) (how : T → ActAnswer) (act : Act) (gives : Result T CallFault) (start : History) (s : State) (next : History)
    → is_stopped start ≡ false → TheirsSince start (told_of s.kept) → Plans q how s (planned_as act gives) → GoesOn act (told_of s.kept) next
    → Adds (Some start) (Some next) (Calls q (answered how gives))
made_call q how act (Ok value) start s next running since plans goes =
    acted_adds q (how value) act start (told_of s.kept) next (Calls q (Ok (how value)))
    (plans.act_is ∙ ap (act_of q) plans.answers) (subst (Agrees (told_of s.kept) q.who (deed_asked q)) plans.answers plans.agrees) running since goes
    (λ added acted. runs_so q (Ok (how value)) added start running acted)
made_call q how act (Err Failed) start s next running since plans goes = absurd plans.answers
made_call q how act (Err NoMemory) start s next running since plans goes = absurd plans.answers
made_call q how act (Err Missing) start s next running since plans goes =
    acted_adds q (Refused Missing) act start (told_of s.kept) next (Calls q (Err Missing))
    (plans.act_is ∙ ap (act_of q) plans.answers) (subst (Agrees (told_of s.kept) q.who (deed_asked q)) plans.answers plans.agrees) running since goes
    (λ added acted. runs_so q (Err Missing) added start running acted)
made_call q how act (Err Exists) start s next running since plans goes =
    acted_adds q (Refused Exists) act start (told_of s.kept) next (Calls q (Err Exists))
    (plans.act_is ∙ ap (act_of q) plans.answers) (subst (Agrees (told_of s.kept) q.who (deed_asked q)) plans.answers plans.agrees) running since goes
    (λ added acted. runs_so q (Err Exists) added start running acted)
made_call q how act (Err (Short size)) start s next running since plans goes =
    acted_adds q (Refused (Short size)) act start (told_of s.kept) next (Calls q (Err (Short size)))
    (plans.act_is ∙ ap (act_of q) plans.answers) (subst (Agrees (told_of s.kept) q.who (deed_asked q)) plans.answers plans.agrees) running since goes
    (λ added acted. runs_so q (Err (Short size)) added start running acted)

-- a call that didn't begin: after a stop, or for want of memory
pub unbegun_call : (V : Type 0) (q : Asked) (fault : CallFault) (start now : History) → Begins {T = V} (Err fault) start now
    → Adds (Some start) (Some now) (Calls q (Err fault))
unbegun_call V q Failed start now begins =
    record {
      told = λ history e.
          let same : start ≡ history = cc in (
            [],
            ap (λ (h : History). Some h) (begins.1 ∙ same),
            subst (λ (h : History). Calls q (Err Failed) [] h) same
                (record { running = λ runs. absurd (false≢true (sym runs ∙ begins.0)); stopped = λ _. (refl, refl) }),
          );
      untold = λ e. absurd (cc);
    }
unbegun_call V q NoMemory start now begins = unmade_call q start now begins.0 begins.1
unbegun_call V q Missing start now begins = absurd begins
unbegun_call V q Exists start now begins = absurd begins
unbegun_call V q (Short size) start now begins = absurd begins

-- the same for a call of which a number is not known before
pub some_number : {old new : Option History} (q : ℕ → Asked) (result : ℕ → Result ActAnswer CallFault) (n : ℕ)
    → Adds old new (Calls (q n) (result n)) → Adds old new (CallsSome q result)
some_number q result n adds = adds_as (CallsSome q result) adds (λ added history calls. (n, calls))

-- what others do stops no own act
pub runs_on : (start now : History) → TheirsSince start now → is_stopped start ≡ false → is_stopped now ≡ false
runs_on start now since running = ap is_stopped since.goes_on ∙ theirs_run since.added start since.theirs running

-- why a call failed that had raised no count before
pub cause_since : (V : Type 0) (start before now : ℕ) (fault : CallFault) → before ≡ start
    → CauseOf {T = V} before now (Err fault) → CauseOf {T = V} start now (Err fault)
cause_since V start before now fault same cause = subst (λ (n : ℕ). CauseOf {T = V} n now (Err fault)) same cause

-- a call that gives what was planned raises no count
pub cause_made : {T : Type 0} (q : Asked) (how : T → ActAnswer) (act : Act) (gives : Result T CallFault) (s : State) (before now : ℕ)
    → Plans q how s (planned_as act gives) → now ≡ before → CauseOf before now gives
cause_made q how act (Ok value) s before now plans same = same
cause_made q how act (Err Failed) s before now plans same = absurd plans.answers
cause_made q how act (Err NoMemory) s before now plans same = absurd plans.answers
cause_made q how act (Err Missing) s before now plans same = same
cause_made q how act (Err Exists) s before now plans same = same
cause_made q how act (Err (Short size)) s before now plans same = same

-- a call that didn't begin failed, or had no memory
pub may_unbegun : {T : Type 0} (V : Type 0) (may : Result T CallFault → Type 0) (fault : CallFault) (start now : History)
    → may (Err Failed) → may (Err NoMemory) → Begins {T = V} (Err fault) start now → may (Err fault)
may_unbegun V may Failed start now fail want begins = fail
may_unbegun V may NoMemory start now fail want begins = want
may_unbegun V may Missing start now fail want begins = absurd begins
may_unbegun V may Exists start now fail want begins = absurd begins
may_unbegun V may (Short size) start now fail want begins = absurd begins

-- a call whose act wasn't made failed, or had no memory
pub may_unmade : {T : Type 0} (V : Type 0) (may : Result T CallFault → Type 0) (act : Act) (fault : CallFault) (before now : History)
    → may (Err Failed) → may (Err NoMemory) → Becomes {T = V} act (Err fault) before now → may (Err fault)
may_unmade V may act Failed before now fail want becomes = fail
may_unmade V may act NoMemory before now fail want becomes = want
may_unmade V may act Missing before now fail want becomes = absurd becomes
may_unmade V may act Exists before now fail want becomes = absurd becomes
may_unmade V may act (Short size) before now fail want becomes = absurd becomes

-- what was planned loses nothing
pub plan_loses : {T : Type 0} (q : Asked) (how : T → ActAnswer) (s : State) (planned : Planned T) → Plans q how s planned
    → LosesNothing s.repeats.numbers (told_of s.kept) planned.act.who (deed planned.act) planned.act.answer
plan_loses q how s planned plans =
    subst (λ (a : Act). LosesNothing s.repeats.numbers (told_of s.kept) a.who (deed a) planned.act.answer) (sym plans.act_is) plans.loses
