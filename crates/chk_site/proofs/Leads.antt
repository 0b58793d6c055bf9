-- How what calls lead to joins.
use Rattle.std.proofs.Common.{◌≡◌, inl, inr, Bool, true, false, List, [], ◌∷◌, ◌++◌, Ok, Err, Option, Result, refl, sym, subst, ◌∙◌, append_assoc, true≢false}
use Rattle.chk_site.specs.declared.lists.Left.{Left}
use Rattle.chk_site.specs.declared.acts.OutsideFault.{OutsideFault}
use Rattle.chk_site.specs.declared.acts.OutsideFault.TheVariants.{Outside, NoMemory as no_memory}
use Rattle.chk_site.specs.declared.acts.CallFault.{CallFault}
use Rattle.chk_site.specs.declared.acts.CallFault.TheVariants.{Failed, Missing, Exists, Short, NoMemory}
use Rattle.chk_site.specs.declared.acts.ActAnswer.{ActAnswer}
use Rattle.chk_site.specs.declared.acts.ActAnswer.TheVariants.{Refused, Stopped}
use Rattle.chk_site.specs.Files.{Files}
use Rattle.chk_site.specs.Logs.{Logs}
use Rattle.chk_site.specs.History.{Step, History, Every, Others, IsTheirs, is_stopped}
use Rattle.chk_site.specs.Honest.{Honest}
use Rattle.chk_site.specs.Site.{Adds, Asked, own_step, answered, plain, Acted, Added, Calls, IsDone, Ends, WasDone, IsTaken, Took}
use Rattle.chk_site.specs.Runs.{Side, Owns, Leads, MadeInTurn, finished, unbegun, went_on, ended}
use Rattle.chk_site.proofs.Runs.{adds_then, adds_as, adds_none, every_join, every_early, every_late, ran, done_answer, taken_answer}

-- one after the other
pub leads_then : {S : Side} {A B C : History → Type 0} {old mid new : Option History}
    → Adds old mid (Leads S A B) → Adds mid new (Leads S B C) → Adds old new (Leads S A C)
leads_then {S = S} {A = A} {C = C} p q =
    let O : History → Step → Type 0 = λ before step. step.own ≡ false → S.others before step in
    let M : History → Step → Type 0 = λ before step. step.own ≡ true → S.own before step in
    adds_then (Leads S A C) p q
    (λ a b history x y. record {
      leads =
          λ s h.
          let middle = x.leads (every_early O b a history s) h in
          subst C (sym (append_assoc b a history)) (y.leads (every_late O b a history s) middle);
      own = every_join M b a history x.own y.own;
    })

-- from more to less
pub leads_as : {S : Side} {A A' B B' : History → Type 0} {old new : Option History}
    → ((h : History) → A' h → A h) → ((h : History) → B h → B' h)
    → Adds old new (Leads S A B) → Adds old new (Leads S A' B')
leads_as {S = S} {A' = A'} {B' = B'} first last p =
    adds_as (Leads S A' B') p
    (λ a history x. record { leads = λ s h. last (a ++ history) (x.leads s (first history h)); own = x.own })

-- no call
pub leads_none : {S : Side} {A B : History → Type 0} (now : Option History)
    → ((h : History) → A h → B h) → Adds now now (Leads S A B)
leads_none {S = S} {A = A} {B = B} now as_is =
    adds_none now (Leads S A B) (λ history. record { leads = λ s h. as_is history h; own = tt })

-- a step of others that is as supposed keeps A
abbrev pub Keeps : (History → Step → Type 0) → (History → Type 0) → Type 0
Keeps S A = (before : History) (step : Step) → IsTheirs before step → S before step → A before → A (step ∷ before)

-- steps of others keep A
theirs_lead : {S : History → Step → Type 0} {A : History → Type 0} (added history : History)
    → Keeps S A → Every IsTheirs added history → Others S added history → A history → A (added ++ history)
theirs_lead [] history keeps theirs s h = h
theirs_lead (step ∷ added) history keeps theirs s h =
    keeps (added ++ history) step theirs.1 (s.1 theirs.1.0)
    (theirs_lead added history keeps theirs.0 s.0 h)

-- what others do doesn't stop the site
pub theirs_run : (added history : History) → Every IsTheirs added history
    → is_stopped history ≡ false → is_stopped (added ++ history) ≡ false
theirs_run [] history theirs running = running
theirs_run (step ∷ added) history theirs running =
    rw theirs.1.0 (theirs_run added history theirs.0 running)

-- what the own step of a call has to show: from A, with this answer, it leads to B
abbrev pub Shows : (History → Type 0) → (History → Type 0) → Asked → ActAnswer → Type 0
Shows A B q answer =
    (before : History) (files : Files) (logs : Logs)
    → is_stopped before ≡ false → Honest before (own_step q answer files logs) → A before
    → B (own_step q answer files logs ∷ before)

-- steps of others and then the call's own
pub acted_leads : {S : History → Step → Type 0} {A : History → Type 0} (B : History → Type 0) {q : Asked}
    {answer : ActAnswer} {added history : History}
    → Keeps S A → Shows A B q answer
    → Acted q answer added history → Others S added history → A history → B (added ++ history)
acted_leads {S = S} {A = A} B {history = history} keeps mine acted =
    subst (λ (a : History). Others S a history → A history → B (a ++ history)) (sym acted.added_is)
    (λ s h. mine (acted.others ++ history) acted.files acted.logs
    (theirs_run acted.others history acted.theirs acted.running) acted.honest
    (theirs_lead acted.others history keeps acted.theirs s.0 h))

theirs_owned : (P : History → Step → Type 0) (added history : History) → Every IsTheirs added history → Owns P added history
theirs_owned P [] history theirs = tt
theirs_owned P (step ∷ added) history theirs = (
  theirs_owned P added history theirs.0,
  λ own. absurd (true≢false (sym own ∙ theirs.1.0)),
)

-- each own step of such a call has P, which the site makes while it isn't stopped
abbrev pub Owned : (History → Step → Type 0) → Asked → Type 0
Owned P q =
    (before : History) (answer : ActAnswer) (files : Files) (logs : Logs)
    → is_stopped before ≡ false → P before (own_step q answer files logs)

acted_owned : (P : History → Step → Type 0) {q : Asked} {answer : ActAnswer} {added history : History} → Owned P q
    → Acted q answer added history → Owns P added history
acted_owned P {answer = answer} {history = history} by acted =
    subst (λ (a : History). Owns P a history) (sym acted.added_is) (
      theirs_owned P acted.others history acted.theirs,
      λ own.
          by (acted.others ++ history) answer acted.files acted.logs
          (theirs_run acted.others history acted.theirs acted.running),
    )

added_owned : (P : History → Step → Type 0) {q : Asked} (result : Result ActAnswer CallFault) (added history : History)
    → Owned P q → Added q result added history → Owns P added history
added_owned P (Ok answer) added history by a = acted_owned P by a
added_owned P (Err NoMemory) added history by a = theirs_owned P added history a
added_owned P (Err Failed) added history by (inl a) = acted_owned P by a
added_owned P (Err Failed) added history by (inr a) = acted_owned P by a.1
added_owned P (Err Missing) added history by a = acted_owned P by a
added_owned P (Err Exists) added history by a = acted_owned P by a
added_owned P (Err (Short size)) added history by a = acted_owned P by a

-- what the site itself adds by a call
pub call_owned : (P : History → Step → Type 0) {q : Asked} (result : Result ActAnswer CallFault) {added history : History}
    → Owned P q → Calls q result added history → Owns P added history
call_owned P {q = q} result {added = added} {history = history} by calls =
    let M : History → Type 0 = λ a. Owns P a history in
    let go : (b : Bool) → is_stopped history ≡ b → M added =
    λ b. elim b as (λ b. is_stopped history ≡ b → M added) [
      | true ↦ λ e. subst M (sym (calls.stopped e).0) tt
      | false ↦ λ e. added_owned P result added history by (calls.running e)
    ] in
    go (is_stopped history) refl

-- each of these calls is such a one
abbrev pub AllOwned : (History → Step → Type 0) → List Asked → Type 0
AllOwned P [] = Unit {0}
AllOwned P (q ∷ qs) = Owned P q × AllOwned P qs

-- what the site itself adds by a script
pub script_owned : (P : History → Step → Type 0) {qs : List Asked} {result : Result (Unit {0}) OutsideFault} {old new : Option History}
    → AllOwned P qs → MadeInTurn qs result old new → Adds old new (Owns P)
script_owned P all finished = adds_none _ (Owns P) (λ history. tt)
script_owned P all unbegun = adds_none _ (Owns P) (λ history. tt)
script_owned P all (went_on given is told script) =
    adds_then (Owns P) (adds_as (Owns P) told (λ added history calls. call_owned P (answered plain given) all.0 calls)) (script_owned P all.1 script)
    (λ a b history x y. every_join (λ before step. step.own ≡ true → P before step) b a history x y)
script_owned P all (ended given is told) = adds_as (Owns P) told (λ added history calls. call_owned P (answered plain given) all.0 calls)

-- where nothing is promised of them
pub owned_anyhow : (added history : History) → Owns (λ before step. Unit {0}) added history
owned_anyhow [] history = tt
owned_anyhow (step ∷ added) history = (owned_anyhow added history, λ own. tt)

-- a call that was done, or refused for the state of the files
pub done_leads : {S : Side} {A B : History → Type 0} {V : Type 0} {q : Asked}
    {old new : Option History} (given : Result V CallFault)
    → Owned S.own q → IsDone given → Keeps S.others A → ((answer : ActAnswer) → WasDone answer → Shows A B q answer)
    → Adds old new (Calls q (answered plain given)) → Adds old new (Leads S A B)
done_leads {S = S} {A = A} {B = B} given by fine keeps mine told =
    adds_as (Leads S A B) told
    (λ added history calls.
    let acted = done_answer given fine calls in
    record { leads = acted_leads B keeps (mine acted.0 acted.1) acted.2; own = call_owned S.own (answered plain given) by calls })

-- a call with a result that is no want of memory and no failure
pub ok_leads : {S : Side} {A B : History → Type 0} {q : Asked} {old new : Option History}
    (answer : ActAnswer) → Owned S.own q → Keeps S.others A → Shows A B q answer
    → Adds old new (Calls q (Ok answer)) → Adds old new (Leads S A B)
ok_leads {S = S} {A = A} {B = B} answer by keeps mine told =
    adds_as (Leads S A B) told
    (λ added history calls. record { leads = acted_leads B keeps mine (ran (Ok answer) (λ e. cc) calls); own = call_owned S.own (Ok answer) by calls })

-- the creation of a file that is there
pub exists_leads : {S : Side} {A B : History → Type 0} {q : Asked} {old new : Option History}
    → Owned S.own q → Keeps S.others A → Shows A B q (Refused Exists)
    → Adds old new (Calls q (Err Exists)) → Adds old new (Leads S A B)
exists_leads {S = S} {A = A} {B = B} by keeps mine told =
    adds_as (Leads S A B) told
    (λ added history calls. record { leads = acted_leads B keeps mine (ran (Err Exists) (λ e. cc) calls); own = call_owned S.own (Err Exists) by calls })

-- a call that gave something, or was refused for the state of the files
pub taken_leads : {S : Side} {A B : History → Type 0} {V : Type 0} {q : Asked}
    {old new : Option History} (how : V → ActAnswer) (given : Result V CallFault) (taken : Option V)
    → Owned S.own q → IsTaken given taken → Keeps S.others A
    → ((answer : ActAnswer) → Took how taken answer → Shows A B q answer)
    → Adds old new (Calls q (answered how given)) → Adds old new (Leads S A B)
taken_leads {S = S} {A = A} {B = B} how given taken by is keeps mine told =
    adds_as (Leads S A B) told
    (λ added history calls.
    let acted = taken_answer how given taken is calls in
    record { leads = acted_leads B keeps (mine acted.0 acted.1) acted.2; own = call_owned S.own (answered how given) by calls })

-- what a call that failed may have added: its failure or stop, or after a stop nothing
pub failed_leads : {S : History → Step → Type 0} {A : History → Type 0} (B : History → Type 0) {q : Asked}
    {added history : History}
    → Keeps S A → Shows A B q (Refused Failed) → ((left : List Left) → Shows A B q (Stopped left))
    → ((before : History) → is_stopped before ≡ true → A before → B before)
    → Calls q (Err Failed) added history → Others S added history → A history → B (added ++ history)
failed_leads {S = S} {A = A} B {q = q} {added = added} {history = history} keeps failed stopped after_stop calls =
    let O : History → Type 0 = λ a. Others S a history → A history → B (a ++ history) in
    let by : (b : Bool) → is_stopped history ≡ b → O added =
    λ b. elim b as (λ b. is_stopped history ≡ b → O added) [
      | true ↦ λ e. subst O (sym (calls.stopped e).0) (λ s h. after_stop history e h)
      | false ↦ λ e. elim (calls.running e) [
        | inl a ↦ acted_leads B keeps failed a
        | inr s ↦ acted_leads B keeps (stopped s.0) s.1
      ]
    ] in
    by (is_stopped history) refl

-- where there was no memory, at most others acted
pub unmade_leads : {S : History → Step → Type 0} {A : History → Type 0} (B : History → Type 0) {q : Asked}
    {added history : History}
    → Keeps S A → ((before : History) → A before → B before)
    → Calls q (Err NoMemory) added history → Others S added history → A history → B (added ++ history)
unmade_leads {S = S} {A = A} B {added = added} {history = history} keeps nothing calls =
    let O : History → Type 0 = λ a. Others S a history → A history → B (a ++ history) in
    let by : (b : Bool) → is_stopped history ≡ b → O added =
    λ b. elim b as (λ b. is_stopped history ≡ b → O added) [
      | true ↦ λ e. subst O (sym (calls.stopped e).0) (λ s h. nothing history h)
      | false ↦ λ e s h. nothing (added ++ history) (theirs_lead added history keeps (calls.running e) s h)
    ] in
    by (is_stopped history) refl

-- a call that ended the work: its failure or stop, or nothing
pub ends_leads : {S : Side} {A : History → Type 0} {V : Type 0} {q : Asked}
    {old new : Option History} (B : OutsideFault → History → Type 0) (how : V → ActAnswer)
    (given : Result V CallFault) (fault : OutsideFault)
    → Owned S.own q → Ends q.call given fault → Keeps S.others A
    → Shows A (B (Outside q.call)) q (Refused Failed)
    → ((left : List Left) → Shows A (B (Outside q.call)) q (Stopped left))
    → ((before : History) → is_stopped before ≡ true → A before → B (Outside q.call) before)
    → ((before : History) → A before → B no_memory before)
    → Adds old new (Calls q (answered how given)) → Adds old new (Leads S A (B fault))
ends_leads B how (Ok value) fault by ends keeps failed stopped after_stop nothing told = absurd ends
ends_leads {S = S} {A = A} {q = q} {old = old} {new = new} B how (Err Failed) fault by ends keeps failed stopped after_stop nothing told =
    subst (λ (f : OutsideFault). Adds old new (Leads S A (B f))) (sym ends)
    (adds_as (Leads S A (B (Outside q.call))) told
    (λ added history calls. record { leads = failed_leads (B (Outside q.call)) keeps failed stopped after_stop calls; own = call_owned S.own (Err Failed) by calls }))
ends_leads B how (Err Missing) fault by ends keeps failed stopped after_stop nothing told = absurd ends
ends_leads B how (Err Exists) fault by ends keeps failed stopped after_stop nothing told = absurd ends
ends_leads B how (Err (Short size)) fault by ends keeps failed stopped after_stop nothing told = absurd ends
ends_leads {S = S} {A = A} {q = q} {old = old} {new = new} B how (Err NoMemory) fault by ends keeps failed stopped after_stop nothing told =
    subst (λ (f : OutsideFault). Adds old new (Leads S A (B f))) (sym ends)
    (adds_as (Leads S A (B no_memory)) told
    (λ added history calls. record { leads = unmade_leads (B no_memory) keeps nothing calls; own = call_owned S.own (Err NoMemory) by calls }))

-- one call of a script and then the rest
pub script_then : {S : Side} {A : History → Type 0} (M : History → Type 0)
    (B : Result (Unit {0}) OutsideFault → History → Type 0) {q : Asked} {qs : List Asked}
    {result : Result (Unit {0}) OutsideFault} {old new : Option History}
    → ((given : Result (Unit {0}) CallFault) (mid : Option History) → IsDone given
    → Adds old mid (Calls q (answered plain given)) → Adds old mid (Leads S A M))
    → ((given : Result (Unit {0}) CallFault) (fault : OutsideFault) → Ends q.call given fault
    → Adds old new (Calls q (answered plain given)) → Adds old new (Leads S A (B (Err fault))))
    → ((h : History) → A h → B (Err no_memory) h)
    → ((mid : Option History) → MadeInTurn qs result mid new → Adds mid new (Leads S M (B result)))
    → MadeInTurn (q ∷ qs) result old new → Adds old new (Leads S A (B result))
script_then M B goes ends nothing rest unbegun = leads_none _ nothing
script_then M B goes ends nothing rest (went_on {mid = mid} given is told script) =
    leads_then (goes given mid is told) (rest mid script)
script_then M B goes ends nothing rest (ended {fault = fault} given is told) = ends given fault is told

-- the end of a script
pub script_end : {S : Side} {A : History → Type 0}
    (B : Result (Unit {0}) OutsideFault → History → Type 0) {result : Result (Unit {0}) OutsideFault}
    {old new : Option History}
    → ((h : History) → A h → B (Err no_memory) h) → ((h : History) → A h → B (Ok tt) h)
    → MadeInTurn [] result old new → Adds old new (Leads S A (B result))
script_end B nothing all finished = leads_none _ all
script_end B nothing all unbegun = leads_none _ nothing

-- what each step keeps, also one of the site's own, as that something once held,
-- stays over calls whose clauses don't speak of it
pub leads_frame : {S : Side} {A B : History → Type 0} {old new : Option History}
    (E : History → Type 0) → ((h : History) (step : Step) → E h → E (step ∷ h))
    → Adds old new (Leads S A B) → Adds old new (Leads S (λ h. A h × E h) (λ h. B h × E h))
leads_frame {S = S} {A = A} {B = B} E keeps told =
    let all : (added history : History) → E history → E (added ++ history) =
    λ added. elim added as (λ added. (history : History) → E history → E (added ++ history)) [
      | [] ↦ λ history e. e
      | step ∷ (rest → more) ↦ λ history e. keeps (rest ++ history) step (more history e)
    ] in
    adds_as (Leads S (λ h. A h × E h) (λ h. B h × E h)) told
    (λ added history x. record { leads = λ s h. (x.leads s h.0, all added history h.1); own = x.own })

-- a call, whatever it answered
pub any_leads : {S : Side} {A : History → Type 0} (B : History → Type 0) {V : Type 0} {q : Asked}
    {old new : Option History} (how : V → ActAnswer) (given : Result V CallFault)
    → Owned S.own q → Keeps S.others A → ((value : V) → Shows A B q (how value)) → ((fault : CallFault) → Shows A B q (Refused fault))
    → ((left : List Left) → Shows A B q (Stopped left)) → ((before : History) → A before → B before)
    → Adds old new (Calls q (answered how given)) → Adds old new (Leads S A B)
any_leads {S = S} {A = A} B how (Ok value) by keeps given refused stopped nothing told =
    adds_as (Leads S A B) told
    (λ added history calls. record { leads = acted_leads B keeps (given value) (ran (Ok (how value)) (λ e. cc) calls); own = call_owned S.own (Ok (how value)) by calls })
any_leads {S = S} {A = A} B how (Err Failed) by keeps given refused stopped nothing told =
    adds_as (Leads S A B) told
    (λ added history calls. record { leads = failed_leads B keeps (refused Failed) stopped (λ before e h. nothing before h) calls; own = call_owned S.own (Err Failed) by calls })
any_leads {S = S} {A = A} B how (Err Missing) by keeps given refused stopped nothing told =
    adds_as (Leads S A B) told
    (λ added history calls. record { leads = acted_leads B keeps (refused Missing) (ran (Err Missing) (λ e. cc) calls); own = call_owned S.own (Err Missing) by calls })
any_leads {S = S} {A = A} B how (Err Exists) by keeps given refused stopped nothing told =
    adds_as (Leads S A B) told
    (λ added history calls. record { leads = acted_leads B keeps (refused Exists) (ran (Err Exists) (λ e. cc) calls); own = call_owned S.own (Err Exists) by calls })
any_leads {S = S} {A = A} B how (Err (Short size)) by keeps given refused stopped nothing told =
    adds_as (Leads S A B) told
    (λ added history calls. record { leads = acted_leads B keeps (refused (Short size)) (ran (Err (Short size)) (λ e. cc) calls); own = call_owned S.own (Err (Short size)) by calls })
any_leads {S = S} {A = A} B how (Err NoMemory) by keeps given refused stopped nothing told =
    adds_as (Leads S A B) told
    (λ added history calls. record { leads = unmade_leads B keeps nothing calls; own = call_owned S.own (Err NoMemory) by calls })
