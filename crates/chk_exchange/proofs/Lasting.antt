-- Which call of an exchange failed last, and that none did.
use Rattle.std.proofs.Common.{◌≡◌, ◌≢◌, ◌⊎◌, inl, inr, ℕ, Bool, true, false, List, [], ◌∷◌, ◌++◌, Option, Result, Ok, Err, refl, ap, sym, subst, ◌∙◌, append_assoc, true≢false, if◌then◌else◌}
use Rattle.chk_site.specs.declared.acts.Act.{Act}
use Rattle.chk_site.specs.declared.acts.Call.{Call}
use Rattle.chk_site.specs.declared.acts.Call.TheVariants.{Got, Answer}
use Rattle.chk_site.specs.declared.acts.CallFault.{CallFault}
use Rattle.chk_site.specs.declared.acts.CallFault.TheVariants.{Failed, Missing, Exists, Short, NoMemory as no_memory}
use Rattle.chk_site.specs.declared.acts.OutsideFault.TheVariants.{Outside as site_failed}
use Rattle.chk_site.specs.declared.acts.ActAnswer.{ActAnswer}
use Rattle.chk_site.specs.declared.acts.ActAnswer.TheVariants.{Refused as act_refused}
use Rattle.chk_site.specs.History.{Step, History, Every, IsTheirs, is_stopped}
use Rattle.chk_site.specs.Site.{Adds, Asked, own_step, answered, Calls, CallsSome, EndsIn, WasDone}
use Rattle.chk_site.specs.Runs.{Owns, own_acts}
use Rattle.chk_site.proofs.LastCalls.{ended_last}
use Rattle.chk_site.proofs.Runs.{adds_then, adds_as, every_join, ran}
use Rattle.chk_world.specs.Works.{NoneFailed}
use Rattle.chk_exchange.specs.declared.fault.ExchangeFault.{ExchangeFault}
use Rattle.chk_exchange.specs.declared.fault.ExchangeFault.TheVariants.{Outside, NoMemory, Damaged, Spent, Refused}
use Rattle.chk_exchange.specs.Faults.{EndsBy, FailedNewest, FailedInside, FailsLast}
use Rattle.chk_world.proofs.Working.{theirs_fine}

-- ---- the acts of a call

theirs_none : (added history : History) → Every IsTheirs added history → own_acts added ≡ []
theirs_none [] history theirs = refl
theirs_none (step ∷ added) history theirs =
    ap (λ t. if t then step.act ∷ own_acts added else own_acts added) theirs.1.0
    ∙ theirs_none added history theirs.0

own_join : (b a : History) → own_acts (b ++ a) ≡ own_acts b ++ own_acts a
own_join [] a = refl
own_join (step ∷ b) a = go step.own (own_join b a)
  where
    go : (t : Bool) → own_acts (b ++ a) ≡ own_acts b ++ own_acts a
        → (if t then step.act ∷ own_acts (b ++ a) else own_acts (b ++ a))
        ≡ (if t then step.act ∷ own_acts b else own_acts b) ++ own_acts a
    go true rest = ap (λ l. step.act ∷ l) rest
    go false rest = rest

-- of a call that was answered, one act is the site's own
pub record IsOneAct (call : Call) (added history : History) : Type 0 where
  pub act : Act
  pub acts : own_acts added ≡ act ∷ []
  pub of : act.call ≡ call
  pub running : is_stopped history ≡ false

one_act : (q : Asked) (answer : ActAnswer) (added history : History)
    → Calls q (Ok answer) added history
    → IsOneAct q.call added history
one_act q answer added history calls =
    let acted = ran (Ok answer) (λ e. cc) calls in
    let step = own_step q answer acted.files acted.logs in
    record {
      act = step.act;
      acts = ap own_acts acted.added_is
          ∙ ap (λ l. step.act ∷ l) (theirs_none acted.others history acted.theirs);
      of = refl;
      running = acted.running;
    }

-- ---- the failure of a call stays the last one

last_late : {T : Type 0} (result : Result T ExchangeFault) (b a history : History)
    → FailsLast result b (a ++ history)
    → FailsLast result (b ++ a) history
last_late (Ok value) b a history last = tt
last_late {T = T} (Err (Outside call)) b a history last = λ running.
    go (last (subst (λ (h : History). is_stopped h ≡ false) (append_assoc b a history) running))
  where
    newest : (b : History) → EndsIn call b → EndsIn call (b ++ a)
    newest [] ends = absurd ends
    newest (step ∷ b) ends = ends

    failed : (xs ys : List Act) → FailedNewest call xs → FailedNewest call (xs ++ ys)
    failed [] ys f = absurd f
    failed (x ∷ xs) ys f = f

    inside : (xs ys : List Act) → FailedInside call xs → FailedInside call (xs ++ ys)
    inside [] ys f = absurd f
    inside (x ∷ []) ys f = absurd f
    inside (x ∷ y ∷ xs) ys f = (f.0, f.1, failed xs ys f.2)

    go : EndsIn call b ⊎ FailedInside call (own_acts b)
        → EndsIn call (b ++ a) ⊎ FailedInside call (own_acts (b ++ a))
    go (inl ends) = inl (newest b ends)
    go (inr f) =
        inr (subst (FailedInside call) (sym (own_join b a)) (inside (own_acts b) (own_acts a) f))
last_late (Err NoMemory) b a history last = tt
last_late (Err (Damaged name at)) b a history last = tt
last_late (Err (Spent number)) b a history last = tt
last_late (Err (Refused code)) b a history last = tt

pub last_then : {T : Type 0} (result : Result T ExchangeFault) {P : History → History
    → Type 0} {old mid new : Option History}
    → Adds old mid P → Adds mid new (FailsLast result) → Adds old new (FailsLast result)
last_then result p q =
    adds_then (FailsLast result) p q (λ a b history x y. last_late result b a history y)

-- a call that ended the exchange
ended_so : (T : Type 0) {V : Type 0} (q : Asked) (how : V
    → ActAnswer) (given : Result V CallFault) (fault : ExchangeFault)
    (added history : History) → EndsBy q.call given fault
    → Calls q (answered how given) added history
    → FailsLast {T = T} (Err fault) added history
ended_so T q how (Ok value) fault added history ends calls = absurd ends
ended_so T q how (Err Failed) fault added history ends calls =
    subst (λ f. FailsLast {T = T} (Err f) added history) (sym ends)
    (λ running. inl (ended_last T {q = q} how (Err Failed) (site_failed q.call) refl calls running))
ended_so T q how (Err Missing) fault added history ends calls = absurd ends
ended_so T q how (Err Exists) fault added history ends calls = absurd ends
ended_so T q how (Err (Short size)) fault added history ends calls = absurd ends
ended_so T q how (Err no_memory) fault added history ends calls =
    subst (λ f. FailsLast {T = T} (Err f) added history) (sym ends) tt

pub ended : (T : Type 0) {V : Type 0} (q : Asked) (how : V
    → ActAnswer) (given : Result V CallFault) (fault : ExchangeFault)
    → EndsBy q.call given fault → {old new : Option History}
    → Adds old new (Calls q (answered how given))
    → Adds old new (FailsLast {T = T} (Err fault))
ended T q how given fault ends call =
    adds_as (FailsLast {T = T} (Err fault)) call
    (λ added history calls. ended_so T q how given fault added history ends calls)

pub ended_some : (T : Type 0) {V : Type 0} (call : Call) (q : ℕ → Asked)
    → ((n : ℕ) → (q n).call ≡ call)
    → (how : ℕ → V → ActAnswer) (given : Result V CallFault) (fault : ExchangeFault)
    → EndsBy call given fault
    → {old new : Option History} → Adds old new (CallsSome q (λ n. answered (how n) given))
    → Adds old new (FailsLast {T = T} (Err fault))
ended_some T call q same how given fault ends calls =
    adds_as (FailsLast {T = T} (Err fault)) calls
    (λ added history c.
    ended_so T (q c.0) (how c.0) given fault added history
    (subst (λ k. EndsBy k given fault) (sym (same c.0)) ends) c.1)

-- the newest act is an answer, and the one before it the failure of the call
record FailedBefore (call : Call) (added history : History) : Type 0 where
  act : Act
  earlier : List Act
  acts : own_acts added ≡ act ∷ earlier
  of : act.call ≡ Answer
  failed : FailedNewest call earlier

-- what failed before an answer was given and got
pub failed_inside : (T : Type 0) (call : Call) (a g : Asked) → a.call ≡ Answer → g.call ≡ Got
    → (answer got : ActAnswer)
    → {old mid next new : Option History}
    → Adds old mid (λ added history. is_stopped (added ++ history) ≡ false → EndsIn call added)
    → Adds mid next (Calls a (Ok answer)) → Adds next new (Calls g (Ok got))
    → Adds old new (FailsLast {T = T} (Err (Outside call)))
failed_inside T call a g is_answer is_got answer got failed answers gets =
    adds_then (FailsLast {T = T} (Err (Outside call)))
    (adds_then (FailedBefore call) failed answers
    (λ x y history f calls.
    let one = one_act a answer y (x ++ history) calls in
    record {
      act = one.act;
      earlier = own_acts x;
      acts = own_join y x ∙ ap (λ l. l ++ own_acts x) one.acts;
      of = one.of ∙ is_answer;
      failed = newest x (f one.running);
    }))
    gets
    (λ x y history before calls running.
    let one = one_act g got y (x ++ history) calls in
    let acts : own_acts (y ++ x) ≡ one.act ∷ before.act ∷ before.earlier =
    own_join y x ∙ (ap (λ l. l ++ own_acts x) one.acts ∙ ap (λ l. one.act ∷ l) before.acts) in
    inr (subst (FailedInside call) (sym acts) (one.of ∙ is_got, before.of, before.failed)))
  where
    newest : (x : History) → EndsIn call x → FailedNewest call (own_acts x)
    newest [] ends = absurd ends
    newest (step ∷ x) ends = rw ends.0 (ends.1, ends.2)

-- ---- no call failed

abbrev Fine : History → Step → Type 0
Fine before step = step.act.answer ≢ act_refused Failed

call_fine : (q : Asked) (answer : ActAnswer) (added history : History) → WasDone answer
    → Calls q (Ok answer) added history
    → NoneFailed added history
call_fine q answer added history was calls =
    let acted = ran (Ok answer) (λ e. cc) calls in
    subst (λ (a : History). NoneFailed a history) (sym acted.added_is)
    (theirs_fine acted.others history acted.theirs, λ own e. subst WasDone e was)

pub fine : (q : Asked) (answer : ActAnswer) → WasDone answer → {old new : Option History}
    → Adds old new (Calls q (Ok answer))
    → Adds old new NoneFailed
fine q answer was call =
    adds_as NoneFailed call (λ added history calls. call_fine q answer added history was calls)

pub fine_some : (q : ℕ → Asked) (answer : ℕ → ActAnswer) → ((n : ℕ) → WasDone (answer n))
    → {old new : Option History}
    → Adds old new (CallsSome q (λ n. Ok (answer n))) → Adds old new NoneFailed
fine_some q answer was calls =
    adds_as NoneFailed calls
    (λ added history c. call_fine (q c.0) (answer c.0) added history (was c.0) c.1)

pub fine_then : {old mid new : Option History} → Adds old mid NoneFailed → Adds mid new NoneFailed
    → Adds old new NoneFailed
fine_then p q =
    adds_then NoneFailed p q (λ a b history x y. every_join (λ before step. step.own ≡ true
    → Fine before step) b a history x y)

pub fine_none : {old new : Option History} → Adds old new (λ added history. added ≡ [])
    → Adds old new NoneFailed
fine_none told =
    adds_as NoneFailed told
    (λ added history e. subst (λ (a : History). NoneFailed a history) (sym e) tt)
