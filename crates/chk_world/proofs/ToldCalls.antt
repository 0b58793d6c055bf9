-- What a call of a process's own leads to, where the told history is legal and a fact holds.
use Rattle.std.proofs.Common.{◌≡◌, ℕ, Bool, true, false, List, [], ◌∷◌, ◌++◌, Ok, Option, Result, sym, subst, ◌∙◌, refl, true≢false}
use Rattle.std.specs.Prelude.{IsTrue, MatchBool, Some, None}
use Rattle.std.proofs.lemmas.Bool.{and_right}
use Rattle.std.proofs.lemmas.List.{append_cancel_right}
use Rattle.std.proofs.lemmas.Option.{same_Some, none-some}
use Rattle.chk_site.specs.declared.acts.Role.{Role}
use Rattle.chk_site.specs.declared.acts.Role.TheVariants.{Agent, Collector, Job, Writer}
use Rattle.chk_site.specs.declared.acts.Who.{Who}
use Rattle.chk_site.specs.declared.acts.Call.{Call}
use Rattle.chk_site.specs.declared.acts.Call.TheVariants.{Start, Send, Take, More, Answer}
use Rattle.chk_site.specs.declared.acts.CallFault.{CallFault}
use Rattle.chk_site.specs.declared.acts.CallFault.TheVariants.{Failed}
use Rattle.chk_site.specs.declared.acts.OutsideFault.{OutsideFault}
use Rattle.chk_site.specs.declared.acts.OutsideFault.TheVariants.{Outside, NoMemory as no_memory}
use Rattle.chk_site.specs.declared.acts.ActAnswer.{ActAnswer}
use Rattle.chk_site.specs.declared.acts.ActAnswer.TheVariants.{Done, Refused, Stopped, Rotated, Deleted}
use Rattle.chk_site.specs.declared.lists.Left.{Left}
use Rattle.chk_site.specs.Files.{Files}
use Rattle.chk_site.specs.Logs.{Logs}
use Rattle.chk_site.specs.Acts.{Deed, Starts, Sends, Takes, TakesMore, Answers, deed, deed_by, is_done, same_role, same_who}
use Rattle.chk_site.specs.History.{Step, History, files_after, is_stopped}
use Rattle.chk_site.specs.Honest.{Honest}
use Rattle.chk_site.specs.Site.{Adds, Asked, asked, own_step, answered, plain, Calls, CallsSome, IsDone, Ends, WasDone, IsTaken, Took}
use Rattle.chk_site.specs.Runs.{Side, Leads}
use Rattle.chk_site.proofs.Runs.{adds_as}
use Rattle.chk_site.proofs.Leads.{Keeps, Owned, Shows, done_leads, ok_leads, taken_leads, ends_leads}
use Rattle.chk_world.specs.Rules.{Framed, OnlyWritersGrowLogs, OnlyAgentsPost, StartsAfterStop, RoleMay, Obeys, Legal, is_named_so, must_start, starts_anew, stopped_by}
use Rattle.chk_world.specs.Places.{Foreign, As, Making, IsBy, IsMadeBy, AtTold, is_message}
use Rattle.chk_world.proofs.Ends.{bytes_self}
use Rattle.chk_world.proofs.Outcomes.{CameTo, Leaves, went_on, was_stopped}
use Rattle.chk_world.proofs.PlacesStay.{Stays, told_stays}

-- what is asked of a call besides honesty, a good name and a start after a stop
pub record Allowed (stamped : List (List ℕ)) (history : History) (step : Step) : Type 0 where
  pub own_files : Framed step.act.who (files_after history) (deed step.act)
  pub logs : OnlyWritersGrowLogs step.act.who.role (deed step.act)
  pub requests : OnlyAgentsPost step.act.who.role (deed step.act)
  pub rule : RoleMay stamped step.act.who.role history step

-- an answer that is no stop
abbrev pub GoesOn : ActAnswer → Type 0
GoesOn (Stopped left) = ⊥
GoesOn answer = Unit {0}

-- a step that is no stop leaves what its call came to
pub came_on : (call : Deed) (answer : ActAnswer) (before after : Files) → GoesOn answer → Leaves call answer before after → CameTo call (is_done answer) before after
came_on call answer before after goes (went_on no_stop came) = came
came_on call answer before after goes (was_stopped left is middle came tails) = absurd (subst GoesOn is goes)

pub goes_on_done : (answer : ActAnswer) → WasDone answer → GoesOn answer
goes_on_done (Done words number of) was = tt
goes_on_done (Refused fault) was = tt
goes_on_done (Stopped left) was = was
goes_on_done (Rotated suffix) was = tt
goes_on_done (Deleted suffix) was = tt

pub goes_on_taken : {V : Type 0} (how : V → ActAnswer) (taken : Option V) (answer : ActAnswer) → ((value : V) → GoesOn (how value))
    → Took how taken answer → GoesOn answer
goes_on_taken how (Some value) answer goes took = subst GoesOn (sym took) (goes value)
goes_on_taken how None (Done words number of) goes took = tt
goes_on_taken how None (Refused fault) goes took = tt
goes_on_taken how None (Stopped left) goes took = took
goes_on_taken how None (Rotated suffix) goes took = tt
goes_on_taken how None (Deleted suffix) goes took = tt

role_self : (role : Role) → same_role role role ≡ true
role_self Agent = refl
role_self Collector = refl
role_self Job = refl
role_self Writer = refl

pub who_self : (who : Who) → same_who who who ≡ true
who_self who = rw (role_self who.role, bytes_self who.name) refl

pub starts_fine : (who : Who) (history : History) (call : Deed) → must_start who history ≡ false → StartsAfterStop who history call
starts_fine who history Starts e = tt
starts_fine who history call e = and_right (starts_anew who.role) (must_start who history) e

pub acts_on : (who : Who) (own : Bool) (answer : ActAnswer) (earlier : Bool) → own ≡ true → GoesOn answer → stopped_by who own answer earlier ≡ false
acts_on who own (Done words number of) earlier mine goes = rw mine refl
acts_on who own (Refused fault) earlier mine goes = rw mine refl
acts_on who own (Stopped left) earlier mine goes = absurd goes
acts_on who own (Rotated suffix) earlier mine goes = rw mine refl
acts_on who own (Deleted suffix) earlier mine goes = rw mine refl

-- the call sends, takes or answers a message
abbrev pub talks : Deed → Bool
talks (Sends m address bytes) = true
talks (Takes door wait) = true
talks (TakesMore t) = true
talks (Answers t bytes) = true
talks call = false

pub talks_by : (call : Call) (words : List (List ℕ)) (number max : ℕ) → is_message call ≡ talks (deed_by call words number max)
talks_by Send words number max = refl
talks_by Take words number max = refl
talks_by More words number max = refl
talks_by Answer words number max = refl
talks_by call words number max = refl

module _ (stamped : List (List ℕ)) (q : Asked) (named : IsTrue (is_named_so q.who.role q.who.name)) where
  -- the rules allow the call wherever B holds
  abbrev pub MayCall : (History → Type 0) → Type 0
  MayCall B = (before : History) (answer : ActAnswer) (files : Files) (logs : Logs) → Legal stamped before → B before
      → Allowed stamped before (own_step q answer files logs)

  -- the rules allow the call wherever B holds and the step is honest
  abbrev pub MayHonestly : (History → Type 0) → Type 0
  MayHonestly B = (before : History) (answer : ActAnswer) (files : Files) (logs : Logs)
      → Honest before (own_step q answer files logs) → Legal stamped before → B before → Allowed stamped before (own_step q answer files logs)

  honestly : (B : History → Type 0) → MayCall B → MayHonestly B
  honestly B may before answer files logs honest legal h = may before answer files logs legal h

  -- with such an answer the call leads from B to C
  abbrev pub LeavesCall : (History → Type 0) → (ActAnswer → Type 0) → (History → Type 0) → Type 0
  LeavesCall B A C = (before : History) (answer : ActAnswer) (files : Files) (logs : Logs) → A answer
      → Legal stamped (own_step q answer files logs ∷ before) → B before → C (own_step q answer files logs ∷ before)

  abbrev Told : (History → Type 0) → History → Type 0
  Told B history = AtTold stamped q.who B history

  own_obeys : (before : History) (answer : ActAnswer) (files : Files) (logs : Logs) → Honest before (own_step q answer files logs)
      → StartsAfterStop q.who before (deed (own_step q answer files logs).act) → Allowed stamped before (own_step q answer files logs)
      → Obeys stamped before (own_step q answer files logs)
  own_obeys before answer files logs honest starts may = record {
    honest = honest;
    named = named;
    starts = starts;
    own_files = may.own_files;
    logs = may.logs;
    requests = may.requests;
    rule = may.rule;
  }

  pub owned : Owned (Making stamped q.who q.call).own q
  owned before answer files logs running = go (is_message q.call) refl
    where
      go : (b : Bool) → is_message q.call ≡ b
          → MatchBool b (IsMadeBy q.who before (own_step q answer files logs)) (IsBy q.who before (own_step q answer files logs))
      go true e = record { by = refl; running = running }
      go false e = record { by = refl; running = running; quiet = e }

  pub told_keeps : (B : History → Type 0) → Stays stamped q.who B → Keeps (Foreign stamped q.who) (Told B)
  told_keeps B stays before step theirs f h = told_stays stamped q.who B stays before step theirs.0 f h

  own_legal : (B : History → Type 0) → MayHonestly B → (before : History) (answer : ActAnswer) (files : Files) (logs : Logs)
      → is_stopped before ≡ false → Honest before (own_step q answer files logs) → Told B before
      → Legal stamped (own_step q answer files logs ∷ before)
  own_legal B may before answer files logs running honest h = (
    h.legal,
    own_obeys before answer files logs honest
        (starts_fine q.who before (deed (own_step q answer files logs).act) (h.may_act running))
        (may before answer files logs honest h.legal (h.alive running)),
  )

  honest_shows : (B C : History → Type 0) (A : ActAnswer → Type 0) (answer : ActAnswer) → GoesOn answer → A answer → MayHonestly B
      → LeavesCall B A C → Shows (Told B) (Told C) q answer
  honest_shows B C A answer goes a may left before files logs running honest h =
      let legal = own_legal B may before answer files logs running honest h in
      record {
        legal = legal;
        may_act = λ r. acts_on q.who (same_who q.who q.who) answer (must_start q.who before) (who_self q.who) goes;
        alive = λ r. left before answer files logs a legal (h.alive running);
      }

  pub told_shows : (B C : History → Type 0) (A : ActAnswer → Type 0) (answer : ActAnswer) → GoesOn answer → A answer → MayCall B
      → LeavesCall B A C → Shows (Told B) (Told C) q answer
  told_shows B C A answer goes a may left = honest_shows B C A answer goes a (honestly B may) left

  told_stopped : (B C : History → Type 0) (left : List Left) → MayHonestly B → Shows (Told B) (Told C) q (Stopped left)
  told_stopped B C left may before files logs running honest h = record {
    legal = own_legal B may before (Stopped left) files logs running honest h;
    may_act = λ r. absurd (true≢false r);
    alive = λ r. absurd (true≢false r);
  }

  told_after_stop : (B C : History → Type 0) (before : History) → is_stopped before ≡ true → Told B before → Told C before
  told_after_stop B C before stopped h = record {
    legal = h.legal;
    may_act = λ r. absurd (true≢false (sym stopped ∙ r));
    alive = λ r. absurd (true≢false (sym stopped ∙ r));
  }

  -- less is known
  pub told_less : (B C : History → Type 0) → ((history : History) → B history → C history) → (history : History) → Told B history → Told C history
  told_less B C less history h = record { legal = h.legal; may_act = h.may_act; alive = λ r. less history (h.alive r) }

  -- a call that was done, or refused for the state of the files
  pub honest_done : (B C : History → Type 0) {V : Type 0} (given : Result V CallFault) {old new : Option History} → Stays stamped q.who B
      → MayHonestly B → LeavesCall B WasDone C → IsDone given → Adds old new (Calls q (answered plain given))
      → Adds old new (Leads (Making stamped q.who q.call) (Told B) (Told C))
  honest_done B C given stays may left is told =
      done_leads given owned is (told_keeps B stays)
      (λ answer was. honest_shows B C WasDone answer (goes_on_done answer was) was may left) told

  pub told_done : (B C : History → Type 0) {V : Type 0} (given : Result V CallFault) {old new : Option History} → Stays stamped q.who B → MayCall B
      → LeavesCall B WasDone C → IsDone given → Adds old new (Calls q (answered plain given))
      → Adds old new (Leads (Making stamped q.who q.call) (Told B) (Told C))
  told_done B C given stays may left is told = honest_done B C given stays (honestly B may) left is told

  -- a call that gave something, or was refused for the state of the files
  pub told_taken : (B C : History → Type 0) {V : Type 0} (how : V → ActAnswer) (given : Result V CallFault) (taken : Option V)
      {old new : Option History} → Stays stamped q.who B → MayCall B → ((value : V) → GoesOn (how value))
      → LeavesCall B (Took how taken) C → IsTaken given taken → Adds old new (Calls q (answered how given))
      → Adds old new (Leads (Making stamped q.who q.call) (Told B) (Told C))
  told_taken B C how given taken stays may goes left is told =
      taken_leads how given taken owned is (told_keeps B stays)
      (λ answer took. told_shows B C (Took how taken) answer (goes_on_taken how taken answer goes took) took may left) told

  -- a call that gave just this
  pub told_ok : (B C : History → Type 0) (answer : ActAnswer) {old new : Option History} → Stays stamped q.who B → MayCall B → GoesOn answer
      → LeavesCall B (λ a. a ≡ answer) C → Adds old new (Calls q (Ok answer))
      → Adds old new (Leads (Making stamped q.who q.call) (Told B) (Told C))
  told_ok B C answer stays may goes left told =
      ok_leads answer owned (told_keeps B stays) (told_shows B C (λ a. a ≡ answer) answer goes refl may left) told

  -- a call that ended the work: it failed, the site was stopped, or there was no memory
  pub honest_ends : (B : History → Type 0) (C : OutsideFault → History → Type 0) {V : Type 0} (how : V → ActAnswer) (given : Result V CallFault)
      (fault : OutsideFault) {old new : Option History} → Stays stamped q.who B → MayHonestly B
      → LeavesCall B (λ a. a ≡ Refused Failed) (C (Outside q.call)) → ((history : History) → B history → C no_memory history)
      → Ends q.call given fault → Adds old new (Calls q (answered how given))
      → Adds old new (Leads (Making stamped q.who q.call) (Told B) (Told (C fault)))
  honest_ends B C how given fault stays may left less ends told =
      ends_leads (λ f h. Told (C f) h) how given fault owned ends (told_keeps B stays)
      (honest_shows B (C (Outside q.call)) (λ a. a ≡ Refused Failed) (Refused Failed) tt refl may left)
      (λ stopped. told_stopped B (C (Outside q.call)) stopped may)
      (told_after_stop B (C (Outside q.call)))
      (told_less B (C no_memory) less) told

  pub told_ends : (B : History → Type 0) (C : OutsideFault → History → Type 0) {V : Type 0} (how : V → ActAnswer) (given : Result V CallFault)
      (fault : OutsideFault) {old new : Option History} → Stays stamped q.who B → MayCall B
      → LeavesCall B (λ a. a ≡ Refused Failed) (C (Outside q.call)) → ((history : History) → B history → C no_memory history)
      → Ends q.call given fault → Adds old new (Calls q (answered how given))
      → Adds old new (Leads (Making stamped q.who q.call) (Told B) (Told (C fault)))
  told_ends B C how given fault stays may left less ends told = honest_ends B C how given fault stays (honestly B may) left less ends told

-- ---- the start

pub calls_start : (stamped : List (List ℕ)) (role : Role) (history : History) (step : Step) → step.act.who.role ≡ role → deed step.act ≡ Starts
    → Allowed stamped history step
calls_start stamped role history step is call = record {
  own_files = subst (Framed step.act.who (files_after history)) (sym call) tt;
  logs = subst (OnlyWritersGrowLogs step.act.who.role) (sym call) tt;
  requests = subst (λ r. OnlyAgentsPost r (deed step.act)) (sym is) (subst (OnlyAgentsPost role) (sym call) (asks role));
  rule = subst (λ r. RoleMay stamped r history step) (sym is) (rule role);
}
  where
    asks : (role : Role) → OnlyAgentsPost role Starts
    asks Agent = tt
    asks Collector = tt
    asks Job = tt
    asks Writer = tt

    rule : (role : Role) → RoleMay stamped role history step
    rule Agent = rw call tt
    rule Collector = rw call tt
    rule Job = rw call (refl, tt)
    rule Writer = rw call tt

-- the first call of a process needs only that the history is legal
pub told_start : (stamped : List (List ℕ)) (who : Who) (C : History → Type 0) {V : Type 0} (given : Result V CallFault)
    {old new : Option History}
    → IsTrue (is_named_so who.role who.name)
    → ((before : History) (answer : ActAnswer) (files : Files) (logs : Logs) → WasDone answer
    → Legal stamped (own_step (asked who Start [] 0 0) answer files logs ∷ before) → C (own_step (asked who Start [] 0 0) answer files logs ∷ before))
    → IsDone given → Adds old new (Calls (asked who Start [] 0 0) (answered plain given))
    → Adds old new (Leads (As stamped who) (Legal stamped) (AtTold stamped who C))
told_start stamped who C given named left is told =
    done_leads given (owned stamped (asked who Start [] 0 0) named) is (λ before step theirs f h. (h, f.obeys))
    (λ answer was before files logs running honest h.
    let q = asked who Start [] 0 0 in
    let legal : Legal stamped (own_step q answer files logs ∷ before) =
    (h, own_obeys stamped q named before answer files logs honest tt (calls_start stamped who.role before (own_step q answer files logs) refl refl)) in
    record {
      legal = legal;
      may_act = λ r. acts_on who (same_who who who) answer (must_start who before) (who_self who) (goes_on_done answer was);
      alive = λ r. left before answer files logs was legal;
    }) told

-- ---- a call of which a number of the act is known only later, as that of a message

-- what holds of the call with each number holds of the call
pub told_some : {S : Side} {A B : History → Type 0} (q : ℕ → Asked) (result : ℕ → Result ActAnswer CallFault)
    {old new : Option History}
    → ((n : ℕ) (before after : Option History) → Adds before after (Calls (q n) (result n)) → Adds before after (Leads S A B))
    → Adds old new (CallsSome q result) → Adds old new (Leads S A B)
told_some {S = S} {A = A} {B = B} q result each told =
    adds_as (Leads S A B) told
    (λ added history calls.
    let one : Adds (Some history) (Some (added ++ history)) (Calls (q calls.0) (result calls.0)) = record {
      told = λ h e. (
        added,
        subst (λ (k : History). Path (Option History) (Some (added ++ history)) (Some (added ++ k))) (same_Some history h e) refl,
        subst (λ (k : History). Calls (q calls.0) (result calls.0) added k) (same_Some history h e) calls.1,
      );
      untold = λ e. absurd (none-some history (sym e));
    } in
    let led = (each calls.0 (Some history) (Some (added ++ history)) one).told history refl in
    let same : added ≡ led.0 = append_cancel_right added led.0 history (same_Some (added ++ history) (led.0 ++ history) led.1) in
    subst (λ (a : History). Leads S A B a history) (sym same) led.2)
