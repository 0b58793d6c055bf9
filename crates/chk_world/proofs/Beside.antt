-- What one process knows stays while another process of the same site acts.
use Rattle.std.proofs.Common.{◌≡◌, ℕ, Bool, true, false, List, [], ◌∷◌, ◌++◌, Ok, Option, refl, sym, subst, ap, ◌∙◌, true≢false}
use Rattle.std.specs.Prelude.{Contains}
use Rattle.chk_site.specs.declared.acts.Who.{Who}
use Rattle.chk_site.specs.declared.acts.ActAnswer.{ActAnswer}
use Rattle.chk_site.specs.declared.acts.ActAnswer.TheVariants.{Done, Refused, Stopped, Rotated, Deleted}
use Rattle.chk_site.specs.Files.{Files}
use Rattle.chk_site.specs.Logs.{Logs}
use Rattle.chk_site.specs.Acts.{same_who, is_stop}
use Rattle.chk_site.specs.History.{Step, History, Every, Others, IsTheirs, is_stopped}
use Rattle.chk_site.specs.Site.{Adds, Asked, own_step, Acted, Calls, CallsSome}
use Rattle.chk_site.specs.Runs.{Owns, Leads}
use Rattle.chk_site.proofs.Runs.{adds_as, adds_both, ran}
use Rattle.chk_site.proofs.Leads.{theirs_run}
use Rattle.chk_world.specs.Rules.{Legal}
use Rattle.chk_world.specs.Places.{Foreign, IsBy, IsMadeBy, As, AtTold, touched_by_stop}
use Rattle.chk_world.specs.Together.{Outside, IsByOne, Together}
use Rattle.chk_world.proofs.Frames.{start_stays}
use Rattle.chk_world.proofs.PlacesStay.{Stays, told_stays}

-- E stays over the steps of others than the processes that a run started, and over such steps of
-- the site's own
pub record StaysOver (stamped : List (List ℕ)) (started : List Who) (Own : History → Step → Type 0)
    (E : History → Type 0) : Type 0 where
  pub theirs : (history : History) (step : Step) → step.own ≡ false → Legal stamped (step ∷ history)
      → Outside stamped started history step
      → E history → E (step ∷ history)
  pub ours : (history : History) (step : Step) → step.own ≡ true → Legal stamped (step ∷ history)
      → Own history step → E history → E (step ∷ history)

-- over all steps that are added to a legal end
pub all_stay : (stamped : List (List ℕ)) (started : List Who) (Own : History → Step → Type 0)
    (E : History → Type 0)
    → StaysOver stamped started Own E → (added history : History) → Legal stamped (added ++ history)
    → Others (Outside stamped started) added history → Owns Own added history → E history
    → E (added ++ history)
all_stay stamped started Own E stays [] history legal others own e = e
all_stay stamped started Own E stays (step ∷ added) history legal others own e =
    go step.own refl (all_stay stamped started Own E stays added history legal.0 others.0 own.0 e)
  where
    go : (b : Bool) → step.own ≡ b → E (added ++ history) → E (step ∷ added ++ history)
    go true is before = stays.ours (added ++ history) step is legal (own.1 is) before
    go false is before = stays.theirs (added ++ history) step is legal (others.1 is) before

pub others_foreign : (stamped : List (List ℕ)) (started : List Who) (who : Who)
    → Contains started who → (added history : History)
    → Others (Outside stamped started) added history → Others (Foreign stamped who) added history
others_foreign stamped started who one [] history others = tt
others_foreign stamped started who one (step ∷ added) history others =
    (others_foreign stamped started who one added history others.0, λ theirs. (others.1 theirs).foreign who one)

-- own steps that are as one thing says are as a weaker one says
pub owns_as : (Own Mine : History → Step → Type 0)
    → ((before : History) (step : Step) → Own before step → Mine before step)
    → (added history : History) → Owns Own added history → Owns Mine added history
owns_as Own Mine less [] history own = tt
owns_as Own Mine less (step ∷ added) history own =
    (owns_as Own Mine less added history own.0, λ mine. less (added ++ history) step (own.1 mine))

-- One of the processes that a run started acts, and what another one knows goes along. `Own` is
-- what the call promises of its steps, `Mine` what the run promises of its own.
pub leads_beside : (stamped : List (List ℕ)) (started : List Who) (who : Who) → Contains started who
    → (Own Mine : History → Step → Type 0)
    → ((before : History) (step : Step) → Own before step → Mine before step)
    → {A B : History → Type 0} (E : History → Type 0) → StaysOver stamped started Own E
    → ((h : History) → B h → Legal stamped h) → {old new : Option History}
    → Adds old new (Leads (record { others = Foreign stamped who; own = Own }) A B)
    → Adds old new
    (Leads (record { others = Outside stamped started; own = Mine }) (λ h. A h × E h) (λ h. B h × E h))
leads_beside stamped started who one Own Mine less {A = A} {B = B} E stays legal told =
    adds_as
    (Leads (record { others = Outside stamped started; own = Mine }) (λ h. A h × E h) (λ h. B h × E h)) told
    (λ added history x. record {
      leads =
          λ others h.
          let end = x.leads (others_foreign stamped started who one added history others) h.0 in
          (end, all_stay stamped started Own E stays added history (legal (added ++ history) end) others x.own h.1);
      own = owns_as Own Mine less added history x.own;
    })

-- a step by one process is by one of several
pub by_one : (acting : List Who) (who : Who) → Contains acting who
    → (before : History) (step : Step)
    → IsBy who before step → IsByOne acting before step
by_one acting who one before step is =
    record { one = subst (Contains acting) (sym is.by) one; running = is.running }

-- a call of a library that makes no message
pub acts_beside : (stamped : List (List ℕ)) (started acting : List Who) (who : Who)
    → Contains started who
    → Contains acting who → {A B : History → Type 0} (E : History → Type 0)
    → StaysOver stamped started (IsBy who) E → ((h : History) → B h → Legal stamped h)
    → {old new : Option History} → Adds old new (Leads (As stamped who) A B)
    → Adds old new (Leads (Together stamped started acting) (λ h. A h × E h) (λ h. B h × E h))
acts_beside stamped started acting who one acts E stays legal told =
    leads_beside stamped started who one (IsBy who) (IsByOne acting) (by_one acting who acts) E stays legal told

-- ---- what stays

pub stay_both : {stamped : List (List ℕ)} {started : List Who} {Own : History → Step → Type 0}
    {E F : History → Type 0}
    → StaysOver stamped started Own E → StaysOver stamped started Own F
    → StaysOver stamped started Own (λ h. E h × F h)
stay_both e f = record {
  theirs = λ history step is legal outside h. (e.theirs history step is legal outside h.0, f.theirs history step is legal outside h.1);
  ours = λ history step is legal own h. (e.ours history step is legal own h.0, f.ours history step is legal own h.1);
}

-- what each legal step keeps
pub stay_always : {stamped : List (List ℕ)} {started : List Who} {Own : History → Step → Type 0}
    {E : History → Type 0}
    → ((history : History) (step : Step) → Legal stamped (step ∷ history) → E history → E (step ∷ history))
    → StaysOver stamped started Own E
stay_always keeps = record {
  theirs = λ history step is legal outside h. keeps history step legal h;
  ours = λ history step is legal own h. keeps history step legal h;
}

pub no_stop_touches : (who : Who) (answer : ActAnswer) → is_stop answer ≡ false
    → touched_by_stop who answer ≡ false
no_stop_touches who (Stopped left) goes = absurd (true≢false goes)
no_stop_touches who (Done words number of) goes = refl
no_stop_touches who (Refused fault) goes = refl
no_stop_touches who (Rotated suffix) goes = refl
no_stop_touches who (Deleted suffix) goes = refl

-- What a process knows stays over the steps of another one. After a stop the site makes no more
-- steps, and nothing is claimed.
pub stay_told : (stamped : List (List ℕ)) (started : List Who) (me other : Who)
    → Contains started other → same_who other me ≡ false
    → (Own : History → Step → Type 0)
    → ((before : History) (step : Step) → Own before step → step.act.who ≡ me)
    → ((before : History) (step : Step) → Own before step → is_stopped before ≡ false)
    → (P : History → Type 0) → Stays stamped other P
    → StaysOver stamped started Own (AtTold stamped other P)
stay_told stamped started me other one apart Own by runs P stays = record {
  theirs = λ history step is legal outside h. told_stays stamped other P stays history step is (outside.foreign other one) h;
  ours = ours;
}
  where
    ours : (history : History) (step : Step) → step.own ≡ true → Legal stamped (step ∷ history)
        → Own history step
        → AtTold stamped other P history → AtTold stamped other P (step ∷ history)
    ours history step is legal own h =
        let running = runs history step own in
        let goes : is_stopped (step ∷ history) ≡ false → is_stop step.act.answer ≡ false = λ r. rw is at r in
        let foreign : is_stopped (step ∷ history) ≡ false → Foreign stamped other history step =
        λ r. record {
          obeys = legal.1;
          other = ap (same_who other) (by history step own) ∙ apart;
          spares = no_stop_touches other step.act.answer (goes r);
        } in
        record {
          legal = legal;
          may_act = λ r. start_stays stamped other history step (foreign r) ∙ h.may_act running;
          alive = λ r. stays history step h.legal (foreign r) (h.alive running);
        }

-- What a process knows stays over a library's call by another one.
pub stay_by : (stamped : List (List ℕ)) (started : List Who) (me other : Who)
    → Contains started other → same_who other me ≡ false
    → (P : History → Type 0) → Stays stamped other P
    → StaysOver stamped started (IsBy me) (AtTold stamped other P)
stay_by stamped started me other one apart P stays =
    stay_told stamped started me other one apart (IsBy me) (λ before step own. own.by) (λ before step own. own.running) P stays

-- ---- one call that is told both by its process and raw

-- what steps of others leave at a legal end
abbrev pub TheirsKeep : List (List ℕ) → List Who → (History → Type 0) → Type 0
TheirsKeep stamped started E = (history : History) (step : Step) → step.own ≡ false → Legal stamped (step ∷ history)
    → Outside stamped started history step → E history → E (step ∷ history)

theirs_keep : (stamped : List (List ℕ)) (started : List Who) (E : History → Type 0)
    → TheirsKeep stamped started E → (added history : History)
    → Every IsTheirs added history → Legal stamped (added ++ history)
    → Others (Outside stamped started) added history → E history → E (added ++ history)
theirs_keep stamped started E keeps [] history theirs legal outside e = e
theirs_keep stamped started E keeps (step ∷ added) history theirs legal outside e =
    keeps (added ++ history) step theirs.1.0 legal (outside.1 theirs.1.0)
    (theirs_keep stamped started E keeps added history theirs.0 legal.0 outside.0 e)

-- A call of one process, of which its own place is told, and that gave just this: it takes what
-- goes along from E to F.
pub call_beside : (stamped : List (List ℕ)) (started : List Who) (who : Who) → Contains started who
    → (Own Mine : History → Step → Type 0)
    → ((before : History) (step : Step) → Own before step → Mine before step)
    → {A B : History → Type 0} (E F : History → Type 0) (q : ℕ → Asked) (r : ℕ → ActAnswer)
    → ((h : History) → B h → Legal stamped h)
    → TheirsKeep stamped started E
    → ((n : ℕ) (before : History) (files : Files) (logs : Logs) → is_stopped before ≡ false → Legal stamped (own_step (q n) (r n) files logs ∷ before)
    → E before → F (own_step (q n) (r n) files logs ∷ before))
    → {old new : Option History} → Adds old new (Leads (record { others = Foreign stamped who; own = Own }) A B)
    → Adds old new (CallsSome q (λ n. Ok (r n)))
    → Adds old new (Leads (record { others = Outside stamped started; own = Mine }) (λ h. A h × E h) (λ h. B h × F h))
call_beside stamped started who one Own Mine less {A = A} {B = B} E F q r legal keeps mine told calls =
    adds_both (Leads (record { others = Outside stamped started; own = Mine }) (λ h. A h × E h) (λ h. B h × F h)) told calls
    (λ added history x y.
    let acted = ran (Ok (r y.0)) (λ e. cc) y.1 in
    record {
      leads =
          λ outside h.
          let end = x.leads (others_foreign stamped started who one added history outside) h.0 in
          (end, made added history y.0 acted (legal (added ++ history) end) outside h.1);
      own = owns_as Own Mine less added history x.own;
    })
  where
    made : (added history : History) (n : ℕ) → Acted (q n) (r n) added history
        → Legal stamped (added ++ history)
        → Others (Outside stamped started) added history → E history → F (added ++ history)
    made added history n acted is outside e =
        let S = own_step (q n) (r n) acted.files acted.logs in
        let is' : Legal stamped (S ∷ acted.others ++ history) = subst (λ (a : History). Legal stamped (a ++ history)) acted.added_is is in
        let outside' = subst (λ (a : History). Others (Outside stamped started) a history) acted.added_is outside in
        subst (λ (a : History). F (a ++ history)) (sym acted.added_is)
        (mine n (acted.others ++ history) acted.files acted.logs (theirs_run acted.others history acted.theirs acted.running) is'
        (theirs_keep stamped started E keeps acted.others history acted.theirs is'.0 outside'.0 e))

-- a call with no such number
pub calls_some : {q : Asked} {answer : ActAnswer} {old new : Option History}
    → Adds old new (Calls q (Ok answer))
    → Adds old new (CallsSome (λ n. q) (λ n. Ok answer))
calls_some {q = q} {answer = answer} told = adds_as (CallsSome (λ n. q) (λ n. Ok answer)) told (λ added history calls. (0, calls))

-- where only legality is left, nothing else goes along
pub legal_beside : (stamped : List (List ℕ)) (started : List Who) (who : Who) → Contains started who
    → (Own Mine : History → Step → Type 0)
    → ((before : History) (step : Step) → Own before step → Mine before step)
    → {A : History → Type 0} (E : History → Type 0) {old new : Option History}
    → Adds old new (Leads (record { others = Foreign stamped who; own = Own }) A (Legal stamped))
    → Adds old new (Leads (record { others = Outside stamped started; own = Mine }) (λ h. A h × E h) (Legal stamped))
legal_beside stamped started who one Own Mine less {A = A} E told =
    adds_as (Leads (record { others = Outside stamped started; own = Mine }) (λ h. A h × E h) (Legal stamped)) told
    (λ added history x. record {
      leads = λ outside h. x.leads (others_foreign stamped started who one added history outside) h.0;
      own = owns_as Own Mine less added history x.own;
    })

-- a step of a process that also talks is by one of several
pub made_one : (acting : List Who) (who : Who) → Contains acting who
    → (before : History) (step : Step)
    → IsMadeBy who before step → IsByOne acting before step
made_one acting who one before step is =
    record { one = subst (Contains acting) (sym is.by) one; running = is.running }
