-- The collector's calls on messages and the clock: the rules allow them, and they leave its sinks.
use Rattle.std.proofs.Common.{◌≡◌, inl, ℕ, Bool, true, false, List, [], ◌∷◌, ◌++◌, map, Option, Some, None, Result, Ok, Err, ap, sym, subst, ◌∙◌, refl, true≢false, if◌then◌else◌}
use Rattle.std.specs.Prelude.{IsTrue, length}
use Rattle.std.proofs.lemmas.List.{append-nil}
use Rattle.chk_bytes.specs.declared.NoMemory.{NoMemory}
use Rattle.chk_bytes.specs.Stems.{is_collector}
use Rattle.chk_site.specs.declared.acts.ActAnswer.{ActAnswer}
use Rattle.chk_site.specs.declared.acts.ActAnswer.TheVariants.{Done, Refused, Stopped, Rotated, Deleted}
use Rattle.chk_site.specs.declared.acts.Call.{Call}
use Rattle.chk_site.specs.declared.acts.Call.TheVariants.{Take, More, Answer, Clock, Send}
use Rattle.chk_site.specs.declared.acts.CallFault.{CallFault}
use Rattle.chk_site.specs.declared.acts.CallFault.TheVariants.{Failed, Missing, Exists, Short, NoMemory as no_memory}
use Rattle.chk_site.specs.declared.acts.OutsideFault.TheVariants.{Outside as site_failed, NoMemory as site_wants}
use Rattle.chk_site.specs.declared.acts.Who.{Who}
use Rattle.chk_site.specs.declared.suffixes.Taking.{Taking}
use Rattle.chk_site.specs.Acts.{Deed, Takes, TakesMore, Answers, AsksClock, Sends, deed, deed_by, touches, tail_in}
use Rattle.chk_site.specs.Files.{Files}
use Rattle.chk_site.specs.History.{Step, History, files_after, is_stopped}
use Rattle.chk_site.specs.Logs.{Logs}
use Rattle.chk_site.specs.Runs.{Leads}
use Rattle.chk_site.specs.Site.{Adds, Asked, asked, own_step, answered, plain, sized, bytes_given, taking_given, Calls, CallsSome}
use Rattle.chk_site.proofs.Family.{leads_family}
use Rattle.chk_site.proofs.Leads.{leads_none, leads_then, leads_as}
use Rattle.chk_site.proofs.Runs.{adds_as}
use Rattle.chk_site.proofs.Stays.{unnamed_stays}
use Rattle.chk_world.specs.Collectors.{View, Handling, begun, with_bytes, no_more_newest, own_view, view}
use Rattle.chk_world.specs.Committed.{HasFile, number_in}
use Rattle.chk_world.specs.Names.{SinkFile, MarkFile, spell}
use Rattle.chk_world.specs.Places.{As, Making, Talking, IsBy, IsMadeBy, AtTold}
use Rattle.chk_world.specs.Rules.{Legal}
use Rattle.chk_world.proofs.Beside.{owns_as}
use Rattle.chk_world.proofs.CollectorCalls.{own_sight}
use Rattle.chk_world.proofs.NameTests.{nat_self}
use Rattle.chk_world.proofs.PlacesStay.{Stays}
use Rattle.chk_world.proofs.ToldCalls.{GoesOn, goes_on_done, MayCall, told_ok, told_done, told_ends, told_some}
use Rattle.chk_sink.specs.Held.{IsAsKept, Holds, Handles, Matches}
use Rattle.chk_sink.specs.States.{State, Writing, process, last_stem}
use Rattle.chk_sink.proofs.Holding.{absent_as, handles_stays}
use Rattle.chk_sink.proofs.HoldsStay.{has_stem, holds_stay}
use Rattle.chk_tee.specs.Messages.{Teed, IsTee}
use Rattle.chk_tee.proofs.Requests.{tee_is_no_request}
use Rattle.chk_collector.specs.Answering.{Taken, MayAnswer, Answered}
use Rattle.chk_collector.proofs.AnswerStays.{may_answer_stays}
use Rattle.chk_collector_run.specs.Messages.{IsReadOn, whole, came, over, broken, unread, unkept}
use Rattle.chk_collector_run.specs.Legality.{HasTaken}
use Rattle.chk_sink.proofs.Questions.{goes_tail}

-- ---- what such a step leaves

-- the call is one on messages or the clock
abbrev Talks : Deed → Type 0
Talks (Takes door wait) = Unit {0}
Talks (TakesMore t) = Unit {0}
Talks (Answers t bytes) = Unit {0}
Talks AsksClock = Unit {0}
Talks (Sends n address bytes) = Unit {0}
Talks call = ⊥

talks_none : (call : Deed) (name : List ℕ) → Talks call → touches call name ≡ false
talks_none (Takes door wait) name talks = refl
talks_none (TakesMore t) name talks = refl
talks_none (Answers t bytes) name talks = refl
talks_none AsksClock name talks = refl
talks_none (Sends n address bytes) name talks = refl
talks_none call name talks = absurd talks

-- what is seen of the sinks is the same
record SameSinks (v w : View) : Type 0 where
  pub born : w.born ≡ v.born
  pub made : w.made ≡ v.made
  pub current : w.current ≡ v.current

talks_view : (call : Deed) (answer : ActAnswer) (before after : Files) (v : View) → Talks call
    → SameSinks v (own_view before after v call answer)
talks_view (Takes door wait) answer before after v talks = record {
  born = refl;
  made = refl;
  current = refl;
}
talks_view (TakesMore t) answer before after v talks = record {
  born = refl;
  made = refl;
  current =
      refl;
}
talks_view (Answers t bytes) answer before after v talks = record {
  born = refl;
  made = refl;
  current = refl;
}
talks_view AsksClock answer before after v talks = record {
  born = refl;
  made = refl;
  current =
      refl;
}
talks_view (Sends n address bytes) answer before after v talks = record {
  born = refl;
  made = refl;
  current = refl;
}
talks_view call answer before after v talks = absurd talks

holds_talk : (stamped : List (List ℕ)) (s : State) (before : History) (step : Step)
    → Legal stamped (step ∷ before)
    → step.act.who ≡ process s → Talks (deed step.act) → GoesOn step.act.answer → Holds s before
    → Holds s (step ∷ before)
holds_talk stamped s before step legal by talks goes h =
    let sight = own_sight (process s) before step by goes in
    let same = talks_view (deed step.act) step.act.answer (files_after before) step.files (view
    (process s) before) talks in
    record {
      born = ap (λ (v : View). v.born) sight ∙ (same.born ∙ h.born);
      made = ap (λ (v : View). v.made) sight ∙ (same.made ∙ h.made);
      writing = kept s.current (ap (λ (v : View). v.current) sight ∙ same.current) h.writing;
      tidy = λ none x other.
          let was = h.tidy none x other in (
            absent_as _ _ (word (spell (SinkFile x))) was.0,
            absent_as _ _ (word (spell (MarkFile
                x))) was.1,
          );
    }
  where
    word : (w : List ℕ) → step.files w ≡ files_after before w
    word w =
        unnamed_stays before step w legal.1.honest.modelled (talks_none (deed step.act) w talks)
        (goes_tail step.act.answer w goes)

    kept : (o : Option Writing) → (view (process s) (step ∷ before)).current ≡ (view (process s)
        before).current
        → IsAsKept (last_stem s) (view (process s) before) (files_after before) o
        → IsAsKept (last_stem s) (view (process s) (step ∷ before)) step.files o
    kept None e k = tt
    kept (Some o) e k = record {
      current = e ∙ k.current;
      size = subst (λ a. HasFile a (λ f. length f.bytes ≡ o.size)) (sym (word (spell (SinkFile
          (last_stem s))))) k.size;
      marked = ap number_in (word (spell (MarkFile (last_stem s)))) ∙ k.marked;
    }

-- ---- one call

-- what makes no message is a talk too
pub talking_as : (who : Who) (stamped : List (List ℕ)) {A B : History
    → Type 0} {old new : Option History}
    → Adds old new (Leads (As stamped who) A B) → Adds old new (Leads (Talking stamped who) A B)
talking_as who stamped {A = A} {B = B} p =
    adds_as (Leads (Talking stamped who) A B) p
    (λ a h x. record {
      leads = x.leads;
      own = owns_as (IsBy who) (IsMadeBy who) (λ before step by. record {
        by = by.by;
        running =
            by.running;
      }) a h x.own;
    })

module _ (stamped : List (List ℕ)) (s : State) (named : IsTrue (is_collector s.collector)) where
  abbrev Side : (History → Type 0) → (History → Type 0) → Option History → Option History → Type 0
  Side A B old new = Adds old new (Leads (Talking stamped (process s)) A B)

  module _ (call : Call) (words : List (List ℕ)) (number max : ℕ) (talks : Talks (deed_by call
      words number max)) where
    abbrev Q : Asked
    Q = asked (process s) call words number max

    left : (before : History) (answer : ActAnswer) (files : Files) (logs : Logs) → GoesOn answer
        → Legal stamped (own_step Q answer files logs ∷ before) → Holds s before
        → Holds s (own_step Q answer files logs ∷ before)
    left before answer files logs goes legal h =
        holds_talk stamped s before (own_step Q answer files logs) legal refl talks goes h

    -- whatever it was answered, the history holds the sinks
    talk_over : (B : History → Type 0) → Stays stamped (process s) B → MayCall stamped Q named B
        → ((h : History) → B h → Holds s h) → {V : Type 0} (how : V
        → ActAnswer) (given : Result V CallFault)
        → ((value : V) → GoesOn (how value)) → {old new : Option History}
        → Adds old new (Calls Q (answered how given))
        → Adds old new (Leads (Making stamped (process s) call) (AtTold stamped (process s) B)
        (Matches stamped s))
    talk_over B stays may less how (Ok value) goes told =
        told_ok stamped Q named B (Holds s) (how value) stays may (goes value)
        (λ before answer files logs e legal h. left before answer files logs (subst GoesOn (sym e)
        (goes value)) legal (less before h)) told
    talk_over B stays may less how (Err Failed) goes told =
        told_ends stamped Q named B (λ f. Holds s) how (Err Failed) (site_failed call) stays may
        (λ before answer files logs e legal h. left before answer files logs (subst GoesOn (sym e)
        tt) legal (less before h)) less refl told
    talk_over B stays may less how (Err no_memory) goes told =
        told_ends stamped Q named B (λ f. Holds s) how (Err no_memory) site_wants stays may
        (λ before answer files logs e legal h. left before answer files logs (subst GoesOn (sym e)
        tt) legal (less before h)) less refl told
    talk_over B stays may less {V = V} how (Err Missing) goes told =
        told_done stamped Q named B (Holds s) {V = V} (Err Missing) stays may
        (λ before answer files logs was legal h. left before answer files logs (goes_on_done answer
        was) legal (less before h)) tt told
    talk_over B stays may less {V = V} how (Err Exists) goes told =
        told_done stamped Q named B (Holds s) {V = V} (Err Exists) stays may
        (λ before answer files logs was legal h. left before answer files logs (goes_on_done answer
        was) legal (less before h)) tt told
    talk_over B stays may less {V = V} how (Err (Short size)) goes told =
        told_done stamped Q named B (Holds s) {V = V} (Err (Short size)) stays may
        (λ before answer files logs was legal h. left before answer files logs (goes_on_done answer
        was) legal (less before h)) tt told

  -- ---- the taking

  module _ (door : List ℕ) (wait : ℕ) where
    abbrev TakeQ : Asked
    TakeQ = asked (process s) Take (door ∷ []) wait 0

    take_may : MayCall stamped TakeQ named (Holds s)
    take_may before answer files logs legal h = record {
      own_files = tt;
      logs = tt;
      requests = tt;
      rule = tt;
    }

    -- a message was taken
    pub took : (taking : Taking) {old new : Option History}
        → Adds old new (CallsSome (λ of. TakeQ) (λ of. answered (taking_given of) (Ok (Some
        taking))))
        → Side (Matches stamped s) (HasTaken stamped s taking.number taking.bytes) old new
    took taking calls =
        told_some {S = Talking stamped (process s)} (λ n. TakeQ) (λ n. Ok (taking_given n (Some
        taking)))
        (λ n before after t. told_ok stamped TakeQ named (Holds s) Took (taking_given n (Some
        taking)) (holds_stay stamped s) take_may tt
        (λ before answer files logs e. subst (λ a. Legal stamped (own_step TakeQ a files logs ∷
        before) → Holds s before
        → Took (own_step TakeQ a files logs ∷ before)) (sym e) (taken n before files logs)) t) calls
      where
        Took : History → Type 0
        Took h = (others : List Handling) × Handles s (begun taking.number taking.bytes ∷ others) h

        taken : (n : ℕ) (before : History) (files : Files) (logs : Logs)
            → Legal stamped (own_step TakeQ (taking_given n (Some taking)) files logs ∷ before)
            → Holds s before → Took (own_step TakeQ (taking_given n (Some taking)) files logs ∷
            before)
        taken n before files logs legal h = (
          map no_more_newest (view (process s) before).handled,
          record {
            holds = left Take (door ∷ []) wait 0 tt before (taking_given n (Some taking)) files
                logs tt legal h;
            handled =
                ap (λ (v : View). v.handled) (own_sight (process s) before (own_step TakeQ
                (taking_given n (Some taking)) files logs) refl tt);
          },
        )

    taking_goes : (n : ℕ) (value : Option Taking) → GoesOn (taking_given n value)
    taking_goes n None = tt
    taking_goes n (Some taking) = tt

    -- none was, or the call ended the turn
    pub untook : (given : Result (Option Taking) CallFault) {old new : Option History}
        → Adds old new (CallsSome (λ of. TakeQ) (λ of. answered (taking_given of) given))
        → Side (Matches stamped s) (Matches stamped s) old new
    untook given calls =
        told_some {S = Talking stamped (process s)} (λ n. TakeQ) (λ n. answered (taking_given n)
        given)
        (λ n before after t. talk_over Take (door ∷ []) wait 0 tt (Holds s) (holds_stay stamped s)
        take_may (λ h x. x)
        (taking_given n) given (taking_goes n) t) calls

  -- ---- the clock

  pub clocked : (given : Result ℕ CallFault) {old new : Option History}
      → Adds old new (Calls (asked (process s) Clock [] 0 0) (answered sized given))
      → Side (Matches stamped s) (Matches stamped s) old new
  clocked given call =
      talking_as (process s) stamped
      (talk_over Clock [] 0 0 tt (Holds s) (holds_stay stamped s)
      (λ before answer files logs legal h. record {
        own_files = tt;
        logs = tt;
        requests = tt;
        rule
            = tt;
      }) (λ h x. x) sized given (λ value. tt)
      call)

  -- ---- the further pieces

  module _ (t : ℕ) where
    abbrev MoreQ : Asked
    MoreQ = asked (process s) More [] t 0

    -- so much of the message was got
    abbrev Got : List ℕ → History → Type 0
    Got bytes h = (others : List Handling) × Handles s (begun t bytes ∷ others) h

    got_stays : (bytes : List ℕ) → Stays stamped (process s) (Got bytes)
    got_stays bytes history step legal f h = (
      h.0,
      handles_stays stamped s (begun t bytes ∷ h.0) (has_stem stamped s history legal
          h.1.holds) history step legal f h.1,
    )

    more_may : (bytes : List ℕ) → MayCall stamped MoreQ named (Got bytes)
    more_may bytes before answer files logs legal h = record {
      own_files = tt;
      logs = tt;
      requests
          = tt;
      rule = tt;
    }

    piece_added : (bytes piece : List ℕ) → with_bytes t piece (begun t bytes) ≡ begun t (bytes ++
        piece)
    piece_added bytes piece =
        ap (λ b. record {
          taking = t;
          bytes = if b then bytes ++ piece else bytes;
          answered = false;
          newest = true;
          synced = false;
          appends = [];
        }) (nat_self t)

    more_came : (bytes piece : List ℕ) {old new : Option History}
        → Adds old new (Calls MoreQ (Ok (bytes_given piece)))
        → Side (HasTaken stamped s t bytes) (HasTaken stamped s t (bytes ++ piece)) old new
    more_came bytes piece call =
        told_ok stamped MoreQ named (Got bytes) (Got (bytes ++ piece)) (bytes_given piece)
        (got_stays bytes) (more_may bytes) tt
        (λ before answer files logs e. subst (λ a. Legal stamped (own_step MoreQ a files logs ∷
        before) → Got bytes before
        → Got (bytes ++ piece) (own_step MoreQ a files logs ∷ before)) (sym e) (more before files
        logs)) call
      where
        more : (before : History) (files : Files) (logs : Logs)
            → Legal stamped (own_step MoreQ (bytes_given piece) files logs ∷ before)
            → Got bytes before → Got (bytes ++ piece) (own_step MoreQ (bytes_given piece) files
            logs ∷ before)
        more before files logs legal h = (
          map (with_bytes t piece) h.0,
          record {
            holds = left More [] t 0 tt before (bytes_given piece) files logs tt legal h.1.holds;
            handled =
                ap (λ (v : View). v.handled) (own_sight (process s) before (own_step MoreQ
                (bytes_given piece) files logs) refl tt)
                ∙ (ap (map (with_bytes t piece)) h.1.handled
                ∙ ap (λ m. m ∷ map (with_bytes t piece) h.0) (piece_added bytes piece));
          },
        )

    broke : (bytes : List ℕ) (given : Result (List ℕ) CallFault) {old new : Option History}
        → Adds old new (Calls MoreQ (answered bytes_given given))
        → Side (HasTaken stamped s t bytes) (Matches stamped s) old new
    broke bytes given call =
        talk_over More [] t 0 tt (Got bytes) (got_stays bytes) (more_may bytes) (λ h x. x.1.holds)
        bytes_given given (λ value. tt) call

    -- what is known once a message was read on
    abbrev pub ReadEnds : Result (Option (List ℕ)) NoMemory → History → Type 0
    ReadEnds (Ok (Some request)) history = HasTaken stamped s t request history
    ReadEnds got history = Matches stamped s history

    taken_less : (bytes : List ℕ) (h : History) → HasTaken stamped s t bytes h → Matches stamped s h
    taken_less bytes h x = record {
      legal = x.legal;
      may_act = x.may_act;
      alive = λ r. (x.alive
          r).1.holds;
    }

    pub read_told : {bytes : List ℕ} {got : Result (Option (List ℕ)) NoMemory} {old new : Option
        History}
        → IsReadOn (process s) t bytes got old new
        → Side (HasTaken stamped s t bytes) (ReadEnds got) old new
    read_told (whole shut) = leads_none _ (λ h x. x)
    read_told {bytes = bytes} (came piece yet some call more) = leads_then (more_came bytes piece
        call) (read_told more)
    read_told {bytes = bytes} (over yet call) =
        leads_as (λ h x. x) (λ h x. subst (λ b. HasTaken stamped s t b h) (append-nil bytes) x)
        (more_came bytes [] call)
    read_told {bytes = bytes} (broken yet call) = broke bytes (Err Failed) call
    read_told {bytes = bytes} (unread yet call) = broke bytes (Err no_memory) call
    read_told {bytes = bytes} (unkept piece yet some call) =
        leads_as (λ h x. x) (taken_less (bytes ++ piece)) (more_came bytes piece call)

    -- ---- the answer

    pub sent : (reply : List ℕ) (given : Result (Unit {0}) CallFault) {old new : Option History}
        → Adds old new (Calls (asked (process s) Answer (reply ∷ []) t 0) (answered plain given))
        → Side (AtTold stamped (process s) (MayAnswer s t reply)) (Matches stamped s) old new
    sent reply given call =
        talk_over Answer (reply ∷ []) t 0 tt (MayAnswer s t reply) (may_answer_stays stamped s t
        reply)
        (λ before answer files logs legal h. record {
          own_files = tt;
          logs = tt;
          requests = tt;
          rule = h.may;
        }) (λ h x. x.holds)
        plain given (λ value. tt) call

  -- ---- a message of a tee, which is no post

  module _ (address bytes : List ℕ) (items : List Teed) (tee : IsTee items bytes) where
    abbrev SendQ : ℕ → Asked
    SendQ n = asked (process s) Send (address ∷ bytes ∷ []) n 0

    send_may : (n : ℕ) → MayCall stamped (SendQ n) named (Holds s)
    send_may n before answer files logs legal h = record {
      own_files = tt;
      logs = tt;
      requests = λ post. tee_is_no_request items bytes tee (inl (post.1.0, post.1.1));
      rule = tt;
    }

    pub sent_on : (given : Result ℕ CallFault) {old new : Option History}
        → Adds old new (CallsSome SendQ (λ n. answered sized given))
        → Side (Matches stamped s) (Matches stamped s) old new
    sent_on given calls =
        told_some {S = Talking stamped (process s)} SendQ (λ n. answered sized given)
        (λ n before after t. talk_over Send (address ∷ bytes ∷ []) n 0 tt (Holds s)
        (holds_stay stamped s) (send_may n) (λ h x. x) sized given (λ value. tt) t) calls

-- ---- a message is handled

-- from what is told for each list of earlier messages
module _ (stamped : List (List ℕ)) (s u : State) (t : ℕ) (request : List ℕ) where
  of_any : {E : Type 0} (result : Result (List ℕ) E) (R : History
      → Type 0) {old new : Option History}
      → ((h : History) (others : List Handling) → Answered stamped u t request [] others result h
      → R h)
      → ((others : List Handling) → Adds old new
      (Leads (As stamped (process s)) (Taken stamped s t request [] others) (Answered stamped u t
      request [] others result)))
      → Adds old new (Leads (Talking stamped (process s)) (HasTaken stamped s t request) R)
  of_any result R weaker told =
      talking_as (process s) stamped
      (leads_family {S = As stamped (process s)} (λ others. Taken stamped s t request [] others)
      (λ others. Answered stamped u t request [] others result) (HasTaken stamped s t request) R []
      told
      (λ added history all h. go added history all h (is_stopped history) refl))
    where
      go : (added history : History)
          → ((others : List Handling) → Taken stamped s t request [] others history
          → Answered stamped u t request [] others result (added ++ history))
          → HasTaken stamped s t request history → (b : Bool) → is_stopped history ≡ b
          → R (added ++ history)
      go added history all h true e =
          weaker (added ++ history) []
          (all [] (record {
            legal = h.legal;
            may_act = h.may_act;
            alive = λ r. absurd (true≢false
                (sym e ∙ r));
          }))
      go added history all h false e =
          let k = h.alive e in
          weaker (added ++ history) k.0 (all k.0 (record {
            legal = h.legal;
            may_act = h.may_act;
            alive = λ r. k.1;
          }))

  pub unreplied_told : {E : Type 0} (fault : E) {old new : Option History}
      → ((others : List Handling) → Adds old new
      (Leads (As stamped (process s)) (Taken stamped s t request [] others) (Answered stamped u t
      request [] others (Err fault))))
      → Adds old new (Leads (Talking stamped (process s)) (HasTaken stamped s t request) (Matches
      stamped u))
  unreplied_told {E = E} fault told =
      of_any {E = E} (Err fault) (Matches stamped u)
      (λ h others x. record {
        legal = x.legal;
        may_act = x.may_act;
        alive = λ r. (x.alive
            r).handled.holds;
      }) told

  -- it was answered, whatever became of the answer
  pub answered_told : (E : Type 0) (named : IsTrue (is_collector s.collector)) (same : process u ≡
      process s) (reply : List ℕ)
      (given : Result (Unit {0}) CallFault) {old mid new : Option History}
      → ((others : List Handling) → Adds old mid
      (Leads (As stamped (process s)) (Taken stamped s t request [] others) (Answered {E = E}
      stamped
      u t request [] others (Ok reply))))
      → Adds mid new (Calls (asked (process s) Answer (reply ∷ []) t 0) (answered plain given))
      → Adds old new (Leads (Talking stamped (process s)) (HasTaken stamped s t request) (Matches
      stamped u))
  answered_told E named same reply given {mid = mid} {new = new} told call =
      leads_then
      (of_any {E = E} (Ok reply) (AtTold stamped (process u) (MayAnswer u t reply))
      (λ h others x. record {
        legal = x.legal;
        may_act = x.may_act;
        alive = λ r. (x.alive
            r).answer;
      }) told)
      (subst (λ w. Adds mid new (Leads (Talking stamped w) (AtTold stamped (process u) (MayAnswer u
      t reply)) (Matches stamped u))) same
      (sent stamped u (subst (λ (w : Who). IsTrue (is_collector w.name)) (sym same) named) t reply
      given
      (subst (λ w. Adds mid new (Calls (asked w Answer (reply ∷ []) t 0) (answered plain given)))
      (sym same) call)))
