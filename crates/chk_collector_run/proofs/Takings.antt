-- The first taking of a turn finds all committed, and no other call opens a turn.
use Rattle.std.proofs.Common.{◌≡◌, inl, inr, ℕ, Bool, true, false, nat_lt, if◌then◌else◌, List, [], ◌∷◌, ◌++◌, Option, Result, Ok, Err, sym, subst, ◌∙◌, refl, true≢false, arith}
use Rattle.chk_bytes.specs.declared.NoMemory.{NoMemory}
use Rattle.chk_site.specs.declared.acts.ActAnswer.{ActAnswer}
use Rattle.chk_site.specs.declared.acts.Call.{Call}
use Rattle.chk_site.specs.declared.acts.Call.TheVariants.{Take}
use Rattle.chk_site.specs.declared.acts.CallFault.{CallFault}
use Rattle.chk_site.specs.declared.acts.CallFault.TheVariants.{Failed, Missing, Exists, Short, NoMemory as no_memory}
use Rattle.chk_site.specs.declared.acts.Who.{Who}
use Rattle.chk_site.specs.Acts.{deed, deed_by}
use Rattle.chk_site.specs.History.{Step, History, Every, Others, IsTheirs, is_stopped}
use Rattle.chk_site.specs.Runs.{Owns, Leads}
use Rattle.chk_site.specs.Site.{Adds, Asked, asked, Acted, Added, Calls, CallsSome}
use Rattle.chk_site.proofs.Leads.{call_owned, theirs_run}
use Rattle.chk_site.proofs.Runs.{adds_then, adds_as, adds_both, adds_none, every_join, every_early, every_late}
use Rattle.chk_world.specs.Places.{Foreign, IsBy, is_message}
use Rattle.chk_world.proofs.PlacesStay.{told_stays}
use Rattle.chk_sink.specs.declared.fault.SinkFault.{SinkFault}
use Rattle.chk_sink.specs.Held.{Holds, Matches}
use Rattle.chk_sink.specs.States.{State, process}
use Rattle.chk_sink.proofs.HoldsStay.{holds_stay}
use Rattle.chk_tee.specs.Messages.{Teed}
use Rattle.chk_tee_sender.specs.declared.Subscriber.{Subscriber}
use Rattle.chk_tee_sender.specs.declared.tees.Passed.{Passed}
use Rattle.chk_tee_sender.specs.Offers.{IsPassed, nobody, nothing, passed}
use Rattle.chk_tee_sender.specs.Passing.{Passes}
use Rattle.chk_tee_sender.specs.Sending.{IsSentTo, PassesOn, all_passed, wanting, passed_by, sent_to, dropped, ended}
use Rattle.chk_collector_run.specs.Legality.{IsSettled, opens_turn, FindsCommitted, Finds}
use Rattle.chk_collector_run.specs.Messages.{IsReadOn, whole, came, over, broken, unread, unkept, IsReplied, sent, unreplied, unsent, IsPassedOn, lost, passed_on, unpassed, undone, IsAnswered, replied, wait_behind, further_wait, long_bytes, IsTakenUpTo, enough, none, one, untaken, unanswered}
use Rattle.chk_collector_run.proofs.SettledSinks.{all_committed}

-- ---- steps that open no turn

abbrev pub OpensNone : History → Step → Type 0
OpensNone before step = opens_turn (deed step.act) → ⊥

opening_talks : (call : Call) (words : List (List ℕ)) (number max : ℕ)
    → opens_turn (deed_by call words number max) → is_message call ≡ true
opening_talks Take words number max opens = refl
opening_talks call words number max opens = absurd opens

-- what makes no message opens none
pub quiet_opens : {who : Who} {old new : Option History} → Adds old new (Owns (IsBy who))
    → Adds old new (Owns OpensNone)
quiet_opens {who = who} told = adds_as (Owns OpensNone) told go
  where
    go : (added history : History) → Owns (IsBy who) added history → Owns OpensNone added history
    go [] history own = tt
    go (step ∷ added) history own = (
      go added history own.0,
      λ mine opens.
          true≢false (sym (opening_talks step.act.call step.act.words step.act.number step.act.max
          opens) ∙ (own.1 mine).quiet),
    )

-- nor does another call than the first taking of a turn
pub call_opens : {q : Asked} (given : Result ActAnswer CallFault) {old new : Option History}
    → (opens_turn (deed_by q.call q.words q.number q.max) → ⊥) → Adds old new (Calls q given)
    → Adds old new (Owns OpensNone)
call_opens given no_opening told =
    adds_as (Owns OpensNone) told (λ added history calls. call_owned OpensNone given
    (λ before answer files logs running. no_opening) calls)

pub opens_then : {old mid new : Option History} → Adds old mid (Owns OpensNone)
    → Adds mid new (Owns OpensNone) → Adds old new (Owns OpensNone)
opens_then p q =
    adds_then (Owns OpensNone) p q (λ a b h x y. every_join (λ before step. step.own ≡ true
    → OpensNone before step) b a h x y)

-- ---- the sends open no turn

send_opens : {who : Who} {items : List Teed} {x : Subscriber} {given : Result ℕ CallFault}
    {old new : Option History} → IsSentTo who items x given old new → Adds old new (Owns OpensNone)
send_opens {given = given} told =
    adds_as (Owns OpensNone) told.told (λ added history calls. call_owned OpensNone _
    (λ before answer files logs running x. x) calls.1)

stays_opens : {old new : Option History} → new ≡ old → Adds old new (Owns OpensNone)
stays_opens {old = old} is =
    subst (λ (n : Option History). Adds old n (Owns OpensNone)) (sym is)
    (adds_none old (Owns OpensNone) (λ h. tt))

passes_open : {who : Who} {items : List Teed} {a b : List Subscriber} {sent lost : ℕ}
    {end : Result (Unit {0}) NoMemory} {old new : Option History}
    → PassesOn who items a b sent lost end old new → Adds old new (Owns OpensNone)
passes_open all_passed = stays_opens refl
passes_open wanting = stays_opens refl
passes_open (passed_by by rest) = opens_then (stays_opens by.1) (passes_open rest)
passes_open (sent_to by rest) = opens_then (send_opens by.1) (passes_open rest)
passes_open (dropped by rest) = opens_then (send_opens by) (passes_open rest)
passes_open (ended (inl is)) = stays_opens is
passes_open (ended (inr by)) = send_opens by

told_open : (who : Who) (items : List Teed) (a b : List Subscriber)
    (result : Result Passed NoMemory) {old new : Option History}
    → Passes who items a b result old new → Adds old new (Owns OpensNone)
told_open who items a b (Ok numbers) passes = passes_open passes
told_open who items a b (Err fault) passes = passes_open passes.2

pub pass_opens : {who : Who} {request reply : List ℕ} {a b : List Subscriber}
    {result : Result Passed NoMemory} {old new : Option History}
    → IsPassed who request reply a b result old new → Adds old new (Owns OpensNone)
pass_opens (nobody is did) = stays_opens did.quiet
pass_opens (nothing is did) = stays_opens did.quiet
pass_opens {result = result} (passed chunks acks post did) = told_open _ _ _ _ result did

-- ---- a message

read_opens : {who : Who} {t : ℕ} {bytes : List ℕ} {got : Result (Option (List ℕ)) NoMemory} {old
    new : Option History}
    → IsReadOn who t bytes got old new → Adds old new (Owns OpensNone)
read_opens (whole shut) = adds_none _ (Owns OpensNone) (λ h. tt)
read_opens (came piece yet some call more) = opens_then (call_opens _ (λ x. x) call) (read_opens
    more)
read_opens (over yet call) = call_opens _ (λ x. x) call
read_opens (broken yet call) = call_opens _ (λ x. x) call
read_opens (unread yet call) = call_opens _ (λ x. x) call
read_opens (unkept piece yet some call) = call_opens _ (λ x. x) call

reply_opens : {who : Who} {t : ℕ} {request : List ℕ} {s u : State}
    {result : Result (Option (List ℕ)) NoMemory} {old new : Option History}
    → IsReplied who t request s result old u new → Adds old new (Owns OpensNone)
reply_opens (sent reply given handled fine call) =
    opens_then (quiet_opens handled.quiet) (call_opens _ (λ x. x) call)
reply_opens (unreplied handled) = quiet_opens handled.quiet
reply_opens (unsent reply handled call) =
    opens_then (quiet_opens handled.quiet) (call_opens _ (λ x. x) call)

passed_opens : {who : Who} {t : ℕ} {request : List ℕ} {s u : State} {a b : List Subscriber}
    {result : Result ℕ NoMemory} {old new : Option History}
    → IsPassedOn who t request s a result old u b new → Adds old new (Owns OpensNone)
passed_opens (lost reply) = reply_opens reply
passed_opens (passed_on bytes numbers reply did) = opens_then (reply_opens reply) (pass_opens did)
passed_opens (unpassed bytes reply did) = opens_then (reply_opens reply) (pass_opens did)
passed_opens (undone reply) = reply_opens reply

pub message_opens : {who : Who} {t : ℕ} {bytes : List ℕ} {s u : State} {a b : List Subscriber}
    {result : Result ℕ NoMemory} {old new : Option History}
    → IsAnswered who t bytes s a result old u b new → Adds old new (Owns OpensNone)
message_opens (IsAnswered.broken read) = read_opens read
message_opens (IsAnswered.unread read) = read_opens read
message_opens (replied request read reply) = opens_then (read_opens read) (passed_opens reply)

-- a further message is waited for less long than the first one
behind_less : (size : ℕ) → wait_behind size ≡ 1000 → ⊥
behind_less size = by (nat_lt size long_bytes)
  where
    by : (b : Bool) → (if b then 0 else further_wait) ≡ 1000 → ⊥
    by true e = omega (arith, e)
    by false e = omega (arith, e)

-- a taking that waits less long opens none
less_opens : {who : Who} {door : List ℕ} {wait : ℕ} (given : ℕ → Result ActAnswer CallFault)
    {old new : Option History} → (wait ≡ 1000 → ⊥)
    → Adds old new (CallsSome (λ of. asked who Take (door ∷ []) wait 0) given)
    → Adds old new (Owns OpensNone)
less_opens given less told =
    adds_as (Owns OpensNone) told (λ added history calls. call_owned OpensNone (given calls.0)
    (λ before answer files logs running. less) calls.1)

-- behind the first taking, whatever the turn takes opens none
further_opens : {who : Who} {door : List ℕ} {left wait : ℕ} {s u : State} {a b : List Subscriber}
    {result : Result (Unit {0}) SinkFault} {old new : Option History} → (wait ≡ 1000 → ⊥)
    → IsTakenUpTo who door left wait s a old result u b new → Adds old new (Owns OpensNone)
further_opens less enough = adds_none _ (Owns OpensNone) (λ h. tt)
further_opens less (none call) = less_opens _ less call
further_opens less (one {n = n} taking call answer rest) =
    opens_then (less_opens _ less call)
    (opens_then (message_opens answer) (further_opens (behind_less n) rest))
further_opens less (untaken fault given ends call) = less_opens _ less call
further_opens less (unanswered taking fault call answer) =
    opens_then (less_opens _ less call) (message_opens answer)

-- ---- how findings join

pub finds_none : (S : History → Step → Type 0) (name : List ℕ) (A : History
    → Type 0) {old new : Option History}
    → Adds old new (Owns OpensNone) → Adds old new (Finds S name A)
finds_none S name A told = adds_as (Finds S name A) told (λ added history own others a. go added
    history own)
  where
    go : (added history : History) → Owns OpensNone added history
        → Every (FindsCommitted name) added history
    go [] history own = tt
    go (step ∷ added) history own = (
      go added history own.0,
      λ mine opens. absurd (own.1 mine opens),
    )

pub finds_then : {S : History → Step → Type 0} {Mine : History → Step
    → Type 0} (name : List ℕ) {A B : History → Type 0}
    {old mid new : Option History} → Adds old mid (Leads (record { others = S; own = Mine }) A B)
    → Adds old mid (Finds S name A)
    → Adds mid new (Finds S name B) → Adds old new (Finds S name A)
finds_then {S = S} name {A = A} {B = B} leads first second =
    let O : History → Step → Type 0 = λ before step. step.own ≡ false → S before step in
    let F : History → History → Type 0 = λ added history. Others S added history → A history
    → Every (FindsCommitted name) added history × B (added ++ history) in
    adds_then (Finds S name A)
    (adds_both F leads first (λ added history x y others a. (y others a, x.leads others a))) second
    (λ a b history x y others h.
    let early = x (every_early O b a history others) h in
    every_join (FindsCommitted name) b a history early.0 (y (every_late O b a history others)
    early.1))

-- ---- the taking

module _ (stamped : List (List ℕ)) (s : State) (settled : IsSettled s) where
  abbrev pub Found : History → History → Type 0
  Found = Finds (Foreign stamped (process s)) s.collector (Matches stamped s)

  theirs_match : (added history : History) → Every IsTheirs added history
      → Others (Foreign stamped (process s)) added history
      → Matches stamped s history → Matches stamped s (added ++ history)
  theirs_match [] history theirs others h = h
  theirs_match (step ∷ added) history theirs others h =
      told_stays stamped (process s) (Holds s) (holds_stay stamped s) (added ++ history) step
      theirs.1.0 (others.1 theirs.1.0)
      (theirs_match added history theirs.0 others.0 h)

  theirs_find : (added history : History) → Every IsTheirs added history
      → Every (FindsCommitted s.collector) added history
  theirs_find [] history theirs = tt
  theirs_find (step ∷ added) history theirs =
      (theirs_find added history theirs.0, λ mine. absurd (true≢false (sym mine ∙ theirs.1.0)))

  acted_finds : {q : Asked} {answer : ActAnswer} {added history : History}
      → Acted q answer added history → Found added history
  acted_finds {history = history} acted =
      subst (λ (a : History). Found a history) (sym acted.added_is)
      (λ others h.
      let before = theirs_match acted.others history acted.theirs others.0 h in
      let running = theirs_run acted.others history acted.theirs acted.running in (
        theirs_find acted.others history acted.theirs,
        λ mine opens. all_committed stamped s (acted.others ++ history) before.legal (before.alive
            running) settled,
      ))

  added_finds : (q : Asked) (result : Result ActAnswer CallFault) (added history : History)
      → Added q result added history → Found added history
  added_finds q (Ok answer) added history a = acted_finds a
  added_finds q (Err Failed) added history (inl a) = acted_finds a
  added_finds q (Err Failed) added history (inr a) = acted_finds a.1
  added_finds q (Err Missing) added history a = acted_finds a
  added_finds q (Err Exists) added history a = acted_finds a
  added_finds q (Err (Short size)) added history a = acted_finds a
  added_finds q (Err no_memory) added history a = λ others h. theirs_find added history a

  call_finds : {q : Asked} (result : Result ActAnswer CallFault) (added history : History)
      → Calls q result added history → Found added history
  call_finds {q = q} result added history calls = go (is_stopped history) refl
    where
      go : (b : Bool) → is_stopped history ≡ b → Found added history
      go true e = subst (λ (a : History). Found a history) (sym (calls.stopped e).0) (λ others h.
          tt)
      go false e = added_finds q result added history (calls.running e)

  some_finds : (q : ℕ → Asked) (result : ℕ → Result ActAnswer CallFault) {old new : Option History}
      → Adds old new (CallsSome q result)
      → Adds old new Found
  some_finds q result told =
      adds_as Found told (λ added history calls. call_finds {q = q calls.0} (result calls.0) added
      history calls.1)

  -- what comes behind opens none
  pub found_then : {old mid new : Option History} → Adds old mid Found
      → Adds mid new (Owns OpensNone) → Adds old new Found
  found_then p q =
      let O : History → Step → Type 0 = λ before step. step.own ≡ false
      → Foreign stamped (process s) before step in
      adds_then Found p (finds_none (λ before step. Unit {0}) s.collector (λ h. Unit {0}) q)
      (λ a b history x y others h.
      every_join (FindsCommitted s.collector) b a history (x (every_early O b a history others) h)
      (y (anyone b (a ++ history)) tt))
    where
      anyone : (added history : History) → Others (λ before step. Unit {0}) added history
      anyone [] history = tt
      anyone (step ∷ added) history = (anyone added history, λ theirs. tt)

  -- of the takings of a turn and what comes of them
  pub taken_finds : {door : List ℕ} {most wait : ℕ} {result : Result (Unit {0}) SinkFault}
      {u : State} {a b : List Subscriber} {old new : Option History}
      → IsTakenUpTo (process s) door most wait s a old result u b new → Adds old new Found
  taken_finds enough = adds_none _ Found (λ history others h. tt)
  taken_finds {door = door} {wait = wait} (none call) = some_finds (λ of. asked (process s) Take
      (door ∷ []) wait 0) _ call
  taken_finds {door = door} {wait = wait} (one {n = n} taking call answer rest) =
      found_then (some_finds (λ of. asked (process s) Take (door ∷ []) wait 0) _ call)
      (opens_then (message_opens answer) (further_opens (behind_less n) rest))
  taken_finds {door = door} {wait = wait} (untaken fault given ends call) =
      some_finds (λ of. asked (process s) Take (door ∷ []) wait 0) _ call
  taken_finds {door = door} {wait = wait} (unanswered taking fault call answer) =
      found_then (some_finds (λ of. asked (process s) Take (door ∷ []) wait 0) _ call)
      (message_opens answer)
