-- An exchange gives up no sink of the collector's start.
use Rattle.std.proofs.Common.{◌≡◌, ◌⊎◌, inl, inr, ℕ, Bool, true, false, List, [], ◌∷◌, ◌++◌, Option, Some, None, Result, Ok, Err, refl, sym, subst}
use Rattle.std.specs.Prelude.{Contains, IsTrue, MatchBool}
use Rattle.std.proofs.lemmas.Option.{none-some}
use Rattle.chk_bytes.specs.declared.NoMemory.{NoMemory as Wanting}
use Rattle.chk_bytes.specs.Stems.{Stem, is_collector}
use Rattle.chk_site.specs.declared.acts.ActAnswer.{ActAnswer}
use Rattle.chk_site.specs.declared.acts.Call.TheVariants.{Answer, Take}
use Rattle.chk_site.specs.declared.acts.CallFault.{CallFault}
use Rattle.chk_site.specs.declared.acts.CallFault.TheVariants.{Failed, NoMemory as site_wanting}
use Rattle.chk_site.specs.declared.acts.OutsideFault.{OutsideFault}
use Rattle.chk_site.specs.declared.acts.Role.TheVariants.{Agent, Collector}
use Rattle.chk_site.specs.declared.acts.Who.{Who}
use Rattle.chk_site.specs.declared.suffixes.Taking.{Taking}
use Rattle.chk_site.specs.Acts.{Deed, Creates, Appends, AsksSize, Reads, deed}
use Rattle.chk_site.specs.History.{History, Others}
use Rattle.chk_site.specs.Messages.{self_address}
use Rattle.chk_site.specs.Runs.{Owns}
use Rattle.chk_site.specs.Site.{Adds, Asked, Calls, CallsSome, answered, asked, bytes_given, plain, sized, taking_given}
use Rattle.chk_site.proofs.Leads.{call_owned}
use Rattle.chk_site.proofs.Runs.{adds_as, adds_both, adds_none}
use Rattle.chk_world.specs.NamedEnds.{cuts_sink}
use Rattle.chk_world.specs.Places.{IsMadeBy}
use Rattle.chk_world.specs.Rules.{Legal}
use Rattle.chk_world.specs.Together.{IsByOne, Outside}
use Rattle.chk_world.specs.Works.{Asks, Works, deed_of}
use Rattle.chk_world.proofs.Beside.{all_stay, others_foreign, owns_as, stay_both, stay_told}
use Rattle.chk_world.proofs.Working.{works_own}
use Rattle.chk_sink.specs.Held.{Holds, Matches as SinksMatch}
use Rattle.chk_sink.specs.States.{IsSameStart, State as Sinks, last_stem, needs_next, next_stem, process}
use Rattle.chk_sink.specs.Works.{IsAppendTo, IsMaking, OfPut, OfQuestion}
use Rattle.chk_sink.proofs.HoldsStay.{holds_stay}
use Rattle.chk_collector.specs.Handled.{OfRequest}
use Rattle.chk_collector.specs.Outcomes.{Outcome, OutcomeFull, OutcomeState, Refused as was_refused, BadPost, Lines, Fails, Replied}
use Rattle.chk_collector.specs.Passing.{LeavesFull, RequestLeavesFull}
use Rattle.chk_collector_run.specs.Legality.{HasTaken}
use Rattle.chk_collector_run.proofs.Talking.{took}
use Rattle.chk_agent_delivery.specs.declared.answers.Answered.{Answered}
use Rattle.chk_agent_delivery.specs.declared.answers.Below.{Below}
use Rattle.chk_agent_delivery.specs.declared.answers.PollAnswer.{PollAnswer}
use Rattle.chk_agent_delivery.specs.declared.answers.Polled.{Polled}
use Rattle.chk_agent_delivery.specs.declared.answers.Posted.{Posted}
use Rattle.chk_agent_delivery.specs.Scripts as script
use Rattle.chk_agent_delivery.specs.Scripts.{AsksReply, IsPolled, IsPollReplied, IsPosted, IsPostReplied, Sends}
use Rattle.chk_agent_delivery.specs.States.{State as Delivery}
use Rattle.chk_agent.specs.States.{State as Agents, process as agent_of}
use Rattle.chk_exchange.specs.declared.fault.ExchangeFault.{ExchangeFault}
use Rattle.chk_exchange.specs.Exchanges as inside
use Rattle.chk_exchange.specs.Exchanges.{EndsPoll, EndsPost, PollsInside, PostsInside, Responds, Serves, Takes}
use Rattle.chk_exchange.specs.Faults.{IsMade}
use Rattle.chk_exchange.proofs.Responding.{of_any}
use Rattle.chk_round.specs.Keeping.{SinksKept}
use Rattle.chk_round.proofs.Keeping.{Carries, Cutless, IsSparing, carries_as, carries_over, carries_then, cutless_carries, none_of, other_over, owns_join, passed_of, sparing_over}

-- ---- calls that neither cut nor remove a sink

call_cutless : (q : Asked) (given : Result ActAnswer CallFault) → ((x : Stem) → cuts_sink x (deed_of q) ≡ false)
    → {old new : Option History} → Adds old new (Calls q given) → Adds old new (Owns Cutless)
call_cutless q given is p =
    adds_as (Owns Cutless) p
    (λ a h made. call_owned Cutless given (λ before answer files logs running. is) made)

some_cutless : (q : ℕ → Asked) (given : ℕ → Result ActAnswer CallFault)
    → ((n : ℕ) (x : Stem) → cuts_sink x (deed_of (q n)) ≡ false)
    → {old new : Option History} → Adds old new (CallsSome q given) → Adds old new (Owns Cutless)
some_cutless q given is p =
    adds_as (Owns Cutless) p
    (λ a h made. call_owned Cutless (given made.0) (λ before answer files logs running. is made.0) made.1)

pub works_cutless : {who : Who} {P : Deed → Type 0} {fault : Option OutsideFault}
    → ((call : Deed) → P call → (x : Stem) → cuts_sink x call ≡ false)
    → {old new : Option History} → Works who P fault old new → Adds old new (Owns Cutless)
works_cutless {who = who} {P = P} kind works =
    adds_as (Owns Cutless) (works_own works)
    (owns_as (Asks who P) Cutless (λ before step asks. kind (deed step.act) asks.allowed))

appends_cutless : (y : Stem) (call : Deed) → IsAppendTo y call → (x : Stem) → cuts_sink x call ≡ false
appends_cutless y (Appends w piece) is x = refl
appends_cutless y call is x = absurd is

makes_cutless : (y : Stem) (call : Deed) → IsMaking y call → (x : Stem) → cuts_sink x call ≡ false
makes_cutless y (Creates w) is x = refl
makes_cutless y (Appends w piece) is x = refl
makes_cutless y call is x = absurd is

put_cutless : (s : Sinks) (call : Deed) → OfPut s call → (x : Stem) → cuts_sink x call ≡ false
put_cutless s call is = go (needs_next s.current) is
  where
    go : (b : Bool) → MatchBool b (IsMaking (next_stem s) call) (IsAppendTo (last_stem s) call)
        → (x : Stem) → cuts_sink x call ≡ false
    go true is = makes_cutless (next_stem s) call is
    go false is = appends_cutless (last_stem s) call is

question_cutless : (y : Stem) (call : Deed) → OfQuestion y call → (x : Stem) → cuts_sink x call ≡ false
question_cutless y (AsksSize w) is x = refl
question_cutless y (Reads w at max) is x = refl
question_cutless y call is x = absurd is

request_cutless : (bytes : List ℕ) (s : Sinks) (call : Deed) → OfRequest bytes s call → (x : Stem) → cuts_sink x call ≡ false
request_cutless bytes s call (inl post) = put_cutless post.2.1 call post.2.3
request_cutless bytes s call (inr poll) = question_cutless poll.2.0 call poll.2.2

-- ---- the collector's part

-- what is known of the sinks
abbrev pub Known : List (List ℕ) → Sinks → History → Type 0
Known stamped s h = SinksMatch stamped s h × SinksKept s h

-- a sink is abandoned only where one was full, by a reply that tells no fault
leaves_full : (request : List ℕ) (s u : Sinks) (o : Outcome) {old new : Option History} → IsMade o None
    → OutcomeState request s u o → OutcomeFull request s u old new o
    → (u ≡ s) ⊎ RequestLeavesFull request s u old new
leaves_full request s u (Lines acks) made state full = inr full
leaves_full request s u (was_refused fault) made state full = inl state
leaves_full request s u (BadPost fault) made state full = inl state
leaves_full request s u (Fails fault) made state full = absurd (none-some made.0 made.1)

module _ (stamped : List (List ℕ)) (started acting : List Who) (s u : Sinks) (one : Contains started (process s))
    (same : IsSameStart s u) where
  module _ (request reply : List ℕ) (t : ℕ) {before now : ℕ} {old new : Option History}
      (replied : Replied request s u before now old new reply) where
    abbrev After : History → History → Type 0
    After added history =
        Legal stamped (added ++ history) → Others (Outside stamped started) added history → Owns (IsByOne acting) added history
        → HasTaken stamped s t request history × SinksKept s history → SinksKept u (added ++ history)

    cutless : Adds old new (Owns Cutless)
    cutless = works_cutless (request_cutless request s) replied.own

    -- where no more is abandoned
    keeps_same : (added history : History) → SinksKept s (added ++ history) → u ≡ s → SinksKept u (added ++ history)
    keeps_same added history kept is = subst (λ v. SinksKept v (added ++ history)) (sym is) kept

    keeps_full : (added history : History) → SinksKept s (added ++ history) → LeavesFull s u (added ++ history)
        → SinksKept u (added ++ history)
    keeps_full added history kept full running = record {
      none = none_of s u same.collector same.born (added ++ history) (kept running).none;
      full = λ left. passed_of s u same.collector same.born (added ++ history) (elim (full running left) [
        | inl was ↦ (kept running).full was
        | inr passed ↦ passed
      ]);
    }

    carried : (added history : History) → Owns Cutless added history → Legal stamped (added ++ history)
        → Others (Outside stamped started) added history → Owns (IsByOne acting) added history → SinksKept s history
        → SinksKept s (added ++ history)
    carried added history cut legal others own kept =
        all_stay stamped started IsSparing (SinksKept s) (sparing_over stamped started s one) added history legal others
        (owns_join Cutless (IsByOne acting) IsSparing
        (λ before step cutless by. record { running = by.running; cutless = cutless }) added history cut own) kept

    request_keeps : IsMade replied.outcome None → Adds old new After
    request_keeps made = go (leaves_full request s u replied.outcome made replied.state replied.full)
      where
        go : (u ≡ s) ⊎ RequestLeavesFull request s u old new → Adds old new After
        go (inl is) =
            adds_as After cutless
            (λ added history cut legal others own h. keeps_same added history (carried added history cut legal others own h.1) is)
        go (inr full) =
            adds_both After cutless
            (of_any stamped s u t request (λ others h. LeavesFull s u h) (LeavesFull s u) (λ
            others. full stamped t [] others)
            (λ h others x. x))
            (λ added history cut y legal others own h.
            keeps_full added history (carried added history cut legal others own h.1)
            (y.leads (others_foreign stamped started (process s) one added history others) h.0))

  one_u : Contains started (process u)
  one_u = subst (λ n. Contains started (record { role = Collector; name = n })) (sym same.collector) one

  module _ (named : IsTrue (is_collector s.collector)) where
    pub take_keeps : (given : Result (Option Taking) CallFault) {old new : Option History} → Takes (process s) given old new
        → Carries stamped started acting (SinksKept s) (SinksKept s) old new
    take_keeps given call =
        cutless_carries stamped started acting s one
        (some_cutless (λ of. asked (process s) Take (self_address ∷ []) 0 0) (λ of. answered (taking_given of) given)
        (λ n x. refl) call)

    pub taken : (taking : Taking) {old new : Option History} → Takes (process s) (Ok (Some taking)) old new
        → Carries stamped started acting (Known stamped s) (λ h. HasTaken stamped s taking.number taking.bytes h × SinksKept s h) old new
    taken taking call =
        adds_both
        (λ added history. Legal stamped (added ++ history) → Others (Outside stamped started) added history
        → Owns (IsByOne acting) added history → Known stamped s history
        → HasTaken stamped s taking.number taking.bytes (added ++ history) × SinksKept s (added ++ history))
        (took stamped s named self_address 0 taking call) (take_keeps (Ok (Some taking)) call)
        (λ added history x y legal others own h. (
          x.leads (others_foreign stamped started (process s) one added history others) h.0,
          y legal others own h.1,
        ))

    answer_keeps : (t : ℕ) (reply : List ℕ) (given : Result (Unit {0}) CallFault) {old new : Option History}
        → inside.Answers (process s) t reply given old new → Carries stamped started acting (SinksKept u) (SinksKept u) old new
    answer_keeps t reply given call =
        cutless_carries stamped started acting u one_u
        (call_cutless (asked (process s) Answer (reply ∷ []) t 0) (answered plain given) (λ x. refl) call)

    pub responds_keeps : {taking : ℕ} {request : List ℕ} {old new : Option History}
        → Responds (process s) s taking request (Ok None) u old new
        → Carries stamped started acting (λ h. HasTaken stamped s taking request h × SinksKept s h) (SinksKept u) old new
    responds_keeps {taking = taking} {request = request} (Responds.sent reply made replied is call) =
        carries_then stamped started acting (λ h. HasTaken stamped s taking request h × SinksKept s h) (SinksKept u) (SinksKept u)
        (request_keeps request reply taking replied is)
        (answer_keeps taking reply (Ok tt) call)

serves_keeps : (stamped : List (List ℕ)) (started acting : List Who) {s u : Sinks} → Contains started (process s)
    → IsSameStart s u → IsTrue (is_collector s.collector) → {old new : Option History}
    → Serves (process s) s (Ok None) u old new
    → Carries stamped started acting (Known stamped s) (SinksKept u) old new
serves_keeps stamped started acting {s = s} one same named (Serves.none call) =
    carries_as stamped started acting (SinksKept s) (Known stamped s) (SinksKept s) (SinksKept s) (λ h x. x.1) (λ h x. x)
    (take_keeps stamped started acting s s one same named (Ok None) call)
serves_keeps stamped started acting {s = s} {u = u} one same named (Serves.taken taking call responds) =
    carries_then stamped started acting (Known stamped s) (λ h. HasTaken stamped s taking.number taking.bytes h × SinksKept s h)
    (SinksKept u) (taken stamped started acting s u one same named taking call)
    (responds_keeps stamped started acting s u one same named responds)

-- ---- the agent's part

-- the own steps are by this process
abbrev Mine : Who → History → History → Type 0
Mine who = Owns (IsMadeBy who)

module _ {who : Who} where
  none_mine : (now : Option History) → Adds now now (Mine who)
  none_mine now = adds_none now (Mine who) (λ history. tt)

  sends_mine : (address bytes : List ℕ) (given : Result ℕ CallFault) {old new : Option History}
      → Sends who address bytes given old new → Adds old new (Mine who)
  sends_mine address bytes given p =
      adds_as (Mine who) p
      (λ a h made. call_owned (IsMadeBy who) (answered sized given)
      (λ before answer files logs running. record { by = refl; running = running }) made.1)

  asks_mine : (m : ℕ) (given : Result (List ℕ) CallFault) {old new : Option History} → AsksReply who m given old new
      → Adds old new (Mine who)
  asks_mine m given p =
      adds_as (Mine who) p
      (λ a h made. call_owned (IsMadeBy who) (answered bytes_given given)
      (λ before answer files logs running. record { by = refl; running = running }) made)

  posted_mine : {d e : Delivery} {given : Result Posted Wanting} {old new : Option History}
      → IsPosted who d given e old new → Adds old new (Mine who)
  posted_mine (script.empty {now = now} is) = none_mine now
  posted_mine (script.no_rows {now = now} some is) = none_mine now
  posted_mine (script.sent front bytes m is written call) = sends_mine _ bytes (Ok m) call
  posted_mine (script.failed front bytes is written call) = sends_mine _ bytes (Err Failed) call
  posted_mine (script.unsent {now = now} fault) = none_mine now
  posted_mine (script.refused fault front bytes is written call) = sends_mine _ bytes (Err site_wanting) call

  replied_mine : {now : ℕ} {d e : Delivery} {given : Result Answered Wanting} {old new : Option History}
      → IsPostReplied who now d given e old new → Adds old new (Mine who)
  replied_mine (script.nothing {at = at} is) = none_mine at
  replied_mine (script.got p bytes is call takes) = asks_mine p.message (Ok bytes) call
  replied_mine (script.silent p is call) = asks_mine p.message (Err Failed) call
  replied_mine (script.wanting fault p is call) = asks_mine p.message (Err site_wanting) call

  polled_mine : {d e : Delivery} {given : Result Polled Wanting} {old new : Option History}
      → IsPolled who d given e old new → Adds old new (Mine who)
  polled_mine (script.none {now = now} is) = none_mine now
  polled_mine (script.sent bytes m written call) = sends_mine _ bytes (Ok m) call
  polled_mine (script.failed bytes written call) = sends_mine _ bytes (Err Failed) call
  polled_mine (script.unsent {now = now} fault) = none_mine now
  polled_mine (script.refused fault bytes written call) = sends_mine _ bytes (Err site_wanting) call

  lengths_mine : {d e : Delivery} {given : Result PollAnswer Wanting} {old new : Option History}
      → IsPollReplied who d given e old new → Adds old new (Mine who)
  lengths_mine (script.nothing {at = at} is) = none_mine at
  lengths_mine (script.got p bytes is call takes) = asks_mine p.message (Ok bytes) call
  lengths_mine (script.silent p is call) = asks_mine p.message (Err Failed) call
  lengths_mine (script.wanting fault p is call) = asks_mine p.message (Err site_wanting) call

module _ (stamped : List (List ℕ)) (started acting : List Who) (s : Sinks) (one : Contains started (process s)) (source : List ℕ) where
  abbrev A : Who
  A = record { role = Agent; name = source }

  agent_keeps : {old new : Option History} → Adds old new (Owns (IsMadeBy A))
      → Carries stamped started acting (SinksKept s) (SinksKept s) old new
  agent_keeps mine =
      carries_over stamped started acting (IsMadeBy A) (IsMadeBy A) (λ before step by run. by)
      (other_over stamped started s one A refl (IsMadeBy A) (λ before step own. own.by) (λ before step own. own.running)) mine

  agent_knows : {old new : Option History} → Adds old new (Owns (IsMadeBy A))
      → Carries stamped started acting (Known stamped s) (Known stamped s) old new
  agent_knows mine =
      carries_over stamped started acting (IsMadeBy A) (IsMadeBy A) (λ before step by run. by)
      (stay_both
      (stay_told stamped started A (process s) one refl (IsMadeBy A) (λ before step own. own.by) (λ before step own. own.running)
      (Holds s) (holds_stay stamped s))
      (other_over stamped started s one A refl (IsMadeBy A) (λ before step own. own.by) (λ before step own. own.running))) mine

-- ---- an exchange

-- what an exchange from the first sinks to the second ones keeps
abbrev pub KeepsOver : Sinks → Sinks → Option History → Option History → Type 0
KeepsOver s t old new =
    (stamped : List (List ℕ)) (started acting : List Who) → Contains started (process s)
    → Carries stamped started acting (Known stamped s) (SinksKept t) old new

still_one : (started : List Who) {s t : Sinks} → IsSameStart s t → Contains started (process s) → Contains started (process t)
still_one started same one =
    subst (λ n. Contains started (record { role = Collector; name = n })) (sym same.collector) one

post_ended : {now count : ℕ} {b c : Agents} {made : Option ExchangeFault} {old new : Option History}
    → EndsPost now count b made (Ok tt) c old new → (made ≡ None) × Adds old new (Owns (IsMadeBy (agent_of b)))
post_ended (EndsPost.taken none replies) = (none, replied_mine replies.made)

pub post_keeps : {now : ℕ} {s t : Sinks} {a b : Agents} {old new : Option History} → IsTrue (is_collector s.collector)
    → IsSameStart s t → PostsInside (process s) now s a (Ok tt) t b old new → KeepsOver s t old new
post_keeps {s = s} {t = t} {a = a} named same (PostsInside.ended {b = b} {mid = mid} {next = next} count made posts serves ends)
    stamped started acting one =
    let end = post_ended ends in
    carries_then stamped started acting (Known stamped s) (Known stamped s) (SinksKept t)
    (agent_knows stamped started acting s one a.source (posted_mine posts.made))
    (carries_then stamped started acting (Known stamped s) (SinksKept t) (SinksKept t)
    (serves_keeps stamped started acting one same named (subst (λ m. Serves (process s) s (Ok m) t mid next) end.0 serves))
    (agent_keeps stamped started acting t (still_one started same one) b.source end.1))

poll_ended : {count : ℕ} {b c : Agents} {made : Option ExchangeFault} {below : Option Below} {old new : Option History}
    → EndsPoll count b made (Ok below) c old new → (made ≡ None) × Adds old new (Owns (IsMadeBy (agent_of b)))
poll_ended (EndsPoll.taken below none replies) = (none, lengths_mine replies.made)

pub poll_keeps : {s t : Sinks} {a b : Agents} {below : Option Below} {old new : Option History}
    → IsTrue (is_collector s.collector)
    → IsSameStart s t → PollsInside (process s) s a (Ok below) t b old new → KeepsOver s t old new
poll_keeps {s = s} {t = t} {a = a} named same (PollsInside.ended {b = b} {mid = mid} {next = next} count made polls serves ends)
    stamped started acting one =
    let end = poll_ended ends in
    carries_then stamped started acting (Known stamped s) (Known stamped s) (SinksKept t)
    (agent_knows stamped started acting s one a.source (polled_mine polls.made))
    (carries_then stamped started acting (Known stamped s) (SinksKept t) (SinksKept t)
    (serves_keeps stamped started acting one same named (subst (λ m. Serves (process s) s (Ok m) t mid next) end.0 serves))
    (agent_keeps stamped started acting t (still_one started same one) b.source end.1))

-- by the collector's name
pub post_keeps_by : {who : Who} {now : ℕ} {s t : Sinks} {a b : Agents} {old new : Option History} → who ≡ process s
    → IsTrue (is_collector who.name) → IsSameStart s t → PostsInside who now s a (Ok tt) t b old new → KeepsOver s t old new
post_keeps_by {now = now} {s = s} {t = t} {a = a} {b = b} {old = old} {new = new} is named same posts =
    post_keeps (subst (λ (w : Who). IsTrue (is_collector w.name)) is named) same
    (subst (λ w. PostsInside w now s a (Ok tt) t b old new) is posts)

pub poll_keeps_by : {who : Who} {s t : Sinks} {a b : Agents} {below : Option Below} {old new : Option History} → who ≡ process s
    → IsTrue (is_collector who.name) → IsSameStart s t → PollsInside who s a (Ok below) t b old new → KeepsOver s t old new
poll_keeps_by {s = s} {t = t} {a = a} {b = b} {below = below} {old = old} {new = new} is named same polls =
    poll_keeps (subst (λ (w : Who). IsTrue (is_collector w.name)) is named) same
    (subst (λ w. PollsInside w s a (Ok below) t b old new) is polls)
