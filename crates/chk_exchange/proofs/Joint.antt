-- The calls of one exchange: each process's own, and what the other knows beside it.
use Rattle.std.proofs.Common.{◌≡◌, ℕ, true, false, List, [], ◌∷◌, Option, Some, None, Result, Ok, refl, sym, ap}
use Rattle.std.specs.Prelude.{IsTrue, Contains}
use Rattle.chk_bytes.specs.Stems.{is_collector}
use Rattle.chk_site.specs.declared.suffixes.Taking.{Taking}
use Rattle.chk_site.specs.declared.acts.Who.{Who}
use Rattle.chk_site.specs.declared.acts.Call.TheVariants.{Send, Got, Take, Answer}
use Rattle.chk_site.specs.declared.acts.CallFault.{CallFault}
use Rattle.chk_site.specs.Acts.{Sends}
use Rattle.chk_site.specs.Files.{Files}
use Rattle.chk_site.specs.Logs.{Logs}
use Rattle.chk_site.specs.History.{Step, History, is_stopped}
use Rattle.chk_site.specs.Messages.{self_address}
use Rattle.chk_site.specs.Site.{Adds, Asked, asked, own_step, answered, plain, sized, bytes_given, taking_given, Calls, CallsSome}
use Rattle.chk_site.specs.Runs.{Leads}
use Rattle.chk_site.proofs.Leads.{leads_as}
use Rattle.chk_world.specs.Knowing.{agent, Grows, Knows}
use Rattle.chk_world.specs.Mailbox.{IsEmptyFor, Waits, IsInHand}
use Rattle.chk_world.specs.Places.{IsBy, IsMadeBy, As, Making, Talking, AtTold}
use Rattle.chk_world.specs.Rules.{Legal}
use Rattle.chk_world.specs.Together.{Outside as OutsideOf, IsByOne, Together}
use Rattle.chk_world.proofs.AgentKnows.{knows_stays}
use Rattle.chk_world.proofs.Beside.{StaysOver, TheirsKeep, acts_beside, call_beside, calls_some, legal_beside, by_one, made_one, stay_both, stay_told}
use Rattle.chk_world.proofs.Mailbox.{IsApart, quiet_apart, foreign_apart, empty_stays, in_hand_stays, waits_stays, sends_waits, takes_whole, answers_surely, got_is}
use Rattle.chk_world.proofs.PlacesStay.{Stays}
use Rattle.chk_sink.specs.Held.{Holds, Matches as SinksMatch}
use Rattle.chk_sink.specs.States.{State as Sinks, process}
use Rattle.chk_sink.proofs.HoldsStay.{holds_stay}
use Rattle.chk_collector.specs.Answering.{MayAnswer}
use Rattle.chk_collector_run.specs.Legality.{HasTaken}
use Rattle.chk_collector_run.proofs.Talking.{took, untook, sent}
use Rattle.chk_agent_delivery.proofs.Growing.{holds_grows}
use Rattle.chk_agent.specs.States.{State as Agents, process as agent_of, basis_of}
use Rattle.chk_agent.specs.Facts.{Holds as AgentHolds, Matches as AgentMatches}
use Rattle.chk_agent.specs.Fits.{IsSound}
use Rattle.chk_agent.proofs.Soundness.{fits_basis}
use Rattle.chk_agent.proofs.TalkingTold.{readers_stay, told_beside}
use Rattle.chk_exchange.specs.declared.fault.ExchangeFault.{ExchangeFault}
use Rattle.chk_exchange.specs.Legality.{HoldsBehind, AllWaiting, AllTaken}

-- ---- what the agent knows stays

-- what an agent holds, where it is ready
abbrev pub Known : Agents → History → Type 0
Known a history = a.ready ≡ true → Knows a.source a.cluster a.saved (AgentHolds a) history

pub agent_stays : (stamped : List (List ℕ)) (a : Agents) → IsSound a
    → Stays stamped (agent_of a) (Known a)
agent_stays stamped a sound history step legal f h ready =
    knows_stays stamped a.source sound.source a.cluster a.saved
    (AgentHolds a) grows history step legal f (h ready)
  where
    grows : Grows stamped (agent a.source) (AgentHolds a)
    grows history step legal no_start h = record {
      readers = readers_stay stamped a sound.source history step legal h.readers;
      delivery =
          holds_grows stamped (basis_of a) a.delivery sound.source
          (fits_basis a sound) sound.delivery.valid history step
          legal no_start h.delivery;
    }

module _ (stamped : List (List ℕ)) (started acting : List Who) (s : Sinks) (a : Agents)
    (in_c : Contains started (process s)) (in_a : Contains started (agent_of a)) where
  abbrev C : Who
  C = process s

  abbrev A : Who
  A = agent_of a

  apart : (history : History) (step : Step) → OutsideOf stamped started history step
      → IsApart C step
  apart history step outside = foreign_apart C step outside.elsewhere (outside.foreign C in_c).other

  -- what the collector knows, while the agent acts
  sinks_over : (P : History → Type 0) → Stays stamped C P → (Own : History → Step → Type 0)
      → ((before : History) (step : Step) → Own before step → step.act.who ≡ A)
      → ((before : History) (step : Step) → Own before step → is_stopped before ≡ false)
      → StaysOver stamped started Own (AtTold stamped C P)
  sinks_over P stays Own by runs = stay_told stamped started A C in_c refl Own by runs P stays

  -- ---- the agent sends

  module _ (acts_a : Contains acting A) (b : Agents) where
    pub sent_all : (m : ℕ) (bytes : List ℕ) {old new : Option History}
        → Adds old new
        (Leads (Making stamped A Send) (AgentMatches stamped a) (AgentMatches stamped b))
        → Adds old new
        (CallsSome (λ n. asked A Send (self_address ∷ bytes ∷ []) n 0) (λ n. Ok (sized m)))
        → Adds old new (Leads (Together stamped started acting)
        (λ h. AgentMatches stamped a h × (SinksMatch stamped s h × IsEmptyFor C h))
        (AllWaiting stamped s b m bytes))
    sent_all m bytes told calls =
        call_beside stamped started A in_a (IsMadeBy A) (IsByOne acting) (made_one acting A acts_a)
        (λ h. SinksMatch stamped s h × IsEmptyFor C h)
        (λ h. SinksMatch stamped s h × Waits C m bytes h)
        (λ n. asked A Send (self_address ∷ bytes ∷ []) n 0) (λ n. sized m) (λ h x. x.legal)
        (λ history step is legal outside h. (
          stay.theirs history step is legal outside h.0,
          empty_stays C history step
              (apart history step outside) h.1,
        ))
        (λ n before files logs running legal h.
        let step = own_step (asked A Send (self_address ∷ bytes ∷ []) n 0) (sized m) files logs in
        let number : m ≡ n = legal.1.honest.agrees.1 in (
          stay.ours before step refl legal (record { by = refl; running = running }) h.0,
          sends_waits stamped C m bytes before step [] m 0 legal
              (ap (λ k. Sends k self_address bytes) (sym number)) refl h.1,
        ))
        told calls
      where
        stay : StaysOver stamped started (IsMadeBy A) (SinksMatch stamped s)
        stay = sinks_over (Holds s) (holds_stay stamped s) (IsMadeBy A) (λ before step own. own.by)
            (λ before step own. own.running)

    pub send_failed : (E : History → Type 0) {old new : Option History}
        → Adds old new
        (Leads (Making stamped A Send) (AgentMatches stamped a) (AgentMatches stamped b))
        → Adds old new
        (Leads (Together stamped started acting) (λ h. AgentMatches stamped a h × E h)
        (Legal stamped))
    send_failed E told =
        legal_beside stamped started A in_a (IsMadeBy A) (IsByOne acting)
        (made_one acting A acts_a) E
        (leads_as (λ h x. x) (λ h x. x.legal) told)

    -- ---- the agent gets the answer

    module _ (sent made_for : List ℕ) (made : Option ExchangeFault) where
      abbrev Behind : History → Type 0
      Behind history = AtTold stamped C (HoldsBehind s sent made_for made) history

      behind_stays : Stays stamped C (HoldsBehind s sent made_for made)
      behind_stays history step legal f h =
          record {
            holds = holds_stay stamped s history step legal f h.holds;
            reply_to =
                h.reply_to;
          }

      pub got_all : (m t : ℕ) (got : List ℕ) {old new : Option History}
          → Adds old new (Leads (As stamped A) (AgentMatches stamped a) (AgentMatches stamped b))
          → Adds old new (Calls (asked A Got [] m 0) (Ok (bytes_given got)))
          → Adds old new (Leads (Together stamped started acting)
          (λ h. AgentMatches stamped a h × (Behind h × IsInHand C m t (Some made_for) h))
          (λ h. AgentMatches stamped b h × (Behind h × (IsEmptyFor C h × (got ≡ made_for)))))
      got_all m t got told call =
          call_beside stamped started A in_a (IsBy A) (IsByOne acting) (by_one acting A acts_a)
          (λ h. Behind h × IsInHand C m t (Some made_for) h)
          (λ h. Behind h × (IsEmptyFor C h × (got ≡ made_for)))
          (λ n. asked A Got [] m 0) (λ n. bytes_given got) (λ h x. x.legal)
          (λ history step is legal outside h. (
            stay.theirs history step is legal outside h.0,
            in_hand_stays stamped C m t (Some made_for) history step legal
                (apart history step outside) h.1,
          ))
          (λ n before files logs running legal h.
          let step = own_step (asked A Got [] m 0) (bytes_given got) files logs in (
            stay.ours before step refl legal (record { by = refl; running = running; quiet = refl })
                h.0,
            (
              empty_stays C before step (quiet_apart C step refl) h.1.empty,
              got_is C m t made_for got before step [] 0 0 legal.1.honest.agrees refl refl h.1,
            ),
          ))
          told (calls_some call)
        where
          stay : StaysOver stamped started (IsBy A) Behind
          stay = sinks_over (HoldsBehind s sent made_for made) behind_stays (IsBy A)
              (λ before step own. own.by)
              (λ before step own. own.running)

    pub get_failed : (E : History → Type 0) {old new : Option History}
        → Adds old new (Leads (As stamped A) (AgentMatches stamped a) (AgentMatches stamped b))
        → Adds old new
        (Leads (Together stamped started acting) (λ h. AgentMatches stamped a h × E h)
        (Legal stamped))
    get_failed E told =
        legal_beside stamped started A in_a (IsBy A) (IsByOne acting) (by_one acting A acts_a) E
        (leads_as (λ h x. x) (λ h x. x.legal) told)

  -- ---- the collector takes

  module _ (acts_c : Contains acting C) (sound : IsSound a)
      (named : IsTrue (is_collector s.collector)) where
    agent_over : (Own : History → Step → Type 0)
        → ((before : History) (step : Step) → Own before step → step.act.who ≡ C)
        → ((before : History) (step : Step) → Own before step → is_stopped before ≡ false)
        → StaysOver stamped started Own (AgentMatches stamped a)
    agent_over Own by runs =
        stay_told stamped started C A in_a refl Own by runs (Known a) (agent_stays stamped a sound)

    agent_made : StaysOver stamped started (IsMadeBy C) (AgentMatches stamped a)
    agent_made =
        agent_over (IsMadeBy C) (λ before step own. own.by) (λ before step own. own.running)

    agent_by : StaysOver stamped started (IsBy C) (AgentMatches stamped a)
    agent_by = agent_over (IsBy C) (λ before step own. own.by) (λ before step own. own.running)

    abbrev TakeQ : Asked
    TakeQ = asked C Take (self_address ∷ []) 0 0

    -- the call on the mailbox, where what waits turns to F
    taken_to : (m : ℕ) (bytes : List ℕ) (given : Option Taking) (B F : History → Type 0)
        → ((h : History) → B h → Legal stamped h)
        → ((n : ℕ) (before : History) (files : Files) (logs : Logs)
        → Legal stamped (own_step TakeQ (taking_given n given) files logs ∷ before)
        → Waits C m bytes before
        → F (own_step TakeQ (taking_given n given) files logs ∷ before))
        → {old new : Option History}
        → Adds old new (Leads (Talking stamped C) (SinksMatch stamped s) B)
        → Adds old new (CallsSome (λ n. TakeQ) (λ n. Ok (taking_given n given)))
        → Adds old new (Leads (Together stamped started acting) (AllWaiting stamped s a m bytes)
        (λ h. AgentMatches stamped a h × (B h × F h)))
    taken_to m bytes given B F legal_b turns told calls =
        leads_as (λ h x. (x.1.0, (x.0, x.1.1))) (λ h x. (x.1.0, (x.0, x.1.1)))
        (call_beside stamped started C in_c (IsMadeBy C) (IsByOne acting) (made_one acting C acts_c)
        (λ h. AgentMatches stamped a h × Waits C m bytes h) (λ h. AgentMatches stamped a h × F h)
        (λ n. TakeQ) (λ n. taking_given n given) legal_b
        (λ history step is legal outside h. (
          agent_made.theirs history step is legal outside h.0,
          waits_stays stamped C m bytes history step legal outside.elsewhere
              (outside.foreign C in_c).other h.1,
        ))
        (λ n before files logs running legal h. (
          agent_made.ours before (own_step TakeQ (taking_given n given) files logs) refl legal
              (record { by = refl; running = running }) h.0,
          turns n before files logs legal h.1,
        ))
        told calls)

    pub taken_all : (m : ℕ) (bytes : List ℕ) (taking : Taking) {old new : Option History}
        → Adds old new (CallsSome (λ n. TakeQ) (λ n. Ok (taking_given n (Some taking))))
        → Adds old new (Leads (Together stamped started acting) (AllWaiting stamped s a m bytes)
        (λ h. AllTaken stamped s a m taking.number taking.bytes h × (taking.bytes ≡ bytes)))
    taken_all m bytes taking calls =
        leads_as (λ h x. x) (λ h x. ((x.0, (x.1.0, x.1.1.0)), x.1.1.1))
        (taken_to m bytes (Some taking) (HasTaken stamped s taking.number taking.bytes)
        (λ h. IsInHand C m taking.number None h × (taking.bytes ≡ bytes)) (λ h x. x.legal)
        (λ n before files logs legal waits.
        let step = own_step TakeQ (taking_given n (Some taking)) files logs in
        let all =
        takes_whole stamped C m bytes before step 0
        (taking.bytes ∷ []) taking.number n refl legal refl refl refl waits in
        (all.in_hand, ap head_of all.words_are))
        (took stamped s named self_address 0 taking calls) calls)
      where
        head_of : List (List ℕ) → List ℕ
        head_of [] = []
        head_of (x ∷ xs) = x

    -- a message that waits is taken
    pub none_taken : (m : ℕ) (bytes : List ℕ) (B : History → Type 0) {old new : Option History}
        → Adds old new (CallsSome (λ n. TakeQ) (λ n. Ok (taking_given n None)))
        → Adds old new (Leads (Together stamped started acting) (AllWaiting stamped s a m bytes) B)
    none_taken m bytes B calls =
        leads_as (λ h x. x) (λ h x. absurd x.1.1)
        (taken_to m bytes None (SinksMatch stamped s) (λ h. ⊥) (λ h x. x.legal)
        (λ n before files logs legal waits.
        let step = own_step TakeQ (taking_given n None) files logs in
        no_words bytes
        (takes_whole stamped C m bytes before step 0 [] 0 0 refl legal refl refl refl
        waits).words_are)
        (untook stamped s named self_address 0 (Ok None) calls) calls)
      where
        no_words : (bytes : List ℕ) → [] ≡ bytes ∷ [] → ⊥
        no_words bytes e = cc

    pub take_failed : (m : ℕ) (bytes : List ℕ)
        (given : Result (Option Taking) CallFault) {old new : Option History}
        → Adds old new (CallsSome (λ n. TakeQ) (λ n. answered (taking_given n) given))
        → Adds old new (Leads (Together stamped started acting) (AllWaiting stamped s a m bytes)
        (Legal stamped))
    take_failed m bytes given calls =
        leads_as (λ h x. (x.1.0, (x.0, x.1.1))) (λ h x. x)
        (legal_beside stamped started C in_c (IsMadeBy C) (IsByOne acting)
        (made_one acting C acts_c)
        (λ h. AgentMatches stamped a h × Waits C m bytes h)
        (leads_as (λ h x. x) (λ h x. x.legal) (untook stamped s named self_address 0 given calls)))

    -- ---- it handles what it took

    -- the message in hand, beside the agent
    abbrev pub Hand : ℕ → ℕ → Option (List ℕ) → History → Type 0
    Hand m t answer h = AgentMatches stamped a h × IsInHand C m t answer h

    hand_theirs : (m t : ℕ) (answer : Option (List ℕ))
        → TheirsKeep stamped started (IsInHand C m t answer)
    hand_theirs m t answer history step is legal outside h =
        in_hand_stays stamped C m t answer history step legal (apart history step outside) h

    hand_by : (m t : ℕ) (answer : Option (List ℕ))
        → StaysOver stamped started (IsBy C) (Hand m t answer)
    hand_by m t answer =
        stay_both agent_by (record {
          theirs = hand_theirs m t answer;
          ours = λ history step is legal own h.
              in_hand_stays stamped C m t answer history step legal
              (quiet_apart C step own.quiet) h;
        })

    pub handled_all : (m t : ℕ) (request : List ℕ) (B : History → Type 0)
        → ((h : History) → B h → Legal stamped h)
        → {old new : Option History}
        → Adds old new (Leads (As stamped C) (HasTaken stamped s t request) B)
        → Adds old new (Leads (Together stamped started acting) (AllTaken stamped s a m t request)
        (λ h. B h × Hand m t None h))
    handled_all m t request B legal_b told =
        leads_as (λ h x. (x.1.0, (x.0, x.1.1))) (λ h x. x)
        (acts_beside stamped started acting C in_c acts_c (Hand m t None)
        (hand_by m t None) legal_b told)

    -- ---- it answers

    module _ (v : Sinks) (reply : List ℕ) (K : Type 0) where
      -- the sinks after the handling, of the same collector
      abbrev U : Sinks
      U = record v { collector = s.collector }

      -- the reply may be given, and K is known
      abbrev pub Ready : ℕ → History → Type 0
      Ready t history = AtTold stamped C (λ h. MayAnswer U t reply h × K) history

      abbrev pub Given : History → Type 0
      Given history = AtTold stamped C (λ h. Holds U h × K) history

      abbrev AnswerQ : ℕ → Asked
      AnswerQ t = asked C Answer (reply ∷ []) t 0

      sent_told : (t : ℕ) (given : Result (Unit {0}) CallFault) {old new : Option History}
          → Adds old new (Calls (AnswerQ t) (answered plain given))
          → Adds old new (Leads (Talking stamped C) (Ready t) Given)
      sent_told t given call =
          told_beside stamped C (λ h. K) (λ history step legal k. k)
          (λ before step own. own.running)
          (sent stamped U named t reply given call)

      pub answered_all : (m t : ℕ) {old new : Option History}
          → Adds old new (Calls (AnswerQ t) (Ok (plain (tt {0}))))
          → Adds old new (Leads (Together stamped started acting) (λ h. Ready t h × Hand m t None h)
          (λ h. Given h × Hand m t (Some reply) h))
      answered_all m t call =
          call_beside stamped started C in_c (IsMadeBy C) (IsByOne acting)
          (made_one acting C acts_c)
          (Hand m t None) (Hand m t (Some reply)) (λ n. AnswerQ t) (λ n. plain (tt {0}))
          (λ h x. x.legal)
          (λ history step is legal outside h. (
            agent_made.theirs history step is legal outside h.0,
            hand_theirs m t None history step is legal outside h.1,
          ))
          (λ n before files logs running legal h.
          let step = own_step (AnswerQ t) (plain (tt {0})) files logs in (
            agent_made.ours before step refl legal (record { by = refl; running = running }) h.0,
            answers_surely stamped C m t reply before step [] 0 0 legal refl refl refl h.1,
          ))
          (sent_told t (Ok tt) call) (calls_some call)

      pub answer_failed : (m t : ℕ) (given : Result (Unit {0}) CallFault) {old new : Option History}
          → Adds old new (Calls (AnswerQ t) (answered plain given))
          → Adds old new (Leads (Together stamped started acting) (λ h. Ready t h × Hand m t None h)
          (Legal stamped))
      answer_failed m t given call =
          legal_beside stamped started C in_c (IsMadeBy C) (IsByOne acting)
          (made_one acting C acts_c) (Hand m t None)
          (leads_as (λ h x. x) (λ h x. x.legal) (sent_told t given call))
