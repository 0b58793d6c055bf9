-- What the collector made of a message, from a legal history on.
use Rattle.std.proofs.Common.{◌≡◌, ℕ, Bool, true, false, List, [], ◌++◌, Option, Result, Ok, Err, refl, sym, subst, ◌∙◌, true≢false}
use Rattle.std.specs.Prelude.{IsTrue, Contains}
use Rattle.chk_bytes.specs.declared.NoMemory.{NoMemory as Wanting}
use Rattle.chk_bytes.specs.Stems.{is_collector}
use Rattle.chk_site.specs.declared.acts.Who.{Who}
use Rattle.chk_site.specs.declared.acts.CallFault.{CallFault}
use Rattle.chk_site.specs.History.{History, is_stopped}
use Rattle.chk_site.specs.Site.{Adds}
use Rattle.chk_site.specs.Runs.{Leads}
use Rattle.chk_site.proofs.Family.{leads_family}
use Rattle.chk_site.proofs.Leads.{leads_then, leads_as}
use Rattle.chk_site.proofs.Runs.{adds_both}
use Rattle.chk_http_grammar.specs.Messages.{IsReply}
use Rattle.chk_world.specs.Collectors.{Appended, Handling}
use Rattle.chk_world.specs.Places.{As, AtTold}
use Rattle.chk_world.specs.Rules.{Legal}
use Rattle.chk_world.specs.Together.{Together}
use Rattle.chk_sink.specs.declared.fault.SinkFault.TheVariants.{Outside as sink_outside, Damaged as sink_damaged, Spent as sink_spent, NoMemory as sink_wanting}
use Rattle.chk_sink.specs.States.{State as Sinks, process}
use Rattle.chk_collector.specs.Answering.{Taken, MayAnswer, Answered}
use Rattle.chk_collector.specs.Outcomes.{Outcome, Refused, BadPost, Lines, Fails, IsOutcomeOf, OutcomeSound, code_of, body_of}
use Rattle.chk_collector_run.specs.Legality.{HasTaken}
use Rattle.chk_agent.specs.States.{State as Agents, process as agent_of}
use Rattle.chk_agent.specs.Fits.{IsSound}
use Rattle.chk_exchange.specs.declared.fault.ExchangeFault.{ExchangeFault}
use Rattle.chk_exchange.specs.Exchanges.{Answers}
use Rattle.chk_exchange.specs.Faults.{IsMade}
use Rattle.chk_exchange.specs.Legality.{IsReplyTo, AllTaken, Served}
use Rattle.chk_exchange.proofs.GoodReplies.{IsUndamaged, reply_is}
use Rattle.chk_exchange.proofs.Joint.{handled_all, answered_all, answer_failed}

-- what is told of the handling for each list of earlier messages
abbrev pub Tells : Sinks → Sinks → List ℕ → Result (List ℕ) Wanting → Option History
    → Option History → Type 0
Tells s u request result old new =
    (stamped : List (List ℕ)) (t : ℕ) (earlier : List Appended) (others : List Handling)
    → Adds old new (Leads (As stamped (process s)) (Taken stamped s t request earlier others)
    (Answered stamped u t request earlier others result))

-- what the read reply says of its outcome
pub record IsReadSo (request reply : List ℕ) (made : Option ExchangeFault)
    (o : Outcome) : Type 0 where
  pub by_bytes : IsOutcomeOf request o
  pub is_made : IsMade o made
  pub read : IsReply (code_of o) (body_of o) reply

module _ (stamped : List (List ℕ)) (s u : Sinks) (t : ℕ)
    (request : List ℕ) {old new : Option History} where
  -- from what is told for each list of earlier messages
  pub of_any : (C : List Handling → History → Type 0) (R : History → Type 0)
      → ((others : List Handling)
      → Adds old new
      (Leads (As stamped (process s)) (Taken stamped s t request [] others) (C others)))
      → ((h : History) (others : List Handling) → C others h → R h)
      → Adds old new (Leads (As stamped (process s)) (HasTaken stamped s t request) R)
  of_any C R told weaker =
      leads_family {S = As stamped (process s)} (λ others. Taken stamped s t request [] others) C
      (HasTaken stamped s t request) R [] told
      (λ added history all h. go added history all h (is_stopped history) refl)
    where
      go : (added history : History)
          → ((others : List Handling) → Taken stamped s t request [] others history
          → C others (added ++ history))
          → HasTaken stamped s t request history → (b : Bool) → is_stopped history ≡ b
          → R (added ++ history)
      go added history all h true e =
          weaker (added ++ history) []
          (all [] (record {
            legal = h.legal;
            may_act = h.may_act;
            alive =
                λ r. absurd (true≢false (sym e ∙ r));
          }))
      go added history all h false e =
          let k = h.alive e in
          weaker (added ++ history) k.0
          (all k.0 (record { legal = h.legal; may_act = h.may_act; alive = λ r. k.1 }))

  -- where the reply tells of a damaged file, the history isn't so
  sound_of : (result : Result (List ℕ) Wanting) → Tells s u request result old new → (o : Outcome)
      → OutcomeSound request s old new o → (others : List Handling)
      → Adds old new (Leads (As stamped (process s)) (Taken stamped s t request [] others)
      (λ h. is_stopped h ≡ false → IsUndamaged o))
  sound_of result told (Refused fault) sound others =
      leads_as (λ h x. x) (λ h x r. tt) (told stamped t [] others)
  sound_of result told (BadPost fault) sound others =
      leads_as (λ h x. x) (λ h x r. tt) (told stamped t [] others)
  sound_of result told (Lines acks) sound others =
      leads_as (λ h x. x) (λ h x r. tt) (told stamped t [] others)
  sound_of result told (Fails (sink_outside call)) sound others =
      leads_as (λ h x. x) (λ h x r. tt) (told stamped t [] others)
  sound_of result told (Fails (sink_damaged name at)) sound others =
      leads_as (λ h x. x) (λ h x r. x.alive r) (sound stamped t [] others)
  sound_of result told (Fails (sink_spent born)) sound others =
      leads_as (λ h x. x) (λ h x r. tt) (told stamped t [] others)
  sound_of result told (Fails sink_wanting) sound others =
      leads_as (λ h x. x) (λ h x r. tt) (told stamped t [] others)

  -- what may be answered, and what it is to the message
  pub responded : (reply : List ℕ) (made : Option ExchangeFault) (o : Outcome)
      → IsReadSo request reply made o → OutcomeSound request s old new o
      → Tells s u request (Ok reply) old new
      → Adds old new (Leads (As stamped (process s)) (HasTaken stamped s t request)
      (λ h. AtTold stamped (process u) (λ h. MayAnswer u t reply h × IsReplyTo request reply made)
      h))
  responded reply made o so sound told =
      of_any (λ others h. Answered {E = Wanting} stamped u t request [] others (Ok reply) h
      × (is_stopped h ≡ false → IsUndamaged o))
      (λ h. AtTold stamped (process u) (λ h. MayAnswer u t reply h × IsReplyTo request reply made)
      h)
      (λ others. adds_both
      (Leads (As stamped (process s)) (Taken stamped s t request [] others)
      (λ h. Answered {E = Wanting} stamped u t request [] others (Ok reply) h × (is_stopped h ≡
      false
      → IsUndamaged o)))
      (told stamped t [] others) (sound_of (Ok reply) told o sound others)
      (λ added history x y. record {
        leads = λ theirs h. (x.leads theirs h, y.leads theirs h);
        own =
            x.own;
      }))
      (λ h others x. record {
        legal = x.0.legal;
        may_act = x.0.may_act;
        alive = λ r.
            let k = x.0.alive r in (
              k.answer,
              reply_is stamped u t request reply others h x.0.legal k.answer k.stands o made
                  so.by_bytes so.is_made so.read (x.1 r),
            );
      })

  -- what may be answered
  pub answerable : (reply : List ℕ) → Tells s u request (Ok reply) old new
      → Adds old new (Leads (As stamped (process s)) (HasTaken stamped s t request)
      (λ h. AtTold stamped (process u) (λ h. MayAnswer u t reply h × Unit {0}) h))
  answerable reply told =
      of_any (λ others h. Answered {E = Wanting} stamped u t request [] others (Ok reply) h)
      (λ h. AtTold stamped (process u) (λ h. MayAnswer u t reply h × Unit {0}) h)
      (told stamped t [])
      (λ h others x. record {
        legal = x.legal;
        may_act = x.may_act;
        alive =
            λ r. ((x.alive r).answer, tt);
      })

  -- without memory the history is legal
  pub unreplied : (fault : Wanting) → Tells s u request (Err fault) old new
      → Adds old new (Leads (As stamped (process s)) (HasTaken stamped s t request) (Legal stamped))
  unreplied fault told =
      of_any (λ others h. Answered {E = Wanting} stamped u t request [] others (Err fault) h)
      (Legal stamped) (told stamped t [])
      (λ h others x. x.legal)

-- ---- the whole of it

module _ (stamped : List (List ℕ)) (started acting : List Who) (s : Sinks) (a : Agents) (m t : ℕ)
    (request : List ℕ)
    (in_c : Contains started (process s)) (in_a : Contains started (agent_of a))
    (acts_c : Contains acting (process s))
    (sound : IsSound a) (named : IsTrue (is_collector s.collector)) where
  -- from a message in hand
  abbrev Leading : (History → Type 0) → Option History → Option History → Type 0
  Leading B old new =
      Adds old new (Leads (Together stamped started acting) (AllTaken stamped s a m t request) B)

  pub unreplied_so : (u : Sinks) (fault : Wanting) {old new : Option History}
      → Tells s u request (Err fault) old new
      → Leading (Legal stamped) old new
  unreplied_so u fault told =
      leads_as (λ h x. x) (λ h x. x.0)
      (handled_all stamped started acting s a in_c in_a acts_c sound named m t request
      (Legal stamped) (λ h x. x)
      (unreplied stamped s u t request fault told))

  module _ (who : Who) (is : who ≡ process s) (reply : List ℕ) where
    by_s : (given : Result (Unit {0}) CallFault) {mid new : Option History}
        → Answers who t reply given mid new
        → Answers (process s) t reply given mid new
    by_s given {mid = mid} {new = new} = subst (λ w. Answers w t reply given mid new) is

    -- whatever became of the answer, the history is legal
    failed_at : (v : Sinks) (given : Result (Unit {0}) CallFault) {old mid new : Option History}
        → Tells s (record v { collector = s.collector }) request (Ok reply) old mid
        → Answers who t reply given mid new → Leading (Legal stamped) old new
    failed_at v given told call =
        leads_then
        (handled_all stamped started acting s a in_c in_a acts_c sound named m t request
        (λ h. AtTold stamped (process s)
        (λ h. MayAnswer (record v { collector = s.collector }) t reply h × Unit {0}) h)
        (λ h x. x.legal)
        (answerable stamped s (record v { collector = s.collector }) t request reply told))
        (answer_failed stamped started acting s a in_c in_a acts_c sound named v reply
        (Unit {0}) m t given (by_s given call))

    pub failed_so : (u : Sinks) → u.collector ≡ s.collector → (given : Result (Unit {0}) CallFault)
        {old mid new : Option History}
        → Tells s u request (Ok reply) old mid → Answers who t reply given mid new
        → Leading (Legal stamped) old new
    failed_so u same given {old = old} {mid = mid} {new = new} told call =
        subst (λ n. Tells s (record u { collector = n }) request (Ok reply) old mid
        → Leading (Legal stamped) old new)
        (sym same) (λ told. failed_at u given told call) told

    -- it was answered, and the reply was read
    sent_at : (v : Sinks) (made : Option ExchangeFault) (o : Outcome)
        (Such : List ℕ → List ℕ → Type 0) → Such request reply → {old mid new : Option History}
        → IsReadSo request reply made o
        → OutcomeSound request s old mid o
        → Tells s (record v { collector = s.collector }) request (Ok reply) old mid
        → Answers who t reply (Ok tt) mid new
        → Leading (Served stamped (record v { collector = s.collector }) a m request Such (Ok made))
        old new
    sent_at v made o Such such so sound_o told call =
        let u : Sinks = record v { collector = s.collector } in
        let K : Type 0 = IsReplyTo request reply made in
        leads_then
        (handled_all stamped started acting s a in_c in_a acts_c sound named m t request
        (λ h. AtTold stamped (process s) (λ h. MayAnswer u t reply h × K) h) (λ h x. x.legal)
        (responded stamped s u t request reply made o so sound_o told))
        (leads_as (λ h x. x)
        (λ h x. record {
          agent = x.1.0;
          reply = reply;
          taking = t;
          sinks = record {
            legal = x.0.legal;
            may_act = x.0.may_act;
            alive = λ r. record { holds = (x.0.alive r).0; reply_to = (x.0.alive r).1 };
          };
          in_hand = x.1.1;
          such = such;
        })
        (answered_all stamped started acting s a in_c in_a acts_c sound named v reply K m t
        (by_s (Ok tt) call)))

    pub sent_so : (u : Sinks) → u.collector ≡ s.collector
        → (made : Option ExchangeFault) (o : Outcome)
        (Such : List ℕ → List ℕ → Type 0) → Such request reply
        → {old mid new : Option History}
        → IsReadSo request reply made o → OutcomeSound request s old mid o
        → Tells s u request (Ok reply) old mid
        → Answers who t reply (Ok tt) mid new
        → Leading (Served stamped u a m request Such (Ok made)) old new
    sent_so u same made o Such such {old = old} {mid = mid} {new = new} so sound_o told call =
        subst (λ n. Tells s (record u { collector = n }) request (Ok reply) old mid
        → Leading (Served stamped (record u { collector = n }) a m request Such (Ok made)) old new)
        (sym same) (λ told. sent_at u made o Such such so sound_o told call) told
