-- What an exchange leads to, from its parts.
use Rattle.std.proofs.Common.{◌≡◌, inl, inr, ℕ, zero, suc, List, [], ◌∷◌, ◌++◌, Option, Some, Result, Ok, Err, refl, ap, sym, subst, ◌∙◌, arith}
use Rattle.std.specs.Prelude.{IsTrue, Contains, slice_index_or}
use Rattle.chk_bytes.specs.Words.{is_word}
use Rattle.chk_bytes.proofs.WordLemmas.{word_facts}
use Rattle.chk_site.specs.declared.acts.Who.{Who}
use Rattle.chk_site.specs.declared.acts.Call.{Call}
use Rattle.chk_site.specs.declared.acts.Call.TheVariants.{Got}
use Rattle.chk_site.specs.declared.acts.CallFault.{CallFault}
use Rattle.chk_site.specs.declared.acts.CallFault.TheVariants.{Failed, Missing, Exists, Short, NoMemory as no_memory}
use Rattle.chk_site.specs.History.{History}
use Rattle.chk_site.specs.Messages.{self_address}
use Rattle.chk_site.specs.Site.{Adds, asked, bytes_given, Calls}
use Rattle.chk_site.specs.Runs.{Leads}
use Rattle.chk_site.proofs.Family.{leads_family}
use Rattle.chk_site.proofs.Leads.{leads_as}
use Rattle.chk_http_grammar.specs.Messages.{IsReply}
use Rattle.chk_http_grammar.proofs.Accepted.{IsReply-same}
use Rattle.chk_failover.specs.Turns.{Turns}
use Rattle.chk_world.specs.Mailbox.{IsEmptyFor, IsInHand}
use Rattle.chk_world.specs.Places.{As, AtTold}
use Rattle.chk_world.specs.Rules.{Legal}
use Rattle.chk_world.specs.Together.{Together}
use Rattle.chk_sink.specs.States.{State as Sinks, process}
use Rattle.chk_agent_delivery.specs.Scripts.{IsCode}
use Rattle.chk_agent_delivery.specs.States.{address_now}
use Rattle.chk_agent.specs.States.{State as Agents, process as agent_of}
use Rattle.chk_agent.specs.Facts.{Matches as AgentMatches}
use Rattle.chk_exchange.specs.declared.fault.ExchangeFault.{ExchangeFault}
use Rattle.chk_exchange.specs.declared.fault.ExchangeFault.TheVariants.{Outside, NoMemory, Damaged, Spent, Refused}
use Rattle.chk_exchange.specs.Faults.{EndsBy, IsOtherCode}
use Rattle.chk_exchange.specs.Exchanges.{Responds, unreplied, unsent, unread, Serves, untaken, taken}
use Rattle.chk_exchange.specs.Legality.{Exchanged, IsReplyTo, HoldsBehind, IsServed}
use Rattle.chk_exchange.proofs.Joint.{got_all, get_failed}

-- ---- the address

-- a ring of one address sends to it
pub at_self : (ring : Turns) → ring.addresses ≡ self_address ∷ []
    → IsTrue (is_word (address_now ring))
    → address_now ring ≡ self_address
at_self ring one word =
    ap (λ xs. slice_index_or xs ring.place []) one
    ∙ go ring.place (subst (λ xs. IsTrue (is_word (slice_index_or xs ring.place []))) one word)
  where
    go : (n : ℕ) → IsTrue (is_word (slice_index_or (self_address ∷ []) n []))
        → slice_index_or (self_address ∷ []) n [] ≡ self_address
    go zero word = refl
    go (suc n) word = let some = (word_facts [] word).some_byte in absurd (omega (arith, some))

-- ---- a fault that ended it before the reply

abbrev pub IsOutside : ExchangeFault → Type 0
IsOutside (Outside call) = Unit {0}
IsOutside NoMemory = Unit {0}
IsOutside fault = ⊥

pub ends_outside : {T : Type 0} (call : Call) (given : Result T CallFault) (fault : ExchangeFault)
    → EndsBy call given fault
    → IsOutside fault
ends_outside call (Ok value) fault ends = absurd ends
ends_outside call (Err Failed) fault ends = subst IsOutside (sym ends) tt
ends_outside call (Err Missing) fault ends = absurd ends
ends_outside call (Err Exists) fault ends = absurd ends
ends_outside call (Err (Short size)) fault ends = absurd ends
ends_outside call (Err no_memory) fault ends = subst IsOutside (sym ends) tt

abbrev FailsOutside : Result (Option ExchangeFault) ExchangeFault → Type 0
FailsOutside (Ok made) = Unit {0}
FailsOutside (Err fault) = IsOutside fault

responds_outside : {who : Who} {s u : Sinks} {t : ℕ} {request : List ℕ}
    {result : Result (Option ExchangeFault) ExchangeFault}
    {old new : Option History} → Responds who s t request result u old new → FailsOutside result
responds_outside (unreplied un) = tt
responds_outside (unsent reply fault given replied ends call) = ends_outside _ given fault ends
responds_outside (unread reply replied is call) = tt
responds_outside (Responds.sent reply made replied is call) = tt

pub serves_outside : {who : Who} {s u : Sinks}
    {result : Result (Option ExchangeFault) ExchangeFault}
    {old new : Option History} → Serves who s result u old new → FailsOutside result
serves_outside (untaken fault given ends call) = ends_outside _ given fault ends
serves_outside (Serves.none call) = tt
serves_outside (taken taking call responds) = responds_outside responds

pub legal_ends : (T : Type 0) (stamped : List (List ℕ)) (u : Sinks) (c : Agents)
    (fault : ExchangeFault) → IsOutside fault
    → (h : History) → Legal stamped h → Exchanged {T = T} stamped u c (Err fault) h
legal_ends T stamped u c (Outside call) is h legal = legal
legal_ends T stamped u c NoMemory is h legal = legal
legal_ends T stamped u c (Damaged name at) is h legal = absurd is
legal_ends T stamped u c (Spent number) is h legal = absurd is
legal_ends T stamped u c (Refused code) is h legal = absurd is

-- ---- the end, by what was got

-- where the reply is what it has to be, such an end doesn't come
abbrev pub NeverEnds : {T : Type 0} → List ℕ → Option ExchangeFault → List ℕ
    → Result T ExchangeFault → Type 0
NeverEnds bytes made got (Err (Refused code)) = (reply : List ℕ) → IsReplyTo bytes reply made
    → got ≡ reply → ⊥
NeverEnds bytes made got (Err (Damaged name at)) = (reply : List ℕ) → IsReplyTo bytes reply made
    → got ≡ reply → ⊥
NeverEnds bytes made got result = Unit {0}

-- a fault that the made reply tells comes where it may
pub never_told : (T : Type 0) (bytes got : List ℕ) (made : Option ExchangeFault)
    (fault : ExchangeFault)
    → made ≡ Some fault → NeverEnds {T = T} bytes made got (Err fault)
never_told T bytes got made (Outside call) is = tt
never_told T bytes got made NoMemory is = tt
never_told T bytes got made (Damaged name at) is = λ reply to same. to.soundly (Damaged name at) is
never_told T bytes got made (Spent number) is = tt
never_told T bytes got made (Refused code) is = λ reply to same. to.soundly (Refused code) is

-- what was got is of another code than a made reply that tells a fault
pub other_code : (bytes reply got : List ℕ) (made : Option ExchangeFault) (fault : ExchangeFault)
    (code : ℕ)
    → made ≡ Some fault → IsOtherCode made code → IsCode got code → IsReplyTo bytes reply made
    → got ≡ reply → ⊥
other_code bytes reply got made fault code is other (inl one) to same =
    let told = to.coded fault is in
    subst (λ m. IsOtherCode m code) is other
    (IsReply-same code 503 one.0 told.0 got one.1 (subst (IsReply 503 told.0) (sym same) told.1)).0
other_code bytes reply got made fault code is other (inr none) to same =
    let told = to.coded fault is in none.1 503 told.0 (subst (IsReply 503 told.0) (sym same) told.1)

module _ (stamped : List (List ℕ)) (started acting : List Who) (u : Sinks) (b c : Agents) (m : ℕ)
    (bytes : List ℕ)
    (made : Option ExchangeFault) (in_c : Contains started (process u))
    (in_b : Contains started (agent_of b))
    (acts_b : Contains acting (agent_of b)) where
  abbrev Side : (History → Type 0) → (History → Type 0) → Option History → Option History → Type 0
  Side P Q old new = Adds old new (Leads (Together stamped started acting) P Q)

  -- after the answer was got
  abbrev Ended : List ℕ → List ℕ → History → Type 0
  Ended got reply h =
      AgentMatches stamped c h
      × (AtTold stamped (process u) (HoldsBehind u bytes reply made) h
      × (IsEmptyFor (process u) h × (got ≡ reply)))

  abbrev Held : List ℕ → ℕ → History → Type 0
  Held reply t h =
      AgentMatches stamped b h
      × (AtTold stamped (process u) (HoldsBehind u bytes reply made) h
      × IsInHand (process u) m t (Some reply) h)

  end_so : {T : Type 0} (got reply : List ℕ) (result : Result T ExchangeFault)
      → NeverEnds bytes made got result
      → (h : History) → Ended got reply h → Exchanged stamped u c result h
  end_so got reply (Ok value) never h x = (
    record { legal = x.1.0.legal; may_act = x.1.0.may_act; alive = λ r. (x.1.0.alive r).holds },
    (x.0, x.1.1.0),
  )
  end_so got reply (Err (Refused code)) never h x = record {
    legal = x.1.0.legal;
    may_act = x.1.0.may_act;
    alive = λ r. never reply (x.1.0.alive r).reply_to x.1.1.1;
  }
  end_so got reply (Err (Damaged name at)) never h x = record {
    legal = x.1.0.legal;
    may_act = x.1.0.may_act;
    alive = λ r. never reply (x.1.0.alive r).reply_to x.1.1.1;
  }
  end_so got reply (Err (Outside call)) never h x = x.0.legal
  end_so got reply (Err NoMemory) never h x = x.0.legal
  end_so got reply (Err (Spent number)) never h x = x.0.legal

  pub got_so : {T : Type 0} {Such : List ℕ → List ℕ → Type 0} (got : List ℕ)
      (result : Result T ExchangeFault)
      → NeverEnds bytes made got result
      → {old new : Option History}
      → Adds old new
      (Leads (As stamped (agent_of b)) (AgentMatches stamped b) (AgentMatches stamped c))
      → Adds old new (Calls (asked (agent_of b) Got [] m 0) (Ok (bytes_given got)))
      → Side (IsServed stamped u b m bytes Such made) (Exchanged stamped u c result) old new
  got_so {Such = Such} got result never told call =
      leads_family {I = List ℕ × ℕ} (λ i. Held i.0 i.1) (λ i. Ended got i.0)
      (IsServed stamped u b m bytes Such made)
      (Exchanged stamped u c result) ([], 0)
      (λ i. got_all stamped started acting u b in_c in_b acts_b c bytes i.0 made m i.1 got told
      call)
      (λ added history each served.
      end_so got served.reply result never (added ++ history)
      (each (served.reply, served.taking) (served.agent, (served.sinks, served.in_hand))))

  -- what was got is such a reply
  pub got_such : {Such : List ℕ → List ℕ → Type 0} (got : List ℕ) {old new : Option History}
      → Adds old new
      (Leads (As stamped (agent_of b)) (AgentMatches stamped b) (AgentMatches stamped c))
      → Adds old new (Calls (asked (agent_of b) Got [] m 0) (Ok (bytes_given got)))
      → Side (IsServed stamped u b m bytes Such made) (λ h. Legal stamped h × Such bytes got) old new
  got_such {Such = Such} got told call =
      leads_family {I = List ℕ × ℕ} (λ i. Held i.0 i.1) (λ i. Ended got i.0)
      (IsServed stamped u b m bytes Such made)
      (λ h. Legal stamped h × Such bytes got) ([], 0)
      (λ i. got_all stamped started acting u b in_c in_b acts_b c bytes i.0 made m i.1 got told
      call)
      (λ added history each served.
      let x = each (served.reply, served.taking) (served.agent, (served.sinks, served.in_hand)) in
      (x.0.legal, subst (Such bytes) (sym x.1.1.1) served.such))

  pub ungot_so : {Such : List ℕ → List ℕ → Type 0} {old new : Option History}
      → Adds old new
      (Leads (As stamped (agent_of b)) (AgentMatches stamped b) (AgentMatches stamped c))
      → Side (IsServed stamped u b m bytes Such made) (Legal stamped) old new
  ungot_so {Such = Such} told =
      leads_as (λ h x. (x.agent, x)) (λ h x. x)
      (get_failed stamped started acting u b in_c in_b acts_b c
      (IsServed stamped u b m bytes Such made) told)
