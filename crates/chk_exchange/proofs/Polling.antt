-- The poll of an exchange: what was sent, and what was got for it.
use Rattle.std.proofs.Common.{◌≡◌, ◌≢◌, inl, inr, ℕ, Bool, true, false, List, [], ◌∷◌, length, Option, Some, None, Result, Ok, Err, refl, ap, sym, subst, ◌∙◌, true≢false}
use Rattle.std.specs.Prelude.{◌==◌, is_some, option_map}
use Rattle.std.proofs.lemmas.Option.{same_Some}
use Rattle.chk_bytes.specs.declared.NoMemory.{NoMemory as Wanting}
use Rattle.chk_bytes.specs.Stems.{Stem}
use Rattle.chk_http_grammar.specs.Messages.{WrittenPoll, IsGoodReply}
use Rattle.chk_site.specs.declared.acts.Who.{Who}
use Rattle.chk_site.specs.declared.acts.Call.TheVariants.{Send}
use Rattle.chk_site.specs.declared.acts.CallFault.TheVariants.{Failed}
use Rattle.chk_site.specs.History.{History}
use Rattle.chk_site.specs.Site.{Adds, asked, sized}
use Rattle.chk_world.proofs.NameTests.{nat_same}
use Rattle.chk_agent_delivery.specs.declared.answers.Below.{Below}
use Rattle.chk_agent_delivery.specs.declared.answers.Polled.{Polled}
use Rattle.chk_agent_delivery.specs.declared.answers.Polled.TheVariants.{Sent, Failed as poll_failed}
use Rattle.chk_agent_delivery.specs.declared.answers.PollAnswer.{PollAnswer}
use Rattle.chk_agent_delivery.specs.declared.answers.PollAnswer.TheVariants.{Lengths, Refused as poll_refused_by, Silent, Nothing}
use Rattle.chk_agent_delivery.specs.Scripts.{Sends, AsksReply, IsPolled, IsPollReplied, TakesPollReply, IsCode, IsNoPollReply}
use Rattle.chk_agent_delivery.specs.States.{Poll, State as Delivery, address_now}
use Rattle.chk_agent_delivery.specs.Turns.{asked_stems, asked_for}
use Rattle.chk_agent.specs.declared.answers.AgentFault.{AgentFault}
use Rattle.chk_agent.specs.States.{State as Agents, process as agent_of}
use Rattle.chk_agent.specs.Turns.{Polls, GetsLengths, with_delivery}
use Rattle.chk_exchange.specs.declared.fault.ExchangeFault.{ExchangeFault}
use Rattle.chk_exchange.specs.declared.fault.ExchangeFault.TheVariants.{Outside, NoMemory, Refused}
use Rattle.chk_exchange.specs.Faults.{IsOtherCode, FailsLast}
use Rattle.chk_exchange.specs.Exchanges.{SendsPoll, EndsPoll, ungot, silent, taken, told, refused}
use Rattle.chk_exchange.specs.Legality.{IsReplyTo}
use Rattle.chk_exchange.proofs.Given.{given_is, fault_is}
use Rattle.chk_exchange.proofs.Ending.{IsOutside, other_code}
use Rattle.chk_exchange.proofs.Lasting.{ended_some}
use Rattle.chk_exchange.proofs.Ways.{any, wanting_last}
use Rattle.chk_exchange.proofs.Keeping.{KeepsAgent, SentMessage}
use Rattle.chk_exchange.proofs.Closing.{Closes}

-- ---- what was sent

-- the poll that is out
pub record IsOut (a : Agents) (count : ℕ) (b : Agents) (old new : Option History) : Type 0 where
  pub bytes : List ℕ
  pub message : ℕ
  pub written : WrittenPoll (address_now a.delivery.ring) (asked_stems a.delivery.table) bytes
  pub sends : Sends (agent_of a) (address_now a.delivery.ring) bytes (Ok message) old new
  pub as_many : count ≡ length (asked_stems a.delivery.table)
  pub state : b ≡ with_delivery a (asked_for message (asked_stems a.delivery.table) a.delivery)

-- what the agent's answer to a sending tells
abbrev SendTells : Agents → Agents → Option History → Option History → Result Polled Wanting
    → Type 0
SendTells a b old new (Ok (Sent count)) = IsOut a count b old new
SendTells a b old new (Ok poll_failed) =
    (address : List ℕ) × (bytes : List ℕ) × Sends (agent_of a) address bytes (Err Failed) old new
SendTells a b old new given = Unit {0}

send_tells : (a b : Agents) {given : Result Polled Wanting} {d : Delivery}
    {old new : Option History}
    → b ≡ with_delivery a d → IsPolled (agent_of a) a.delivery given d old new
    → SendTells a b old new given
send_tells a b state (IsPolled.none none) = tt
send_tells a b state (IsPolled.sent bytes m written sends) = record {
  bytes = bytes;
  message = m;
  written = written;
  sends = sends;
  as_many = refl;
  state = state;
}
send_tells a b state (IsPolled.failed bytes written sends) =
    (address_now a.delivery.ring, bytes, sends)
send_tells a b state (IsPolled.unsent fault) = tt
send_tells a b state (IsPolled.refused fault bytes written sends) = tt

pub polls_tell : {a b : Agents} (answer : Polled) {old new : Option History}
    → Polls a (Ok answer) b old new
    → SendTells a b old new (Ok answer)
polls_tell {a = a} {b = b} answer {old = old} {new = new} polls =
    subst (SendTells a b old new) (given_is polls.given answer polls.result_is)
    (send_tells a b polls.state_is polls.made)

pub unsent_so : {a b : Agents} (fault : AgentFault) {old new : Option History}
    → Polls a (Err fault) b old new
    → SendsPoll a (Err NoMemory) b old new
unsent_so {a = a} {b = b} fault {old = old} {new = new} polls =
    SendsPoll.unsent
    (subst (λ f. Polls a (Err f) b old new) (fault_is polls.given fault polls.result_is) polls)

-- a poll was sent, or its sending failed, as the agent's answer says
pub sent_by_answer : {a b : Agents} {result : Result Polled AgentFault} (answer : Polled)
    (count : ℕ) {old new : Option History}
    → result ≡ Ok answer → answer ≡ Sent count → Polls a result b old new
    → SendsPoll a (Ok tt) b old new
sent_by_answer {a = a} {b = b} answer count {old = old} {new = new} given is polls =
    SendsPoll.sent count (subst (λ r. Polls a r b old new) (given ∙ ap Ok is) polls)

pub failed_by_answer : {a b : Agents} {result : Result Polled AgentFault}
    (answer : Polled) {old new : Option History}
    → result ≡ Ok answer → answer ≡ poll_failed → Polls a result b old new
    → SendsPoll a (Err (Outside Send)) b old new
failed_by_answer {a = a} {b = b} answer {old = old} {new = new} given is polls =
    SendsPoll.failed (subst (λ r. Polls a r b old new) (given ∙ ap Ok is) polls)

-- a sending that ended the exchange
pub sends_last : (T : Type 0) {a b : Agents} {fault : ExchangeFault} {P : History → History
    → Type 0}
    {old new : Option History} → SendsPoll a (Err fault) b old new → Adds old new P
    → Adds old new (FailsLast {T = T} (Err fault))
sends_last T {a = a} (SendsPoll.failed polls) also =
    let was = polls_tell poll_failed polls in
    ended_some T Send (λ n. asked (agent_of a) Send (was.0 ∷ was.1 ∷ []) n 0) (λ n. refl)
    (λ n. sized) (Err Failed) (Outside Send) refl was.2
sends_last T (SendsPoll.unsent polls) also = wanting_last T (any also)

pub sends_outside : {a b : Agents} {fault : ExchangeFault} {old new : Option History}
    → SendsPoll a (Err fault) b old new → IsOutside fault
sends_outside (SendsPoll.failed polls) = tt
sends_outside (SendsPoll.unsent polls) = tt

-- ---- what was got

-- the reply to the poll that is out
record IsGot (b : Agents) (old new : Option History) : Type 0 where
  poll : Poll
  out : b.delivery.poll ≡ Some poll
  bytes : List ℕ
  asks : AsksReply (agent_of b) poll.message (Ok bytes) old new

-- what the agent's answer to a question for the reply tells
abbrev ReplyTells : Agents → Option History → Option History → Result PollAnswer Wanting → Type 0
ReplyTells b old new (Ok Nothing) = b.delivery.poll ≡ None
ReplyTells b old new (Ok (Lengths k below)) = (got : IsGot b old new) × (k ≡ length got.poll.stems)
ReplyTells b old new (Ok (poll_refused_by code)) =
    (got : IsGot b old new) × IsNoPollReply got.poll.stems got.bytes × IsCode got.bytes code
ReplyTells b old new (Ok Silent) =
    (p : Poll) × (b.delivery.poll ≡ Some p) × AsksReply (agent_of b) p.message (Err Failed) old new
ReplyTells b old new (Err fault) = Unit {0}

reply_tells : (b : Agents) {given : Result PollAnswer Wanting} {d : Delivery}
    {old new : Option History}
    → IsPollReplied (agent_of b) b.delivery given d old new → ReplyTells b old new given
reply_tells b (IsPollReplied.nothing none) = none
reply_tells b (IsPollReplied.got p bytes is asks (TakesPollReply.good lengths good are sees)) =
    (record { poll = p; out = is; bytes = bytes; asks = asks }, refl)
reply_tells b (IsPollReplied.got p bytes is asks (TakesPollReply.bad code no_good of)) =
    (record { poll = p; out = is; bytes = bytes; asks = asks }, no_good, of)
reply_tells b (IsPollReplied.silent p is asks) = (p, is, asks)
reply_tells b (IsPollReplied.wanting fault p is asks) = tt

gets_tell : {b c : Agents} (answer : PollAnswer) {old new : Option History}
    → GetsLengths b (Ok answer) c old new → ReplyTells b old new (Ok answer)
gets_tell {b = b} answer {old = old} {new = new} gets =
    subst (ReplyTells b old new) (given_is gets.given answer gets.result_is)
    (reply_tells b gets.made)

pub never_nothing : {b c : Agents} {old new : Option History} → GetsLengths b (Ok Nothing) c old new
    → is_some b.delivery.poll ≡ true → ⊥
never_nothing gets out = true≢false (sym out ∙ ap is_some (gets_tell Nothing gets))

-- a length came for each sink of the poll
count_so : {b c : Agents} (k : ℕ) (below : Option Below)
    (stems : List Stem) {old new : Option History}
    → option_map (λ (p : Poll). p.stems) b.delivery.poll ≡ Some stems
    → GetsLengths b (Ok (Lengths k below)) c old new → k ≡ length stems
count_so k below stems out gets =
    let told = gets_tell (Lengths k below) gets in
    told.1 ∙ ap length
    (same_Some told.0.poll.stems stems
    (sym (ap (option_map (λ (p : Poll). p.stems)) told.0.out) ∙ out))

-- the ends of a poll, by what was answered
module _ (stems : List Stem) {b c : Agents} {old new : Option History} where
  pub ungot_end : (made : Option ExchangeFault) (fault : AgentFault)
      → GetsLengths b (Err fault) c old new
      → EndsPoll (length stems) b made (Err NoMemory) c old new
  ungot_end made fault gets =
      ungot (subst (λ f. GetsLengths b (Err f) c old new)
      (fault_is gets.given fault gets.result_is) gets)

  pub taken_end : (k : ℕ) (below : Option Below)
      → option_map (λ (p : Poll). p.stems) b.delivery.poll ≡ Some stems
      → GetsLengths b (Ok (Lengths k below)) c old new
      → EndsPoll (length stems) b None (Ok below) c old new
  taken_end k below out gets =
      taken below refl
      (subst (λ n. GetsLengths b (Ok (Lengths n below)) c old new)
      (count_so k below stems out gets) gets)

  pub told_end : (k : ℕ) (below : Option Below) (fault : ExchangeFault)
      → option_map (λ (p : Poll). p.stems) b.delivery.poll ≡ Some stems
      → GetsLengths b (Ok (Lengths k below)) c old new
      → EndsPoll (length stems) b (Some fault) (Err fault) c old new
  told_end k below fault out gets =
      told fault (Lengths k below) refl
      (inl (below, ap (λ n. Lengths n below) (count_so k below stems out gets))) gets

  pub refused_end : (made : Option ExchangeFault) (code : ℕ) (result : ExchangeFault)
      → ((fault : ExchangeFault) → made ≡ Some fault → code ≡ 503 → result ≡ fault)
      → (IsOtherCode made code → result ≡ Refused code)
      → GetsLengths b (Ok (poll_refused_by code)) c old new
      → EndsPoll (length stems) b made (Err result) c old new
  refused_end None code result tells other gets =
      subst (λ f. EndsPoll (length stems) b None (Err f) c old new) (sym (other tt))
      (refused code tt gets)
  refused_end (Some fault) code result tells other gets = go (code == 503) refl
    where
      go : (t : Bool) → (code == 503) ≡ t
          → EndsPoll (length stems) b (Some fault) (Err result) c old new
      go true e =
          let same = nat_same code 503 e in
          subst (λ f. EndsPoll (length stems) b (Some fault) (Err f) c old new)
          (sym (tells fault refl same))
          (told fault (poll_refused_by code) refl (inr (ap poll_refused_by same)) gets)
      go false e =
          let apart : code ≢ 503 = λ same. true≢false (sym (ap (λ k. k == 503) same) ∙ e) in
          subst (λ f. EndsPoll (length stems) b (Some fault) (Err f) c old new) (sym (other apart))
          (refused code apart gets)

-- ---- how a poll closes

-- of what was got for a poll of these sinks
module _ (bytes got : List ℕ) (address : List ℕ) (stems : List Stem)
    (written : WrittenPoll address stems bytes)
    (made : Option ExchangeFault) where
  never_refused : (code : ℕ) → IsOtherCode made code → IsNoPollReply stems got → IsCode got code
      → (reply : List ℕ) → IsReplyTo bytes reply made → got ≡ reply → ⊥
  never_refused code other no_good is_code reply to same = go made refl
    where
      go : (o : Option ExchangeFault) → made ≡ o → ⊥
      go None is =
          let good = to.poll is address stems written in
          no_good good.0 (subst (IsGoodReply good.0) (sym same) good.1) good.2
      go (Some fault) is = other_code bytes reply got made fault code is other is_code to same

-- the poll that is out was written so
pub record IsWritten (b : Agents) (bytes : List ℕ) (p : Poll) : Type 0 where
  pub address : List ℕ
  pub written : WrittenPoll address p.stems bytes
  pub out : b.delivery.poll ≡ Some p

module _ (b : Agents) (bytes : List ℕ) (p : Poll) (is : IsWritten b bytes p) where
  this : (q : Poll) → b.delivery.poll ≡ Some q → q ≡ p
  this q out = same_Some q p (sym out ∙ is.out)

  asked_so : {old new : Option History} (got : IsGot b old new)
      → AsksReply (agent_of b) p.message (Ok got.bytes) old new
  asked_so {old = old} {new = new} got =
      subst (λ (q : Poll). AsksReply (agent_of b) q.message (Ok got.bytes) old new)
      (this got.poll got.out) got.asks

  pub closes : {count : ℕ}
      (made : Option ExchangeFault) {result : Result (Option Below) ExchangeFault} {c : Agents}
      {old new : Option History} → EndsPoll count b made result c old new
      → Closes (Option Below) b p.message bytes made result old new
  closes made (ungot gets) = Closes.ungot
  closes made {old = old} {new = new} (silent gets) =
      let told = gets_tell Silent gets in
      Closes.silent
      (subst (λ (q : Poll). AsksReply (agent_of b) q.message (Err Failed) old new)
      (this told.0 told.1) told.2)
  closes {count = count} made (taken below none gets) =
      let got = (gets_tell (Lengths count below) gets).0 in
      Closes.taken below got.bytes none (asked_so got)
  closes {count = count} made {c = c} {old = old} {new = new}
      (told fault answer some (inl e) gets) =
      let got =
      (gets_tell (Lengths count e.0) (subst (λ x. GetsLengths b (Ok x) c old new) e.1 gets)).0
      in
      Closes.told fault got.bytes some (asked_so got)
  closes {count = count} made {c = c} {old = old} {new = new}
      (told fault answer some (inr e) gets) =
      let got =
      (gets_tell (poll_refused_by 503) (subst (λ x. GetsLengths b (Ok x) c old new) e gets)).0
      in
      Closes.told fault got.bytes some (asked_so got)
  closes made (refused code other gets) =
      let told = gets_tell (poll_refused_by code) gets in
      let same = ap (λ (q : Poll). q.stems) (this told.0.poll told.0.out) in
      Closes.refused code told.0.bytes (asked_so told.0)
      (never_refused bytes told.0.bytes is.address p.stems is.written made code other
      (subst (λ xs. IsNoPollReply xs told.0.bytes) same told.1) told.2)

-- ---- the agent goes on

polled_keeps : {who : Who} {s : Delivery} {given : Result Polled Wanting} {d : Delivery}
    {old new : Option History}
    → IsPolled who s given d old new → d.ring.addresses ≡ s.ring.addresses
polled_keeps (IsPolled.none none) = refl
polled_keeps (IsPolled.sent bytes m written sends) = refl
polled_keeps (IsPolled.failed bytes written sends) = refl
polled_keeps (IsPolled.unsent fault) = refl
polled_keeps (IsPolled.refused fault bytes written sends) = refl

polls_keep : {a b : Agents} {result : Result Polled AgentFault} {old new : Option History}
    → Polls a result b old new
    → KeepsAgent a b
polls_keep polls = record {
  delivery = polls.delivery;
  state = polls.state_is;
  addresses =
      polled_keeps polls.made;
}

pub sends_keep : {a b : Agents} {result : Result (Unit {0}) ExchangeFault}
    {old new : Option History}
    → SendsPoll a result b old new → KeepsAgent a b
sends_keep (SendsPoll.sent count polls) = polls_keep polls
sends_keep (SendsPoll.failed polls) = polls_keep polls
sends_keep (SendsPoll.unsent polls) = polls_keep polls

replied_keeps : {who : Who} {s : Delivery} {given : Result PollAnswer Wanting} {d : Delivery}
    {old new : Option History}
    → IsPollReplied who s given d old new → d.ring.addresses ≡ s.ring.addresses
replied_keeps (IsPollReplied.nothing none) = refl
replied_keeps (IsPollReplied.got p bytes is asks (TakesPollReply.good lengths good are sees)) = refl
replied_keeps (IsPollReplied.got p bytes is asks (TakesPollReply.bad code no_good of)) = refl
replied_keeps (IsPollReplied.silent p is asks) = refl
replied_keeps (IsPollReplied.wanting fault p is asks) = refl

gets_keep : {a b : Agents} {result : Result PollAnswer AgentFault} {old new : Option History}
    → GetsLengths a result b old new → KeepsAgent a b
gets_keep gets =
    record { delivery = gets.delivery; state = gets.state_is; addresses = replied_keeps gets.made }

ends_keep : {count : ℕ} {a b : Agents} {made : Option ExchangeFault}
    {result : Result (Option Below) ExchangeFault}
    {old new : Option History} → EndsPoll count a made result b old new → KeepsAgent a b
ends_keep (ungot gets) = gets_keep gets
ends_keep (silent gets) = gets_keep gets
ends_keep (taken below none gets) = gets_keep gets
ends_keep (told fault answer some came gets) = gets_keep gets
ends_keep (refused code other gets) = gets_keep gets

-- the poll was sent
pub sent_so : {a b : Agents} {old new : Option History} → SendsPoll a (Ok tt) b old new
    → (count : ℕ) × Polls a (Ok (Sent count)) b old new
sent_so (SendsPoll.sent count polls) = (count, polls)

module _ {a b : Agents} {old mid : Option History} (sends : SendsPoll a (Ok tt) b old mid) where
  abbrev pub Count : ℕ
  Count = (sent_so sends).0

  abbrev out : IsOut a Count b old mid
  out = polls_tell (Sent Count) (sent_so sends).1

  abbrev pub sent_message : SentMessage a b old mid
  sent_message = record {
    message = out.message;
    bytes = out.bytes;
    word = out.written.to;
    sends = out.sends;
    keeps = sends_keep sends;
  }

  abbrev pub poll_out : Poll
  poll_out = record { message = out.message; stems = asked_stems a.delivery.table }

  out_poll : b.delivery.poll ≡ Some poll_out
  out_poll = ap (λ (x : Agents). x.delivery.poll) out.state

  pub poll_is_out : is_some b.delivery.poll ≡ true
  poll_is_out = ap is_some out_poll

  pub is_written : IsWritten b sent_message.bytes poll_out
  is_written = record {
    address = address_now a.delivery.ring;
    written = out.written;
    out =
        out_poll;
  }

  -- of the end that is said of all sinks that were asked for
  module _ {made : Option ExchangeFault} {result : Result (Option Below) ExchangeFault} {c : Agents}
      {next new : Option History}
      (ends : (stems : List Stem) → option_map (λ (p : Poll). p.stems) b.delivery.poll ≡ Some stems
      → EndsPoll (length stems) b made result c next new) where
    pub ends_so : EndsPoll Count b made result c next new
    ends_so =
        subst (λ n. EndsPoll n b made result c next new) (sym out.as_many)
        (ends (asked_stems a.delivery.table) (ap (option_map (λ (p : Poll). p.stems)) out_poll))

    pub closes_so : Closes (Option Below) b sent_message.message sent_message.bytes made result next
        new
    closes_so = closes b out.bytes poll_out is_written made ends_so

    pub end_keeps : KeepsAgent b c
    end_keeps = ends_keep ends_so
