-- What the calls of a round send, of streams of which what waits ends at an offset or before it.
use Rattle.std.proofs.Common.{◌≡◌, ◌≢◌, ℕ, zero, suc, ◌<◌, List, [], ◌∷◌, ◌++◌, length, Option, Some, Result, Ok, Err, sym, subst, ◌∙◌, refl, arith}
use Rattle.std.specs.Prelude.{Contains, OnOk, slice_get}
use Rattle.std.proofs.lemmas.List.{append_cancel_right}
use Rattle.std.proofs.lemmas.Option.{same_Some}
use Rattle.chk_site.specs.declared.acts.Role.TheVariants.{Collector}
use Rattle.chk_site.specs.declared.acts.Who.{Who}
use Rattle.chk_site.specs.History.{History}
use Rattle.chk_site.specs.Site.{Adds}
use Rattle.chk_chunk.specs.Keys.{Stream}
use Rattle.chk_world.specs.Laws.{agent_of}
use Rattle.chk_sink.specs.States.{State as Sinks}
use Rattle.chk_agent_adaptor.specs.Adaptors.{Adaptor, stream_at}
use Rattle.chk_agent_delivery.specs.declared.answers.Below.{Below}
use Rattle.chk_agent.specs.Fits.{IsSound}
use Rattle.chk_agent.specs.States.{State as Agents}
use Rattle.chk_agent.proofs.Soundness.{below_at}
use Rattle.chk_agent_drain.specs.Parts.{AdaptorsBut}
use Rattle.chk_exchange.specs.declared.fault.ExchangeFault.{ExchangeFault}
use Rattle.chk_exchange.specs.Exchanges.{PollsInside, PostsInside}
use Rattle.chk_round.specs.declared.faults.RoundFault.{RoundFault}
use Rattle.chk_round.specs.Sending.{QueueBelow, SendsOn}
use Rattle.chk_round.proofs.NonePast.{sends_none, sends_then}
use Rattle.chk_round.proofs.QueueBelow.{queue_below}
use Rattle.chk_round.proofs.SendsInside.{poll_below, poll_none_past, post_below, post_none_past}
use Rattle.chk_agent_drain.proofs.DrainingAll.{some_at}

-- what follows at Ok
pub on_ok : {T : Type 0} {K L : Type 0} (r : Result T RoundFault) → (K → L) → OnOk r K → OnOk r L
on_ok (Ok value) more k = more k
on_ok (Err fault) more k = tt

-- an account of steps, with each of several others of the same steps
pub adds_each : {I : Type 0} {Q : History → History → Type 0} (P : I → History → History → Type 0)
    {old new : Option History} → Adds old new Q → ((i : I) → Adds old new (P i))
    → Adds old new (λ added history. Q added history × ((i : I) → P i added history))
adds_each {I = I} P q each = record {
  told = λ history e.
      let x = q.told history e in (
        x.0,
        x.1,
        (
          x.2,
          λ (i : I).
              let y = (each i).told history e in
              let same : y.0 ≡ x.0 =
              append_cancel_right y.0 x.0 history
              (same_Some (y.0 ++ history) (x.0 ++ history) (sym y.1 ∙ x.1)) in
              subst (λ (a : History). P i a history) same y.2,
        ),
      );
  untold = q.untold;
}

-- ---- in turn

pub sends_on_none : (a : Agents) (now : Option History) → SendsOn a a now now
sends_on_none a now stamped started s end one low = (sends_none s end stamped started now, low)

pub sends_on_then : (a b c : Agents) {old mid new : Option History} → SendsOn a b old mid
    → SendsOn b c mid new → SendsOn a c old new
sends_on_then a b c p q stamped started s end one low =
    let x = p stamped started s end one low in
    let y = q stamped started s end one x.1 in (sends_then s end stamped started x.0 y.0, y.1)

-- ---- a message inside

pub post_sends : {who : Who} {now : ℕ} {sinks u : Sinks} {a b : Agents}
    {result : Result (Unit {0}) ExchangeFault} {old new : Option History} → who.role ≡ Collector
    → PostsInside who now sinks a result u b old new → SendsOn a b old new
post_sends {who = who} role script stamped started s end one low =
    (post_none_past s end stamped started one who role script low, post_below s end script low)

pub poll_sends : {who : Who} {sinks u : Sinks} {a b : Agents}
    {result : Result (Option Below) ExchangeFault} {old new : Option History} → who.role ≡ Collector
    → PollsInside who sinks a result u b old new → SendsOn a b old new
poll_sends {who = who} role script stamped started s end one low =
    (poll_none_past s end stamped started one who role script, poll_below s end script low)

-- ---- the streams

-- a stream whose agent the run started, and an offset
pub record Known (started : List Who) : Type 0 where
  pub stream : Stream
  pub end : ℕ
  pub one : Contains started (agent_of stream)

-- what waits of it ends there or before it
pub record Waits (started : List Who) (a : Agents) : Type 0 where
  pub stream : Stream
  pub end : ℕ
  pub one : Contains started (agent_of stream)
  pub low : QueueBelow stream end a

-- an adaptor but one
pub record IsOther (n : ℕ) (a : Agents) : Type 0 where
  pub place : ℕ
  pub adaptor : Adaptor
  pub apart : place ≢ n
  pub at : slice_get a.adaptors place ≡ Some adaptor

-- it is still there
pub other_at : (n : ℕ) (a b : Agents) → AdaptorsBut n a b → (k : ℕ) (x : Adaptor) → k ≢ n
    → slice_get a.adaptors k ≡ Some x → slice_get b.adaptors k ≡ Some x
other_at n a b but k x apart at =
    let below = below_at a.adaptors k x at in
    let size = but.size in
    let there = some_at b.adaptors k (omega (arith, below, size)) in
    there.1 ∙ (sym (but.others k there.0 apart there.1) ∙ at)

-- what waits of its stream, whatever was read of the one
pub other_low : (n : ℕ) (a b : Agents) → AdaptorsBut n a b → b.source ≡ a.source → IsSound b
    → (k : ℕ) (x : Adaptor) → k ≢ n → slice_get a.adaptors k ≡ Some x
    → QueueBelow (stream_at a.source x) x.read.offset b
other_low n a b but source sound k x apart at =
    subst (λ n. QueueBelow (stream_at n x) x.read.offset b) source
    (queue_below b sound k x (other_at n a b but k x apart at))
