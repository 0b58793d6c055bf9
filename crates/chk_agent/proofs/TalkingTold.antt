-- A call of what is to be delivered leaves what the history holds of the readers.
use Rattle.std.proofs.Common.{◌≡◌, ℕ, Bool, true, false, List, [], ◌∷◌, ◌++◌, Option, Result, Ok}
use Rattle.std.proofs.Common.{Err, sym, subst, refl, arith, ap, ◌∙◌}
use Rattle.std.specs.Prelude.{IsTrue, Contains}
use Rattle.chk_bytes.specs.declared.NoMemory.{NoMemory}
use Rattle.chk_site.specs.declared.acts.Who.{Who}
use Rattle.chk_site.specs.declared.acts.Call.TheVariants.{Send}
use Rattle.chk_site.specs.History.{Step, History, is_stopped}
use Rattle.chk_site.specs.Site.{Adds}
use Rattle.chk_site.specs.Runs.{Side, Owns, Leads}
use Rattle.chk_site.proofs.Leads.{leads_as}
use Rattle.chk_chunk.specs.Keys.{Stream}
use Rattle.chk_tail.specs.Walks.{Spot}
use Rattle.chk_world.specs.Names.{is_source}
use Rattle.chk_world.specs.Places.{As, Making, AtTold}
use Rattle.chk_world.specs.Knowing.{agent}
use Rattle.chk_world.specs.Rules.{Legal}
use Rattle.chk_world.proofs.AgentFacts.{AlwaysStays}
use Rattle.chk_world.proofs.LinesStand.{stands_on}
use Rattle.chk_agent_adaptor.specs.Adaptors.{Adaptor, stream_at, read_line}
use Rattle.chk_agent_adaptor.specs.Facts.{place_line, MarksStand, ReaderStands}
use Rattle.chk_agent_delivery.specs.States.{State as Delivery}
use Rattle.chk_agent_delivery.specs.Basis.{Basis, Fits}
use Rattle.chk_agent_delivery.specs.Facts.{Matches as MatchesDelivery}
use Rattle.chk_agent_delivery.specs.declared.answers.Posted.{Posted}
use Rattle.chk_agent_delivery.specs.declared.answers.Answered.{Answered}
use Rattle.chk_agent_delivery.specs.declared.answers.Polled.{Polled}
use Rattle.chk_agent_delivery.specs.declared.answers.PollAnswer.{PollAnswer}
use Rattle.chk_agent_delivery.specs.declared.answers.Posted.TheVariants.{Sent, Empty, NoRows}
use Rattle.chk_agent_delivery.specs.declared.answers.Posted.TheVariants.{Failed as post_failed}
use Rattle.chk_agent_delivery.specs.declared.answers.Answered.TheVariants.{Taken, Refused, Silent}
use Rattle.chk_agent_delivery.specs.declared.answers.Answered.TheVariants.{Nothing}
use Rattle.chk_agent_delivery.specs.declared.answers.Polled.TheVariants.{Sent as poll_sent, NoneWaiting}
use Rattle.chk_agent_delivery.specs.declared.answers.Polled.TheVariants.{Failed as poll_failed}
use Rattle.chk_agent_delivery.specs.declared.answers.PollAnswer.TheVariants.{Lengths}
use Rattle.chk_agent_delivery.specs.declared.answers.PollAnswer.TheVariants.{Refused as poll_refused}
use Rattle.chk_agent_delivery.specs.declared.answers.PollAnswer.TheVariants.{Silent as poll_silent}
use Rattle.chk_agent_delivery.specs.declared.answers.PollAnswer.TheVariants.{Nothing as no_poll}
use Rattle.chk_agent_delivery.specs.Scripts.{IsPosted, IsPostReplied, IsPolled, IsPollReplied, CauseBy}
use Rattle.chk_agent_delivery.specs.Scripts.{post_fails, reply_fails, poll_fails, lengths_fail}
use Rattle.chk_agent.specs.declared.answers.AgentFault.{AgentFault}
use Rattle.chk_agent.specs.declared.agent.Agent.TheInside.{Inside}
use Rattle.chk_agent.specs.States.{State, process, basis_of}
use Rattle.chk_agent.specs.Facts.{Matches}
use Rattle.chk_agent.specs.Faults.{AgentCause, fails_post, fails_answer, fails_poll, fails_lengths}
use Rattle.chk_agent.specs.Turns.{Posts, GetsPostReply, Polls, GetsLengths, with_delivery, as_agent}
use Rattle.chk_agent.specs.Fields.{agent_view, IsSoundInside}
use Rattle.chk_agent.proofs.Soundness.{fits_basis}

-- ---- the readers' facts stay over every legal step

marks_stay : (stamped : List (List ℕ)) (s : Stream) → IsTrue (is_source s.source)
    → (a : Adaptor) (marks : List Spot)
    → AlwaysStays stamped (λ h. MarksStand h s a marks)
marks_stay stamped s known a [] history step legal h = tt
marks_stay stamped s known a (m ∷ []) history step legal h =
    stands_on stamped history step legal s known (place_line a
    (record m { offset = a.read.offset })) h
marks_stay stamped s known a (m ∷ n ∷ marks) history step legal h = (
  stands_on stamped history step legal s known (place_line a (record m { offset = n.first })) h.0,
  marks_stay stamped s known a (n ∷ marks) history step legal h.1,
)

-- what the history holds of all readers
abbrev pub ReadersStand : State → History → Type 0
ReadersStand s history = (a : Adaptor) → Contains s.adaptors a → ReaderStands s.source a history

pub readers_stay : (stamped : List (List ℕ)) (s : State) → IsTrue (is_source s.source)
    → AlwaysStays stamped (ReadersStand s)
readers_stay stamped s known history step legal h a one = record {
  read = stands_on stamped history step legal (stream_at s.source a) known (read_line a)
      (h a one).read;
  marks = marks_stay stamped (stream_at s.source a) known a a.marks history step legal
      (h a one).marks;
}

-- ---- a site that was stopped makes no step

-- each step that is promised so was made while the site wasn't stopped
abbrev pub Runs : Side → Type 0
Runs S = (before : History) (step : Step) → S.own before step → is_stopped before ≡ false

pub ran_before : (P : History → Step → Type 0) → ((before : History) (step : Step) → P before step
    → is_stopped before ≡ false)
    → (added history : History) → Owns P added history → is_stopped (added ++ history) ≡ false
    → is_stopped history ≡ false
ran_before P runs [] history own running = running
ran_before P runs (step ∷ added) history own running =
    let go : (b : Bool) → step.own ≡ b → is_stopped history ≡ false =
    λ b. elim b as (λ b. step.own ≡ b → is_stopped history ≡ false) [
      | true ↦ λ e. ran_before P runs added history own.0 (runs (added ++ history) step (own.1 e))
      | false ↦ λ e. ran_before P runs added history own.0 (rw e at running)
    ] in
    go step.own refl

stays_on : (stamped : List (List ℕ)) (K : History → Type 0) → AlwaysStays stamped K
    → (added history : History)
    → Legal stamped (added ++ history) → K history → K (added ++ history)
stays_on stamped K stays [] history legal k = k
stays_on stamped K stays (step ∷ added) history legal k =
    stays (added ++ history) step legal (stays_on stamped K stays added history legal.0 k)

-- a fact that every legal step keeps stays beside another one
pub told_beside : (stamped : List (List ℕ)) (who : Who) (K : History → Type 0)
    → AlwaysStays stamped K
    → {S : Side} → Runs S → {B C : History → Type 0} {old new : Option History}
    → Adds old new (Leads S (AtTold stamped who B) (AtTold stamped who C))
    → Adds old new (Leads S (AtTold stamped who (λ h. B h × K h)) (AtTold stamped who
    (λ h. C h × K h)))
told_beside stamped who K stays {S = S} runs p = record {
  told = λ history e.
      let x = p.told history e in (
        x.0,
        x.1,
        record {
          leads = λ s h.
              let after = x.2.leads s (record {
                legal = h.legal;
                may_act = h.may_act;
                alive = λ
                    running. (h.alive running).0;
              }) in
              record {
                legal = after.legal;
                may_act = after.may_act;
                alive = λ running. (
                  after.alive running,
                  stays_on stamped K stays x.0 history after.legal
                      (h.alive (ran_before S.own runs x.0 history x.2.own running)).1,
                );
              };
          own = x.2.own;
        },
      );
  untold = p.untold;
}

-- ---- the state with what is to be delivered

-- what the history holds of the readers and of what is to be delivered, it holds of the state
pub delivery_leads : (stamped : List (List ℕ)) (s : State) (d : Delivery) → s.ready ≡ true
    → IsTrue (is_source s.source)
    → {S : Side} → Runs S → {old new : Option History}
    → Adds old new (Leads S (MatchesDelivery stamped (basis_of s) s.delivery)
    (MatchesDelivery stamped (basis_of s) d))
    → Adds old new (Leads S (Matches stamped s) (Matches stamped (with_delivery s d)))
delivery_leads stamped s d ready known runs p =
    leads_as
    (λ h x. record {
      legal = x.legal;
      may_act = x.may_act;
      alive = λ running.
          let k = x.alive running ready in (
            record {
              one_cluster = k.one_cluster;
              lines_are = k.lines_are;
              holds = k.holds.delivery;
            },
            k.holds.readers,
          );
    })
    (λ h x. record {
      legal = x.legal;
      may_act = x.may_act;
      alive = λ running _.
          let k = x.alive running in
          record {
            one_cluster = k.0.one_cluster;
            lines_are = k.0.lines_are;
            holds = record { readers = k.1; delivery = k.0.holds };
          };
    })
    (told_beside stamped (process s) (ReadersStand s) (readers_stay stamped s known) runs p)

-- the process is that of the state
pub is_me : (a : Inside) → IsSoundInside a → a.who ≡ process (agent_view a)
is_me a inside = λ i. record { role = inside.role i; name = a.who.name }

pub as_runs : (stamped : List (List ℕ)) (who : Who) → Runs (As stamped who)
as_runs stamped who before step by = by.running

pub sending_runs : (stamped : List (List ℕ)) (who : Who) → Runs (Making stamped who Send)
sending_runs stamped who before step by = by.running

-- the same of an agent whose call made one of what is to be delivered
pub talk_told : (S : List (List ℕ) → Who → Side) → ((stamped : List (List ℕ)) (who : Who)
    → Runs (S stamped who))
    → (a : Inside) (s : State) → agent_view a ≡ s → IsSoundInside a → s.ready ≡ true
    → (d : Delivery) {old new : Option History}
    → ((stamped : List (List ℕ)) (b : Basis) → a.who ≡ agent b.source
    → IsTrue (is_source b.source) → Fits b a.delivery
    → Adds old new (Leads (S stamped a.who) (MatchesDelivery stamped b a.delivery)
    (MatchesDelivery stamped b d)))
    → (stamped : List (List ℕ))
    → Adds old new (Leads (S stamped (process s)) (Matches stamped s) (Matches stamped
    (with_delivery (agent_view a) d)))
talk_told S runs a s same inside ready d {old = old} {new = new} told stamped =
    let v = agent_view a in
    subst (λ (k : State). Adds old new (Leads (S stamped (process k)) (Matches stamped k)
    (Matches stamped (with_delivery v d)))) same
    (delivery_leads stamped v d (subst (λ (k : State). k.ready ≡ true)
    (sym same) ready) inside.sound.source (runs stamped (process v))
    (subst (λ w. Adds old new (Leads (S stamped w) (MatchesDelivery stamped
    (basis_of v) v.delivery) (MatchesDelivery stamped (basis_of v) d)))
    (is_me a inside) (told stamped (basis_of v) (is_me a inside) inside.sound.source
    (fits_basis v inside.sound))))

-- such a call names no call that failed
pub talk_cause : {T : Type 0} (before now : ℕ) (given : Result T NoMemory)
    (result : Result T AgentFault) (fails : Bool)
    → result ≡ as_agent given → CauseBy before now fails → AgentCause before now result
talk_cause {T = T} before now given result fails is cause = subst (AgentCause before now) (sym is)
    (go given fails cause)
  where
    go : (given : Result T NoMemory) (fails : Bool) → CauseBy before now fails
        → AgentCause before now (as_agent given)
    go (Ok value) true cause = cause.1
    go (Ok value) false cause = omega (arith, cause)
    go (Err fault) true cause = cause.1
    go (Err fault) false cause = omega (arith, cause)

-- whether a call failed is told by its answer
pub post_cause : (before now : ℕ) (given : Result Posted NoMemory) (result : Result Posted AgentFault)
    → result ≡ as_agent given → CauseBy before now (post_fails given)
    → CauseBy before now (fails_post result)
post_cause before now given result is cause =
    subst (CauseBy before now) (same given ∙ ap fails_post (sym is)) cause
  where
    same : (given : Result Posted NoMemory) → post_fails given ≡ fails_post (as_agent given)
    same (Ok (Sent n)) = refl
    same (Ok Empty) = refl
    same (Ok NoRows) = refl
    same (Ok post_failed) = refl
    same (Err fault) = refl

pub answer_cause : (before now : ℕ) (given : Result Answered NoMemory)
    (result : Result Answered AgentFault)
    → result ≡ as_agent given → CauseBy before now (reply_fails given)
    → CauseBy before now (fails_answer result)
answer_cause before now given result is cause =
    subst (CauseBy before now) (same given ∙ ap fails_answer (sym is)) cause
  where
    same : (given : Result Answered NoMemory) → reply_fails given ≡ fails_answer (as_agent given)
    same (Ok (Taken n)) = refl
    same (Ok (Refused code)) = refl
    same (Ok Silent) = refl
    same (Ok Nothing) = refl
    same (Err fault) = refl

pub poll_cause : (before now : ℕ) (given : Result Polled NoMemory) (result : Result Polled AgentFault)
    → result ≡ as_agent given → CauseBy before now (poll_fails given)
    → CauseBy before now (fails_poll result)
poll_cause before now given result is cause =
    subst (CauseBy before now) (same given ∙ ap fails_poll (sym is)) cause
  where
    same : (given : Result Polled NoMemory) → poll_fails given ≡ fails_poll (as_agent given)
    same (Ok (poll_sent n)) = refl
    same (Ok NoneWaiting) = refl
    same (Ok poll_failed) = refl
    same (Err fault) = refl

pub lengths_cause : (before now : ℕ) (given : Result PollAnswer NoMemory)
    (result : Result PollAnswer AgentFault)
    → result ≡ as_agent given → CauseBy before now (lengths_fail given)
    → CauseBy before now (fails_lengths result)
lengths_cause before now given result is cause =
    subst (CauseBy before now) (same given ∙ ap fails_lengths (sym is)) cause
  where
    same : (given : Result PollAnswer NoMemory) → lengths_fail given ≡ fails_lengths (as_agent given)
    same (Ok (Lengths n below)) = refl
    same (Ok (poll_refused code)) = refl
    same (Ok poll_silent) = refl
    same (Ok no_poll) = refl
    same (Err fault) = refl

-- ---- what each of the four calls made

module _ (a : Inside) (s : State) (same : agent_view a ≡ s)
    (inside : IsSoundInside a) {old new : Option History} where
  pub posts_by : (given : Result Posted NoMemory) (result : Result Posted AgentFault)
      (d : Delivery) → result ≡ as_agent given
      → IsPosted a.who a.delivery given d old new
      → Posts s result (with_delivery (agent_view a) d) old new
  posts_by given result d is made =
      subst (λ (k : State). Posts k result (with_delivery (agent_view a) d) old new) same
      (record {
        given = given;
        delivery = d;
        made = subst
            (λ w. IsPosted w a.delivery given d old new)
            (is_me a inside) made;
        result_is = is;
        state_is = refl;
      })

  pub replies_by : (now : ℕ) (given : Result Answered NoMemory)
      (result : Result Answered AgentFault) (d : Delivery) → result ≡ as_agent given
      → IsPostReplied a.who now a.delivery given d old new
      → GetsPostReply now s result (with_delivery (agent_view a) d) old new
  replies_by now given result d is made =
      subst (λ (k : State). GetsPostReply now k result (with_delivery
      (agent_view a) d) old new) same
      (record {
        given = given;
        delivery = d;
        made = subst
            (λ w. IsPostReplied w now a.delivery given d old new)
            (is_me a inside) made;
        result_is = is;
        state_is = refl;
      })

  pub polls_by : (given : Result Polled NoMemory) (result : Result Polled AgentFault)
      (d : Delivery) → result ≡ as_agent given
      → IsPolled a.who a.delivery given d old new
      → Polls s result (with_delivery (agent_view a) d) old new
  polls_by given result d is made =
      subst (λ (k : State). Polls k result (with_delivery (agent_view a) d) old new) same
      (record {
        given = given;
        delivery = d;
        made = subst
            (λ w. IsPolled w a.delivery given d old new)
            (is_me a inside) made;
        result_is = is;
        state_is = refl;
      })

  pub lengths_by : (given : Result PollAnswer NoMemory) (result : Result PollAnswer AgentFault)
      (d : Delivery) → result ≡ as_agent given
      → IsPollReplied a.who a.delivery given d old new
      → GetsLengths s result (with_delivery (agent_view a) d) old new
  lengths_by given result d is made =
      subst (λ (k : State). GetsLengths k result (with_delivery (agent_view a) d) old new) same
      (record {
        given = given;
        delivery = d;
        made = subst
            (λ w. IsPollReplied w a.delivery given d old new)
            (is_me a inside) made;
        result_is = is;
        state_is = refl;
      })
