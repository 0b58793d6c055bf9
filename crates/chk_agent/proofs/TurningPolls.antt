-- A poll where one is due, exit by exit.
use Rattle.std.proofs.Common.{◌≡◌, ℕ, true, List, Option, Result, Ok, Err, sym, subst}
use Rattle.chk_site.specs.History.{History}
use Rattle.chk_site.specs.Site.{Adds}
use Rattle.chk_site.specs.Runs.{Leads}
use Rattle.chk_site.proofs.Leads.{leads_as}
use Rattle.chk_world.specs.Places.{As}
use Rattle.chk_agent_delivery.specs.declared.answers.Polled.{Polled}
use Rattle.chk_agent_delivery.specs.declared.answers.Polled.TheVariants.{Sent, Failed}
use Rattle.chk_agent_delivery.specs.declared.answers.PollAnswer.{PollAnswer}
use Rattle.chk_agent_delivery.specs.Turns.{is_due}
use Rattle.chk_agent.specs.declared.answers.AgentFault.{AgentFault}
use Rattle.chk_agent.specs.States.{State, process}
use Rattle.chk_agent.specs.Facts.{Matches}
use Rattle.chk_agent.specs.Turns.{Polls, GetsLengths, PollsIfDue, unsent, asked, refused}
use Rattle.chk_agent.specs.Turns.{unanswered, note_poll}
use Rattle.chk_agent.proofs.TurningTold.{TalksOn, IsSameAgent, talking_as, talks_then}

-- the moment of a poll is no matter of the history
noted_holds : (stamped : List (List ℕ)) (now : ℕ) (s : State) (h : History) → Matches stamped s h
    → Matches stamped (note_poll now s) h
noted_holds stamped now s h x = record {
  legal = x.legal;
  may_act = x.may_act;
  alive = λ running ready.
      let k = x.alive running ready in
      let d = k.holds.delivery in
      record {
        one_cluster = k.one_cluster;
        lines_are = k.lines_are;
        holds = record {
          readers = k.holds.readers;
          delivery = record {
            queue = d.queue;
            rows = d.rows;
            ends = d.ends;
            post = d.post;
            poll =
                d.poll;
          };
        };
      };
}

module _ (now : ℕ) (s t : State) {old mid : Option History} where
  -- the reply is asked for behind the note of the poll
  pub sent_told : (u v : State) {new : Option History} → IsSameAgent s t → TalksOn s t old mid
      → u ≡ note_poll now t
      → ((stamped : List (List ℕ)) → Adds mid new (Leads (As stamped (process u))
      (Matches stamped u) (Matches stamped v)))
      → TalksOn s v old new
  sent_told u v {new = new} same first is second =
      talks_then s t v same first
      (λ stamped. leads_as (noted_holds stamped now t) (λ h x. x)
      (talking_as (process t) stamped
      (subst (λ (k : State). Adds mid new (Leads (As stamped (process k)) (Matches stamped k)
      (Matches stamped v))) is (second stamped))))

  module _ (polled : Polled) (due : is_due now s.delivery ≡ true) (polls : Polls s
      (Ok polled) t old mid) where
    pub unsent_at : polled ≡ Failed → PollsIfDue now s (Ok tt) t old mid
    unsent_at is = unsent due (subst (λ p. Polls s (Ok p) t old mid) is polls)

    pub asked_at : (count : ℕ) (answer : PollAnswer) (u v : State) {new : Option History}
        → polled ≡ Sent count → u ≡ note_poll now t
        → GetsLengths u (Ok answer) v mid new → PollsIfDue now s (Ok tt) v old new
    asked_at count answer u v {new = new} is noted lengths =
        asked count answer due (subst (λ p. Polls s (Ok p) t old mid) is polls)
        (subst (λ (k : State). GetsLengths k (Ok answer) v mid new) noted lengths)

    pub unanswered_at : (count : ℕ) (fault : AgentFault) (result : Result (Unit {0}) AgentFault)
        (u v : State) {new : Option History}
        → result ≡ Err fault → polled ≡ Sent count → u ≡ note_poll now t
        → GetsLengths u (Err fault) v mid new → PollsIfDue now s result v old new
    unanswered_at count fault result u v {new = new} ends is noted lengths =
        subst (λ r. PollsIfDue now s r v old new) (sym ends)
        (unanswered count fault due (subst (λ p. Polls s (Ok p) t old mid) is polls)
        (subst (λ (k : State). GetsLengths k (Err fault) v mid new) noted lengths))

pub refused_at : (now : ℕ) (s t : State) (fault : AgentFault) (result : Result
    (Unit {0}) AgentFault) {old new : Option History}
    → result ≡ Err fault → is_due now s.delivery ≡ true → Polls s (Err fault) t old new
    → PollsIfDue now s result t old new
refused_at now s t fault result {old = old} {new = new} ends due polls =
    subst (λ r. PollsIfDue now s r t old new) (sym ends) (refused fault due polls)
