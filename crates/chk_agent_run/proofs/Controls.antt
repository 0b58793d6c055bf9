-- The messages of a turn, one after another.
use Rattle.std.proofs.Common.{◌≡◌, ℕ, suc, ◌+◌, ◌-◌, ◌≤◌, ◌<◌, List, [], Option, Some, None, Result, Ok, Err, sym, subst, arith}
use Rattle.std.specs.Borrow.{Bor}
use Rattle.chk_bytes.specs.Words.{parts_at}
use Rattle.chk_site.specs.declared.acts.Who.{Who}
use Rattle.chk_site.specs.declared.suffixes.Taking.{Taking}
use Rattle.chk_site.specs.History.{History}
use Rattle.chk_agent.specs.declared.answers.AgentFault.{AgentFault}
use Rattle.chk_agent.specs.declared.answers.Reply.{Reply}
use Rattle.chk_agent.specs.declared.answers.Then.{Then}
use Rattle.chk_agent.specs.declared.answers.Then.TheVariants.{Go, Close, End}
use Rattle.chk_agent.specs.States.{State}
use Rattle.chk_agent_run.specs.Calls.{Took}
use Rattle.chk_agent_run.specs.Closing.{capped}
use Rattle.chk_agent_run.specs.Lines.{AreRun}
use Rattle.chk_agent_run.specs.Messages.{IsRead}
use Rattle.chk_agent_run.specs.Turns.{GoesOrEnds, behind, Answers, IsControlled, broken, answered_by, unanswered, unrun, AreControlled, enough, none, untaken, ended, refused, on, AtDoor, no_door, at}
use Rattle.chk_agent_run.specs.Lent.{word_of}
use Rattle.chk_agent_run.proofs.Carried.{Carried, carried_none}

-- a message that doesn't end the agent
pub goes_on : (then : Then) → GoesOrEnds (Ok then) → (then ≡ End → ⊥) → then ≡ Go
goes_on Go may other = λ i. Go
goes_on Close may other = absurd may
goes_on End may other = absurd (other (λ i. End))

-- ---- one message, by what was read of it

module _ (who : Who) (taking : Taking) (s : State) (o : Option (List ℕ)) {old mid : Option History}
    (read : IsRead who taking.number (capped taking.bytes) (Ok o) old mid) where
  pub broken_by : o ≡ None → IsControlled who taking s (Ok Go) s old mid
  broken_by is = broken (subst (λ (k : Option (List ℕ)). IsRead who taking.number (capped taking.bytes) (Ok k) old mid) is read)

  whole : (bytes : List ℕ) → o ≡ Some bytes → IsRead who taking.number (capped taking.bytes) (Ok (Some bytes)) old mid
  whole bytes is = subst (λ (k : Option (List ℕ)). IsRead who taking.number (capped taking.bytes) (Ok k) old mid) is read

  module _ (bytes text : List ℕ) (is : o ≡ Some bytes) (same : text ≡ bytes) (t : State) {next : Option History} where
    ran_by : (result : Result Reply AgentFault) → AreRun (parts_at 10 text) [] s result t mid next
        → AreRun (parts_at 10 bytes) [] s result t mid next
    ran_by result run = subst (λ (b : List ℕ). AreRun (parts_at 10 b) [] s result t mid next) same run

    pub refused_by : (fault : AgentFault) → AreRun (parts_at 10 text) [] s (Err fault) t mid next
        → IsControlled who taking s (Err fault) t old next
    refused_by fault run = unrun bytes fault (whole bytes is) (ran_by (Err fault) run)

    module _ (reply : Reply) (run : AreRun (parts_at 10 text) [] s (Ok reply) t mid next) (said : List ℕ) (said_is : said ≡ reply.text)
        {new : Option History} where
      pub answered_as : Answers who taking.number said (Ok tt) next new → IsControlled who taking s (Ok (behind reply.then)) t old new
      answered_as gave =
          answered_by bytes reply (whole bytes is) (ran_by (Ok reply) run)
          (subst (λ (k : List ℕ). Answers who taking.number k (Ok tt) next new) said_is gave)

      pub unanswered_as : (fault : AgentFault) → Answers who taking.number said (Err fault) next new
          → IsControlled who taking s (Err fault) t old new
      unanswered_as fault gave =
          unanswered bytes reply fault (whole bytes is) (ran_by (Ok reply) run)
          (subst (λ (k : List ℕ). Answers who taking.number k (Err fault) next new) said_is gave)

-- ---- one after another

-- So many messages were taken; what is left is what is left of all.
pub record ControlledTo (who : Who) (door : List ℕ) (most : ℕ) (s : State) (old : Option History) (i : ℕ) (t : State) (mid : Option History) : Type 0 where
  pub carried : Carried s t old mid
  pub onward : (result : Result Then AgentFault) (u : State) (new : Option History)
      → AreControlled who door (most - i) t result u mid new → AreControlled who door most s result u old new

pub controlled_none : (who : Who) (door : List ℕ) (most : ℕ) (s : State) (now : Option History) → ControlledTo who door most s now 0 s now
controlled_none who door most s now = record {
  carried = carried_none s now;
  onward = λ result u new run.
      subst (λ (k : ℕ). AreControlled who door k s result u now new) (let same : most - 0 ≡ most = omega arith in same) run;
}

module _ (who : Who) (door : List ℕ) (most : ℕ) (s : State) (old : Option History) (i : ℕ) (t : State) (mid : Option History)
    (ran : ControlledTo who door most s old i t mid) where
  pub controlled_all : most ≤ i → AreControlled who door most s (Ok Go) t old mid
  controlled_all past =
      ran.onward (Ok Go) t mid
      (subst (λ (k : ℕ). AreControlled who door k t (Ok Go) t mid mid) (let all : 0 ≡ most - i = omega arith in all) enough)

  module _ (more : i < most) where
    left : suc (most - (i + 1)) ≡ most - i
    left = omega arith

    one : (result : Result Then AgentFault) (u : State) (new : Option History)
        → AreControlled who door (suc (most - (i + 1))) t result u mid new → AreControlled who door most s result u old new
    one result u new run =
        ran.onward result u new (subst (λ (k : ℕ). AreControlled who door k t result u mid new) left run)

    pub controlled_no_more : (new : Option History) → Took who door (Ok None) mid new → AreControlled who door most s (Ok Go) t old new
    controlled_no_more new took = one (Ok Go) t new (none took)

    pub controlled_untaken : (fault : AgentFault) (new : Option History) → Took who door (Err fault) mid new
        → AreControlled who door most s (Err fault) t old new
    controlled_untaken fault new took = one (Err fault) t new (untaken fault took)

    module _ (taking : Taking) (next new : Option History) (u : State) (took : Took who door (Ok (Some taking)) mid next) where
      pub controlled_ended : IsControlled who taking t (Ok End) u next new → AreControlled who door most s (Ok End) u old new
      controlled_ended run = one (Ok End) u new (ended taking took run)

      pub controlled_refused : (fault : AgentFault) → IsControlled who taking t (Err fault) u next new
          → AreControlled who door most s (Err fault) u old new
      controlled_refused fault run = one (Err fault) u new (refused taking fault took run)

      pub controlled_on : IsControlled who taking t (Ok Go) u next new → Carried s u old new
          → ControlledTo who door most s old (i + 1) u new
      controlled_on run carried = record {
        carried = carried;
        onward = λ result v later rest. one result v later (on taking took run rest);
      }

-- ---- where a door is lent

pub at_some : (who : Who) (s : State) (o : Option (Bor (List ℕ))) (d : Bor (List ℕ)) → o ≡ Some d → {t : State}
    {result : Result Then AgentFault} {old new : Option History} → AreControlled who d.now 64 s result t old new
    → AtDoor who s (word_of o) result t old new
at_some who s o d is {t = t} {result = result} {old = old} {new = new} run =
    subst (λ (k : Option (Bor (List ℕ))). AtDoor who s (word_of k) result t old new) (sym is) (at d.now run)

pub at_none : (who : Who) (s : State) (o : Option (Bor (List ℕ))) → o ≡ None → (now : Option History)
    → AtDoor who s (word_of o) (Ok Go) s now now
at_none who s o is now = subst (λ (k : Option (Bor (List ℕ))). AtDoor who s (word_of k) (Ok Go) s now now) (sym is) no_door
