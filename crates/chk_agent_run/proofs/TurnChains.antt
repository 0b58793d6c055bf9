-- The turns of an agent, one after another.
use Rattle.std.proofs.Common.{◌≡◌, ℕ, suc, ◌+◌, ◌-◌, ◌≤◌, ◌<◌, List, Option, Result, Ok, Err, sym, subst, arith}
use Rattle.chk_site.specs.declared.acts.Who.{Who}
use Rattle.chk_site.specs.History.{History}
use Rattle.chk_agent.specs.declared.answers.AgentFault.{AgentFault}
use Rattle.chk_agent.specs.declared.answers.Then.TheVariants.{Go, End}
use Rattle.chk_agent.specs.States.{State}
use Rattle.chk_agent_run.specs.declared.turn.Ended.{Ended}
use Rattle.chk_agent_run.specs.declared.turn.Ended.TheVariants.{Over, Stopped}
use Rattle.chk_agent_run.specs.Turns.{IsAgentTurn, AreAgentTurns, over, ended, refused, turn}
use Rattle.chk_agent_run.proofs.Carried.{Carried, carried_none}

-- So many turns were made; what is left is what is left of all.
pub record TurnedTo (who : Who) (door : Option (List ℕ)) (pause turns : ℕ) (s : State) (old : Option History) (i : ℕ) (t : State) (mid : Option History) : Type 0 where
  pub carried : Carried s t old mid
  pub onward : (result : Result Ended AgentFault) (u : State) (new : Option History)
      → AreAgentTurns who door pause (turns - i) t result u mid new → AreAgentTurns who door pause turns s result u old new

pub turned_none : (who : Who) (door : Option (List ℕ)) (pause turns : ℕ) (s : State) (now : Option History)
    → TurnedTo who door pause turns s now 0 s now
turned_none who door pause turns s now = record {
  carried = carried_none s now;
  onward = λ result u new run.
      subst (λ (k : ℕ). AreAgentTurns who door pause k s result u now new) (let same : turns - 0 ≡ turns = omega arith in same) run;
}

module _ (who : Who) (door : Option (List ℕ)) (pause turns : ℕ) (s : State) (old : Option History) (i : ℕ) (t : State) (mid : Option History)
    (ran : TurnedTo who door pause turns s old i t mid) where
  pub turned_all : turns ≤ i → AreAgentTurns who door pause turns s (Ok Over) t old mid
  turned_all past =
      ran.onward (Ok Over) t mid
      (subst (λ (k : ℕ). AreAgentTurns who door pause k t (Ok Over) t mid mid) (let all : 0 ≡ turns - i = omega arith in all) over)

  module _ (more : i < turns) (u : State) (new : Option History) where
    left : suc (turns - (i + 1)) ≡ turns - i
    left = omega arith

    one : (result : Result Ended AgentFault) (v : State) (later : Option History)
        → AreAgentTurns who door pause (suc (turns - (i + 1))) t result v mid later
        → AreAgentTurns who door pause turns s result v old later
    one result v later run =
        ran.onward result v later (subst (λ (k : ℕ). AreAgentTurns who door pause k t result v mid later) left run)

    pub turned_ended : IsAgentTurn who door pause t (Ok End) u mid new → AreAgentTurns who door pause turns s (Ok Stopped) u old new
    turned_ended made = one (Ok Stopped) u new (ended made)

    pub turned_refused : (fault : AgentFault) → IsAgentTurn who door pause t (Err fault) u mid new
        → AreAgentTurns who door pause turns s (Err fault) u old new
    turned_refused fault made = one (Err fault) u new (refused fault made)

    pub turned_on : IsAgentTurn who door pause t (Ok Go) u mid new → Carried s u old new
        → TurnedTo who door pause turns s old (i + 1) u new
    turned_on made carried = record {
      carried = carried;
      onward = λ result v later rest. one result v later (turn made rest);
    }
