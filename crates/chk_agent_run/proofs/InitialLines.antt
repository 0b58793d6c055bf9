-- The lines of an initial file, one after another.
use Rattle.std.proofs.Common.{◌≡◌, ℕ, ◌+◌, ◌<◌, true, false, List, [], ◌∷◌, length, Option, Result, Ok, Err, sym, subst, arith}
use Rattle.chk_bytes.specs.Words.{parts_at}
use Rattle.chk_site.specs.History.{History}
use Rattle.chk_agent.specs.declared.answers.AgentFault.{AgentFault}
use Rattle.chk_agent.specs.States.{State}
use Rattle.chk_agent_run.specs.declared.faults.RunFault.{RunFault}
use Rattle.chk_agent_run.specs.declared.faults.RunFault.TheVariants.{Initial}
use Rattle.chk_agent_run.specs.Faults.{fault_of}
use Rattle.chk_agent_run.specs.Lines.{lines_from}
use Rattle.chk_agent_run.specs.Initial.{IsLineAdded, AreAdded, all_added, on, bad, failed}
use Rattle.chk_agent_run.proofs.Carried.{Carried, carried_none}
use Rattle.chk_agent_run.proofs.LineLemmas.{from_here, none_behind}

-- The lines so far were added; what is left of them is what is left of all.
pub record AddedTo (text : List ℕ) (s : State) (old : Option History) (at : ℕ) (t : State) (mid : Option History) : Type 0 where
  pub carried : Carried s t old mid
  pub onward : (result : Result (Unit {0}) RunFault) (u : State) (new : Option History)
      → AreAdded at (lines_from at text) t result u mid new → AreAdded 0 (parts_at 10 text) s result u old new

pub added_none : (text : List ℕ) (s : State) (now : Option History) → AddedTo text s now 0 s now
added_none text s now = record {
  carried = carried_none s now;
  onward = λ result u new run.
      subst (λ (ls : List (List ℕ)). AreAdded 0 ls s result u now new) (from_here 0 text (omega arith)) run;
}

module _ (text : List ℕ) (s : State) (old : Option History) (at : ℕ) (t : State) (mid : Option History)
    (ran : AddedTo text s old at t mid) where
  pub added_all : length text < at → AreAdded 0 (parts_at 10 text) s (Ok tt) t old mid
  added_all past =
      ran.onward (Ok tt) t mid
      (subst (λ (ls : List (List ℕ)). AreAdded at ls t (Ok tt) t mid mid) (sym (none_behind at text past)) all_added)

  module _ (line : List ℕ) (is : lines_from at text ≡ line ∷ lines_from (at + length line + 1) text) (u : State) (new : Option History) where
    one : (result : Result (Unit {0}) RunFault) (v : State) (later : Option History)
        → AreAdded at (line ∷ lines_from (at + length line + 1) text) t result v mid later
        → AreAdded 0 (parts_at 10 text) s result v old later
    one result v later run =
        ran.onward result v later (subst (λ (ls : List (List ℕ)). AreAdded at ls t result v mid later) (sym is) run)

    pub failed_one : (fault : AgentFault) → IsLineAdded line t (Err fault) u mid new
        → AreAdded 0 (parts_at 10 text) s (Err (fault_of fault)) u old new
    failed_one fault did = one (Err (fault_of fault)) u new (failed fault did)

    pub bad_one : IsLineAdded line t (Ok false) u mid new → AreAdded 0 (parts_at 10 text) s (Err (Initial at)) u old new
    bad_one did = one (Err (Initial at)) u new (bad did)

    pub added_one : (next : ℕ) → IsLineAdded line t (Ok true) u mid new → next ≡ at + length line + 1 → Carried s u old new
        → AddedTo text s old next u new
    added_one next did next_is carried =
        subst (λ (k : ℕ). AddedTo text s old k u new) (sym next_is) (record {
          carried = carried;
          onward = λ result v later run. one result v later (on did run);
        })
