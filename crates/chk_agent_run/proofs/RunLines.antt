-- The lines of a message, one after another.
use Rattle.std.proofs.Common.{◌≡◌, ◌≢◌, ℕ, ◌+◌, ◌<◌, true, List, [], ◌∷◌, ◌++◌, length, Option, Result, Ok, Err, sym, subst, arith}
use Rattle.chk_bytes.specs.Words.{parts_at}
use Rattle.chk_site.specs.History.{History}
use Rattle.chk_agent.specs.declared.answers.AgentFault.{AgentFault}
use Rattle.chk_agent.specs.declared.answers.AgentFault.TheVariants.{NoMemory}
use Rattle.chk_agent.specs.declared.answers.Reply.{Reply}
use Rattle.chk_agent.specs.declared.answers.Then.TheVariants.{Go}
use Rattle.chk_agent.specs.States.{State}
use Rattle.chk_agent.specs.Replies.{reply_of}
use Rattle.chk_agent.specs.Commands.{IsCommand}
use Rattle.chk_agent_run.specs.Lines.{lines_from, AreRun, all_run, on, ended, refused, unkept}
use Rattle.chk_agent_run.proofs.Carried.{Carried, carried_none}
use Rattle.chk_agent_run.proofs.LineLemmas.{from_here, none_behind}

-- The lines so far were run; what is left of them is what is left of all.
pub record RanTo (text : List ℕ) (s : State) (old : Option History) (answers : List ℕ) (at : ℕ) (t : State) (mid : Option History) : Type 0 where
  pub carried : Carried s t old mid
  pub onward : (result : Result Reply AgentFault) (u : State) (new : Option History)
      → AreRun (lines_from at text) answers t result u mid new → AreRun (parts_at 10 text) [] s result u old new

pub ran_none : (text : List ℕ) (s : State) (now : Option History) → RanTo text s now [] 0 s now
ran_none text s now = record {
  carried = carried_none s now;
  onward = λ result u new run.
      subst (λ (ls : List (List ℕ)). AreRun ls [] s result u now new) (from_here 0 text (omega arith)) run;
}

module _ (text : List ℕ) (s : State) (old : Option History) (answers : List ℕ) (at : ℕ) (t : State) (mid : Option History)
    (ran : RanTo text s old answers at t mid) where
  pub ran_all : length text < at → AreRun (parts_at 10 text) [] s (Ok (reply_of answers Go)) t old mid
  ran_all past =
      ran.onward (Ok (reply_of answers Go)) t mid
      (subst (λ (ls : List (List ℕ)). AreRun ls answers t (Ok (reply_of answers Go)) t mid mid) (sym (none_behind at text past)) all_run)

  module _ (line : List ℕ) (is : lines_from at text ≡ line ∷ lines_from (at + length line + 1) text) (u : State) (new : Option History) where
    one : (result : Result Reply AgentFault) (v : State) (later : Option History)
        → AreRun (line ∷ lines_from (at + length line + 1) text) answers t result v mid later
        → AreRun (parts_at 10 text) [] s result v old later
    one result v later run =
        ran.onward result v later (subst (λ (ls : List (List ℕ)). AreRun ls answers t result v mid later) (sym is) run)

    pub refused_one : (fault : AgentFault) → IsCommand line t (Err fault) u mid new
        → AreRun (parts_at 10 text) [] s (Err fault) u old new
    refused_one fault did = one (Err fault) u new (refused fault did)

    pub unkept_one : (reply : Reply) → IsCommand line t (Ok reply) u mid new
        → AreRun (parts_at 10 text) [] s (Err NoMemory) u old new
    unkept_one reply did = one (Err NoMemory) u new (unkept reply did)

    pub ended_one : (reply : Reply) (all : List ℕ) → IsCommand line t (Ok reply) u mid new → reply.then ≢ Go → all ≡ answers ++ reply.text
        → AreRun (parts_at 10 text) [] s (Ok (reply_of all reply.then)) u old new
    ended_one reply all did other all_is =
        subst (λ (a : List ℕ). AreRun (parts_at 10 text) [] s (Ok (reply_of a reply.then)) u old new) (sym all_is)
        (one (Ok (reply_of (answers ++ reply.text) reply.then)) u new (ended reply did other))

    pub ran_one : (reply : Reply) (all : List ℕ) (next : ℕ) → IsCommand line t (Ok reply) u mid new → reply.then ≡ Go → all ≡ answers ++ reply.text
        → next ≡ at + length line + 1 → Carried s u old new → RanTo text s old all next u new
    ran_one reply all next did goes all_is next_is carried =
        subst (λ (k : ℕ). RanTo text s old all k u new) (sym next_is) (record {
          carried = carried;
          onward = λ result v later run.
              one result v later
              (on reply did goes
              (subst (λ (a : List ℕ). AreRun (lines_from (at + length line + 1) text) a u result v new later) all_is run));
        })
