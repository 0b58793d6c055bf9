-- The lines of a text, and how an agent runs them.
use Rattle.std.specs.Prelude.{◌≡◌, ◌≢◌, ℕ, nat_le, List, [], ◌∷◌, ◌++◌, length, drop, if◌then◌else◌, Option, Result, Ok, Err}
use Rattle.chk_bytes.specs.Words.{parts_at}
use Rattle.chk_site.specs.History.{History}
use Rattle.chk_agent.specs.declared.answers.AgentFault.{AgentFault}
use Rattle.chk_agent.specs.declared.answers.AgentFault.TheVariants.{NoMemory}
use Rattle.chk_agent.specs.declared.answers.Reply.{Reply}
use Rattle.chk_agent.specs.declared.answers.Then.TheVariants.{Go}
use Rattle.chk_agent.specs.States.{State}
use Rattle.chk_agent.specs.Replies.{reply_of}
use Rattle.chk_agent.specs.Commands.{IsCommand}

-- the lines from a place on; none behind the last one
abbrev pub lines_from : ℕ → List ℕ → List (List ℕ)
lines_from at text = if nat_le at (length text) then parts_at 10 (drop at text) else []

-- The lines are run in order, up to one behind which no other is run, or to a fault; the reply is all texts so far.
pub data AreRun : List (List ℕ) → List ℕ → State → Result Reply AgentFault → State → Option History → Option History → Type 0 where
  all_run : {so_far : List ℕ} {s : State} {now : Option History} → AreRun [] so_far s (Ok (reply_of so_far Go)) s now now
  on : {line so_far : List ℕ} {lines : List (List ℕ)} {s t u : State} {result : Result Reply AgentFault} {old mid new : Option History}
      (reply : Reply) → IsCommand line s (Ok reply) t old mid → reply.then ≡ Go
      → AreRun lines (so_far ++ reply.text) t result u mid new → AreRun (line ∷ lines) so_far s result u old new
  ended : {line so_far : List ℕ} {lines : List (List ℕ)} {s t : State} {old new : Option History} (reply : Reply)
      → IsCommand line s (Ok reply) t old new → reply.then ≢ Go
      → AreRun (line ∷ lines) so_far s (Ok (reply_of (so_far ++ reply.text) reply.then)) t old new
  refused : {line so_far : List ℕ} {lines : List (List ℕ)} {s t : State} {old new : Option History} (fault : AgentFault)
      → IsCommand line s (Err fault) t old new → AreRun (line ∷ lines) so_far s (Err fault) t old new
  unkept : {line so_far : List ℕ} {lines : List (List ℕ)} {s t : State} {old new : Option History} (reply : Reply)
      → IsCommand line s (Ok reply) t old new → AreRun (line ∷ lines) so_far s (Err NoMemory) t old new
