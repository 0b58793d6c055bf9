-- How the logs of a round are added.
use Rattle.std.specs.Prelude.{ℕ, List, [], ◌∷◌, Option, Result, Ok, Err}
use Rattle.chk_control.specs.declared.Class.{Class}
use Rattle.chk_site.specs.History.{History}
use Rattle.chk_agent.specs.declared.answers.Added.{Added}
use Rattle.chk_agent.specs.declared.answers.AgentFault.{AgentFault}
use Rattle.chk_agent.specs.Adds.{IsAdded}
use Rattle.chk_agent.specs.States.{State}
use Rattle.chk_round.specs.declared.faults.RoundFault.{RoundFault}
use Rattle.chk_round.specs.Faults.{of_agent}

-- Each of these logs is added in order, up to one that was refused.
pub data AddsLogs (class : Class) (kind : List ℕ)
    : List (List ℕ) → State → Result (Unit {0}) RoundFault → State → Option History → Option History → Type 0 where
  all : {s : State} {now : Option History} → AddsLogs class kind [] s (Ok tt) s now now
  one : {path : List ℕ} {logs : List (List ℕ)} {s t u : State} {result : Result (Unit {0}) RoundFault}
      {old mid new : Option History} (added : Added)
      → IsAdded class kind path s (Ok added) t old mid → AddsLogs class kind logs t result u mid new
      → AddsLogs class kind (path ∷ logs) s result u old new
  refused : {path : List ℕ} {logs : List (List ℕ)} {s t : State} {old new : Option History} (fault : AgentFault)
      → IsAdded class kind path s (Err fault) t old new
      → AddsLogs class kind (path ∷ logs) s (Err (of_agent fault)) t old new
