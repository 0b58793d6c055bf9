-- What a run does with a writer's buffers, call by call.
use Rattle.std.specs.Prelude.{◌≡◌, ℕ, false, List, [], ◌∷◌, ◌++◌, Option, Some, None, Result, Ok, Err}
use Rattle.chk_site.specs.declared.acts.Call.TheVariants.{Take, Say}
use Rattle.chk_site.specs.declared.acts.CallFault.{CallFault}
use Rattle.chk_site.specs.declared.acts.OutsideFault.{OutsideFault}
use Rattle.chk_site.specs.declared.acts.Who.{Who}
use Rattle.chk_site.specs.declared.suffixes.Taking.{Taking}
use Rattle.chk_site.specs.History.{Step, History, Modelled, Others, is_by}
use Rattle.chk_udp_laws.specs.Histories.{LeavesFiles, IsApart, SameSteps}
use Rattle.chk_site.specs.Site.{Adds, asked, answered, taking_given, CallsSome}
use Rattle.chk_site.specs.Runs.{MadeInTurn}
use Rattle.chk_wahead.specs.declared.fault.WaheadFault.{WaheadFault}
use Rattle.chk_wahead.specs.Names.{writer}
use Rattle.chk_wahead.specs.Scripts.{Did, Puts, commit_of, close_of}
use Rattle.chk_wahead.specs.States.{State, all_marked}
use Rattle.chk_wahead.specs.Telling.{Starts}
use Rattle.chk_cmd_udp.specs.Takings.{Waits}

-- From these buffers on: datagrams are taken and put, what was put is committed, buffers are
-- closed, and lines are printed, in
-- any order and number, up to these buffers, or to none behind a call that failed.
pub data Goes (who : Who) : State → Option State → Option History → Option History → Type 0 where
  ends : {s : State} {now : Option History} → Goes who s (Some s) now now
  gives_up : {s : State} {now : Option History} → Goes who s None now now
  untaken : {s : State} {old new : Option History} (door : List ℕ) (wait : ℕ) (fault : CallFault)
      → Waits who door wait (Err fault) old new
      → Goes who s None old new
  silent : {s : State} {end : Option State} {old mid new : Option History} (door : List ℕ)
      (wait : ℕ) → Waits who door wait (Ok None) old mid
      → Goes who s end mid new → Goes who s end old new
  unput : {s : State} {old mid new : Option History} (u : State) (door : List ℕ) (wait : ℕ)
      (taking : Taking) (fault : WaheadFault)
      → Waits who door wait (Ok (Some taking)) old mid → Puts s taking.bytes (Err fault) u mid new
      → Goes who s None old new
  put : {s u : State} {end : Option State} {old mid late new : Option History} (door : List ℕ)
      (wait : ℕ) (taking : Taking)
      → Waits who door wait (Ok (Some taking)) old mid → Puts s taking.bytes (Ok tt) u mid late
      → Goes who u end late new
      → Goes who s end old new
  uncommitted : {s u : State} {old new : Option History} (fault : WaheadFault)
      → Did (commit_of who s.held) s s.number (all_marked s.held) (Err fault) u old new
      → Goes who s None old new
  committed : {s u : State} {end : Option State} {old mid new : Option History}
      → Did (commit_of who s.held) s s.number (all_marked s.held) (Ok tt) u old mid
      → Goes who u end mid new → Goes who s end old new
  unclosed : {s u : State} {old new : Option History} (fault : WaheadFault)
      → Did (close_of who s.number s.held) s s.number None (Err fault) u old new
      → Goes who s None old new
  closed : {s u : State} {end : Option State} {old mid new : Option History}
      → Did (close_of who s.number s.held) s s.number None (Ok tt) u old mid
      → Goes who u end mid new → Goes who s end old new
  untold : {s : State} {old new : Option History} (teller : Who) (line : List ℕ)
      (fault : OutsideFault)
      → MadeInTurn (asked teller Say (line ∷ []) 0 0 ∷ []) (Err fault) old new
      → Goes who s None old new
  told : {s : State} {end : Option State} {old mid new : Option History} (teller : Who)
      (line : List ℕ)
      → MadeInTurn (asked teller Say (line ∷ []) 0 0 ∷ []) (Ok tt) old mid → Goes who s end mid new
      → Goes who s end old new

-- a run: it starts, and goes on where it has started
pub data IsRun (who : Who) : Option State → Option History → Option History → Type 0 where
  unstarted : {old new : Option History} (fault : WaheadFault) → Starts who (Err fault) old new
      → IsRun who None old new
  started : {s : State} {end : Option State} {old mid new : Option History}
      → Starts who (Ok s) old mid → Goes who s end mid new
      → IsRun who end old new

-- The steps by the writer are runs, with steps of others before, between, beside and behind them.
-- Those leave the writer's files
-- alone, but that a stop may leave tails of them; where one does, the writer's next step is a
-- start. A run may end anywhere. Behind
-- it another site may tell the same steps, as the one that runs the next one.
pub data AreRuns (n : List ℕ) : History → Type 0 where
  none : AreRuns n []
  beside : {step : Step} {history : History} → AreRuns n history → Modelled history step
      → is_by (writer n) step ≡ false → LeavesFiles n step
      → AreRuns n (step ∷ history)
  ran : {history : History} (end : Option State) (added : History) → AreRuns n history
      → IsRun (writer n) end (Some history) (Some (added ++ history))
      → Others (IsApart n) added history → AreRuns n (added ++ history)
  retold : {history same : History} → AreRuns n history → SameSteps history same → AreRuns n same
