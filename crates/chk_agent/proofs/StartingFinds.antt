-- What a start calls, and what it finds in its checkpoint.
use Rattle.std.proofs.Common.{◌≡◌, ℕ, List, ◌++◌, Option, Some, None, Result, Ok, Err}
use Rattle.std.proofs.Common.{sym, subst, ◌∙◌, refl}
use Rattle.chk_site.specs.declared.acts.Who.{Who}
use Rattle.chk_site.specs.declared.acts.OutsideFault.{OutsideFault}
use Rattle.chk_site.specs.declared.acts.OutsideFault.TheVariants as outsides
use Rattle.chk_site.specs.declared.acts.ActAnswer.{ActAnswer}
use Rattle.chk_site.specs.declared.acts.ActAnswer.TheVariants as answers
use Rattle.chk_site.specs.Acts.{tail_in}
use Rattle.chk_site.specs.Effect.{IsSmallFile}
use Rattle.chk_site.specs.Files.{File}
use Rattle.chk_site.specs.History.{History, Every}
use Rattle.chk_site.specs.Site.{Adds, WasDone}
use Rattle.chk_site.specs.Runs.{Leads, anyhow}
use Rattle.chk_site.proofs.Leads.{done_leads, leads_then, leads_as, owned_anyhow}
use Rattle.chk_site.proofs.Runs.{adds_as}
use Rattle.chk_site.proofs.Stays.{unnamed_stays}
use Rattle.chk_replace.specs.Replace.{LeavesFile}
use Rattle.chk_replace.specs.Load.{Has, IsLook, bytes_of}
use Rattle.chk_checkpoint.specs.declared.Checkpoint.{Checkpoint}
use Rattle.chk_checkpoint.specs.declared.fault.CheckFault.{CheckFault}
use Rattle.chk_checkpoint.specs.declared.fault.CheckFault.TheVariants as checks
use Rattle.chk_checkpoint.specs.Faults.{FailsLast as CheckFailsLast}
use Rattle.chk_checkpoint.specs.Lines.{lines_of}
use Rattle.chk_checkpoint.specs.Loads.{IsReadingOf, LoadedLines}
use Rattle.chk_world.specs.Checkpoints.{Line}
use Rattle.chk_agent.specs.declared.answers.AgentFault.{AgentFault}
use Rattle.chk_agent.specs.declared.answers.AgentFault.TheVariants.{Damaged, Outside, NoMemory}
use Rattle.chk_agent.specs.Faults.{FailsLast, fault_of}
use Rattle.chk_agent.specs.Starts.{BeganSo, StartsAndReads, own_check, AreLinesIn, IsBadAt, Finds}
use Rattle.chk_agent.specs.Starts.{FindsCheckpoint}
use Rattle.chk_agent.proofs.StartingTold.{load_result}

-- ---- which calls

load_last : (r : Result Checkpoint CheckFault) (added history : History)
    → CheckFailsLast r added history → FailsLast (load_result r) added history
load_last (Ok check) added history fails = tt
load_last (Err (checks.Damaged at)) added history fails = tt
load_last (Err (checks.Outside call)) added history fails = fails
load_last (Err checks.NoMemory) added history fails = tt

pub starts_loads : (who : Who) (u : Unit {0}) (r : Result Checkpoint CheckFault)
    {old mid new : Option History} → BeganSo who (Ok u) old mid
    → Adds mid new (Every (IsLook who (own_check who))) → Adds mid new (CheckFailsLast r)
    → StartsAndReads who (load_result r) old new
starts_loads who u r start looks last =
    StartsAndReads.started start looks (adds_as (FailsLast (load_result r)) last (load_last r))

-- the result names no call that failed
abbrev pub NamesNone : {T : Type 0} → Result T AgentFault → Type 0
NamesNone (Err (Outside call)) = ⊥
NamesNone result = Unit {0}

none_last : {T : Type 0} (r : Result T AgentFault) → NamesNone r → (added history : History)
    → FailsLast r added history
none_last (Ok value) none added history = tt
none_last (Err (Damaged at)) none added history = tt
none_last (Err (Outside call)) none added history = absurd none
none_last (Err NoMemory) none added history = tt

-- what follows the load calls nothing
pub starts_on : {T U : Type 0} (who : Who) (r : Result T AgentFault) (value : T)
    (q : Result U AgentFault) {old new : Option History}
    → StartsAndReads who r old new → r ≡ Ok value → NamesNone q → StartsAndReads who q old new
starts_on who r value q (StartsAndReads.unstarted fault start) is none = absurd (cc)
starts_on who r value q (StartsAndReads.started start looks last) is none =
    StartsAndReads.started start looks
    (adds_as (FailsLast q) looks (λ added history x. none_last q none added history))

same_last : (T U : Type 0) (fault : AgentFault) (added history : History)
    → FailsLast {T = T} (Err fault) added history → FailsLast {T = U} (Err fault) added history
same_last T U (Damaged at) added history fails = tt
same_last T U (Outside call) added history fails = fails
same_last T U NoMemory added history fails = tt

-- the same refusal of another kind of result
pub starts_refused : {T U : Type 0} (who : Who) (r : Result T AgentFault) (fault : AgentFault)
    {old new : Option History} → StartsAndReads who r old new → r ≡ Err fault
    → StartsAndReads {T = U} who (Err fault) old new
starts_refused {U = U} who r fault {old = old} {new = new}
    (StartsAndReads.unstarted given start) is =
    let same : fault_of given ≡ fault = cc in
    subst (λ (f : AgentFault). StartsAndReads {T = U} who (Err f) old new) same
    (StartsAndReads.unstarted given start)
starts_refused {T = T} {U = U} who r fault {new = new}
    (StartsAndReads.started {mid = mid} start looks last) is =
    StartsAndReads.started start looks
    (adds_as (FailsLast {T = U} (Err fault))
    (subst (λ (q : Result T AgentFault). Adds mid new (FailsLast q)) is last)
    (same_last T U fault))

-- ---- what it finds

lines_in : (text : Option (List ℕ)) (check : Checkpoint) → IsReadingOf text (Ok check)
    → AreLinesIn text (lines_of check)
lines_in None check reading = reading
lines_in (Some text) check reading = reading

bad_at : (text : Option (List ℕ)) (at : ℕ) → IsReadingOf text (Err (checks.Damaged at))
    → IsBadAt text at
bad_at None at reading = absurd reading
bad_at (Some text) at reading = reading

module _ (who : Who) where
  abbrev N : List ℕ
  N = own_check who

  no_tail : (answer : ActAnswer) → WasDone answer → tail_in answer N ≡ None
  no_tail (answers.Done words number of) done = refl
  no_tail (answers.Refused fault) done = refl
  no_tail (answers.Stopped left) done = absurd done
  no_tail (answers.Rotated suffix) done = refl
  no_tail (answers.Deleted suffix) done = refl

  -- a start leaves the file
  start_leaves : (u : Unit {0}) (file : Option File) {old mid : Option History}
      → BeganSo who (Ok u) old mid
      → Adds old mid (Leads (anyhow (LeavesFile N)) (Has N file) (Has N file))
  start_leaves u file m =
      done_leads m.given (λ before answer files logs running. tt) m.came
      (λ before step theirs leaves has.
      unnamed_stays before step N theirs.1 leaves.untouched leaves.no_tail ∙ has)
      (λ answer done before files logs running honest has.
      unnamed_stays before _ N honest.modelled refl (no_tail answer done) ∙ has)
      m.told

  load_finds : (r : Result Checkpoint CheckFault) (file : Option File) (h : History)
      → LoadedLines N file r h → Finds (λ check. lines_of check) N file (load_result r) h
  load_finds (Ok check) file h x = (x.0, lines_in (bytes_of file) check x.1)
  load_finds (Err (checks.Damaged at)) file h x = (x.0, bad_at (bytes_of file) at x.1)
  load_finds (Err (checks.Outside call)) file h x = tt
  load_finds (Err checks.NoMemory) file h x = tt

  pub loaded_finds : (u : Unit {0}) (r : Result Checkpoint CheckFault)
      {old mid new : Option History} → BeganSo who (Ok u) old mid
      → ((file : Option File) → IsSmallFile file → Adds mid new
      (Leads (anyhow (LeavesFile N)) (Has N file) (LoadedLines N file r)))
      → FindsCheckpoint (λ check. lines_of check) who (load_result r) old new
  loaded_finds u r start whole file small =
      leads_then (start_leaves u file start)
      (leads_as (λ h x. x) (load_finds r file) (whole file small))

  none_found : {T : Type 0} (lines : T → List Line) (fault : OutsideFault) (file : Option File)
      (h : History) → Finds lines N file (Err (fault_of fault)) h
  none_found lines (outsides.Outside call) file h = tt
  none_found lines outsides.NoMemory file h = tt

  -- nothing is said behind a refused start
  pub unstarted_finds : {T : Type 0} (lines : T → List Line) (fault : OutsideFault)
      {old new : Option History} → BeganSo who (Err fault) old new
      → FindsCheckpoint lines who (Err (fault_of fault)) old new
  unstarted_finds lines fault m file small =
      adds_as
      (Leads (anyhow (LeavesFile N)) (Has N file) (Finds lines N file (Err (fault_of fault))))
      m.told
      (λ added history x. record {
        leads = λ s h. none_found lines fault file (added ++ history);
        own = owned_anyhow added history;
      })

  -- ---- the same of another kind of result

  module _ {T U : Type 0} (lines : T → List Line) (names : U → List Line) where
    pub finds_value : (value : T) (other : U) → names other ≡ lines value
        → {old new : Option History} → FindsCheckpoint lines who (Ok value) old new
        → FindsCheckpoint names who (Ok other) old new
    finds_value value other same found file small =
        leads_as (λ h x. x) (λ h x. (x.0, subst (AreLinesIn (bytes_of file)) (sym same) x.1))
        (found file small)

    fault_found : (fault : AgentFault) (file : Option File) (h : History)
        → Finds lines N file (Err fault) h → Finds names N file (Err fault) h
    fault_found (Damaged at) file h x = x
    fault_found (Outside call) file h x = x
    fault_found NoMemory file h x = x

    pub finds_fault : (fault : AgentFault) {old new : Option History}
        → FindsCheckpoint lines who (Err fault) old new
        → FindsCheckpoint names who (Err fault) old new
    finds_fault fault found file small =
        leads_as (λ h x. x) (fault_found fault file) (found file small)

    -- there was no memory for the agent
    pub finds_none : (value : T) {old new : Option History}
        → FindsCheckpoint lines who (Ok value) old new
        → FindsCheckpoint names who (Err NoMemory) old new
    finds_none value found file small = leads_as (λ h x. x) (λ h x. tt) (found file small)
