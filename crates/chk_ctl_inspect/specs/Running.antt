-- A command of `chk_ctl_run` runs in a folder.
use Rattle.std.specs.Prelude.{◌≡◌, ℕ, true, false, List, [], ◌∷◌, codes, Option, Some, None}
use Rattle.chk_site.specs.History.{History, Every}
use Rattle.chk_site.specs.Site.{Adds}
use Rattle.chk_ctl_line.specs.Asked.{asked}
use Rattle.chk_ctl_line.specs.Commands.{Asked, AuditAsked}
use Rattle.chk_ctl_run.specs.declared.outcome.Outcome.{Outcome}
use Rattle.chk_ctl_run.specs.Calls.{CauseOfRun, IsOfRun}
use Rattle.chk_ctl_run.specs.Outcomes.{outcome_status}
use Rattle.chk_ctl_run.specs.Runs.{Ran}
use Rattle.chk_ctl_machine.specs.declared.extent.LongInspection.{LongInspection}
use Rattle.chk_ctl_machine.specs.Deeds.{after, ended, Enters, NamesPath, Stands, Told}
use Rattle.chk_ctl_machine.specs.Lending.{Lent}
use Rattle.chk_ctl_inspect.specs.Commands.{audit_in, folder_of, long_of}

-- what the run did: what it showed, its calls, and the cause of a failure
pub record RanBy (words : List (List ℕ)) (outcome : Outcome) (from : Option History) (before : ℕ)
    (to : Option History) (now : ℕ) : Type 0 where
  pub ran : Ran words outcome from to
  pub own : Adds from to (Every (IsOfRun (asked words)))
  pub cause : CauseOfRun (asked words) before now outcome

-- in the current folder; its outcome is reported, and gives the status
pub record RunsHere (words : List (List ℕ)) (long : Option LongInspection) (status : ℕ)
    (old new : Told) : Type 0 where
  pub outcome : Outcome
  pub back : Told
  pub lent : Lent long (RanBy words outcome) old back
  pub told : new ≡ ended outcome back
  pub is : status ≡ outcome_status outcome

-- in the folder of this name, if that can be entered
pub data RunsIn (folder : List ℕ) (words : List (List ℕ)) (long : Option LongInspection) : ℕ → Told
    → Told → Type 0 where
  unentered : {old new : Told} → new ≡ after (Enters folder false) old
      → RunsIn folder words long 3 old new
  entered : {status : ℕ} {old mid new : Told} → mid ≡ after (Enters folder true) old
      → RunsHere words long status mid new → RunsIn folder words long status old new

-- the words of `audit` once it runs in the folder of the agents
abbrev pub audit_words : List ℕ → List (List ℕ)
audit_words path =
    codes "audit" ∷ codes "--agent" ∷ codes "." ∷ codes "--store" ∷ path ∷ []

-- `audit` runs in the folder of the agents, and names the store by its whole path
pub data Audits (agent store : List ℕ) : ℕ → Told → Told → Type 0 where
  unfound : {old new : Told} → new ≡ after (Stands false) old → Audits agent store 3 old new
  unnamed : {old mid new : Told} → mid ≡ after (Stands true) old
      → new ≡ after (NamesPath store None) mid → Audits agent store 4 old new
  audited : {path : List ℕ} {status : ℕ} {old mid next new : Told}
      → mid ≡ after (Stands true) old → next ≡ after (NamesPath store (Some path)) mid
      → RunsIn agent (audit_words path) None status next new → Audits agent store status old new

-- each other command runs in the folder that it names, or where the user stands
abbrev pub RunsWhere : Option (List ℕ) → List (List ℕ) → Option LongInspection → ℕ → Told → Told
    → Type 0
RunsWhere None words long status old new = RunsHere words long status old new
RunsWhere (Some folder) words long status old new = RunsIn folder words long status old new

abbrev pub RunsAs : Option AuditAsked → Option (List ℕ) → List (List ℕ) → Option LongInspection
    → ℕ → Told → Told → Type 0
RunsAs (Some w) folder words long status old new = Audits w.agent w.store status old new
RunsAs None folder words long status old new = RunsWhere folder words long status old new

abbrev pub RunsAsked : Asked → List (List ℕ) → ℕ → Told → Told → Type 0
RunsAsked command words status old new =
    RunsAs (audit_in command) (folder_of command) words (long_of command words) status old new
