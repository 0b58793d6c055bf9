-- Which streams of a book the agents of a folder have, and where their logs begin.
use Rattle.std.specs.Prelude.{◌≡◌, ◌⊎◌, ℕ, ◌-◌, ◌<◌, take, drop, List, [], ◌∷◌, ◌++◌, find, Option, Some, None}
use Rattle.std.specs.Prelude.{Result, Ok, Err}
use Rattle.chk_site.specs.declared.acts.OutsideFault.{OutsideFault}
use Rattle.chk_site.specs.declared.acts.Role.TheVariants.{Job}
use Rattle.chk_site.specs.declared.acts.Who.{Who}
use Rattle.chk_site.specs.Effect.{IsSmallFile}
use Rattle.chk_site.specs.Files.{File}
use Rattle.chk_site.specs.History.{History, Every}
use Rattle.chk_site.specs.Runs.{anyhow, Leads}
use Rattle.chk_site.specs.Site.{Adds}
use Rattle.chk_replace.specs.Load.{Has, IsLook}
use Rattle.chk_replace.specs.Replace.{LeavesFile}
use Rattle.chk_world.specs.Checkpoints.{Line, is_line_of}
use Rattle.chk_world.specs.JobSteps.{IsOf}
use Rattle.chk_world.specs.Sight.{job}
use Rattle.chk_world.proofs.Each.{Each}
use Rattle.chk_checkpoint.specs.declared.Checkpoint.{Checkpoint}
use Rattle.chk_checkpoint.specs.declared.fault.CheckFault.{CheckFault}
use Rattle.chk_checkpoint.specs.declared.CheckLine.{CheckLine}
use Rattle.chk_checkpoint.specs.Lines.{lines_of, shown}
use Rattle.std.specs.Borrow.{Bor}
use Rattle.chk_checkpoint.specs.Loads.{LoadedLines}
use Rattle.chk_record_index.specs.declared.fault.JobFault.{JobFault}
use Rattle.chk_record_index.specs.declared.fault.JobFault.TheVariants.{NoMemory as no_memory}
use Rattle.chk_record_index.specs.Faults.{job_fault}
use Rattle.chk_book.specs.declared.lists.End.{End}
use Rattle.chk_book.specs.Views.{end_view}
use Rattle.chk_ctl_passed.specs.Agents.{IsFaultIn}
use Rattle.chk_ctl_passed.specs.Passing.{check_name}
use Rattle.chk_ctl_audit_log.specs.Placing.{FoundBegin, ReadsLogOf}
use Rattle.chk_ctl_sum.specs.declared.rests.Rest.{Rest}

-- the agent of a source
abbrev pub agent : List ℕ → Who
agent source = record { role = Job; name = source }

-- the line of a stream
abbrev pub line_for : List Line → End → Option Line
line_for lines e = find (is_line_of (end_view e).stream) lines

-- a line that is lent
abbrev pub lent_line : Option (Bor CheckLine) → Option Line
lent_line None = None
lent_line (Some line) = Some (shown line.now)

-- where the log of a line begins that is there, as its generations were looked at
pub record FindsAt (l : Line) (result : Result ℕ OutsideFault) (old new : Option History) : Type 0
  where
    pub found : FoundBegin job l.path l.after l.first result old new
    pub own : Adds old new (Every (IsOf (ReadsLogOf l.path)))

-- of a stream of which the lines have none, nothing is looked at
abbrev pub FindsOne : Option Line → Result (Option ℕ) OutsideFault → Option History
    → Option History → Type 0
FindsOne None result old new = (new ≡ old) × (result ≡ Ok None)
FindsOne (Some l) (Ok None) old new = ⊥
FindsOne (Some l) (Ok (Some begin)) old new = FindsAt l (Ok begin) old new
FindsOne (Some l) (Err fault) old new = FindsAt l (Err fault) old new

-- one more stream stands behind the others
pub record HasMore (found : List Rest) (e : End) (begin : ℕ) (next : List Rest) : Type 0 where
  pub rest : Rest
  pub end : rest.end.now ≡ e
  pub begins : rest.begin ≡ begin
  pub is : next ≡ found ++ rest ∷ []

-- One stream is looked for: it stands behind those found so far, with the offset at which its log
-- begins; or the lines have none of it; or the look was refused.
pub data FindsLine (lines : List Line) (e : End) (found : List Rest) : Result (Unit {0}) JobFault
    → List Rest → Option History → Option History → Type 0 where
  left_out : {old new : Option History} → FindsOne (line_for lines e) (Ok None) old new
      → FindsLine lines e found (Ok tt) found old new
  found_at : {next : List Rest} {old new : Option History} (begin : ℕ)
      → FindsOne (line_for lines e) (Ok (Some begin)) old new → HasMore found e begin next
      → FindsLine lines e found (Ok tt) next old new
  no_room : {next : List Rest} {old new : Option History} (begin : ℕ)
      → FindsOne (line_for lines e) (Ok (Some begin)) old new
      → FindsLine lines e found (Err no_memory) next old new
  failed : {next : List Rest} {old new : Option History} (fault : OutsideFault)
      → FindsOne (line_for lines e) (Err fault) old new
      → FindsLine lines e found (Err (job_fault fault)) next old new

-- The streams of these ends in turn, up to a refusal; `last` is what was found at the end.
pub data FindsLines (lines : List Line) (result : Result (Unit {0}) JobFault) (last : List Rest)
    : List End → List Rest → Option History → Option History → Type 0 where
  all_found : {found : List Rest} {now : Option History} → result ≡ Ok tt → last ≡ found
      → FindsLines lines result last [] found now now
  goes_on : {e : End} {ends : List End} {found next : List Rest} {old mid new : Option History}
      → FindsLine lines e found (Ok tt) next old mid
      → FindsLines lines result last ends next mid new
      → FindsLines lines result last (e ∷ ends) found old new
  stops : {e : End} {ends : List End} {found : List Rest} {old new : Option History}
      {fault : JobFault} → FindsLine lines e found (Err fault) last old new
      → result ≡ Err fault → FindsLines lines result last (e ∷ ends) found old new

-- what follows the read of the checkpoint
abbrev pub FindsBy : Who → Result Checkpoint CheckFault → Result (Unit {0}) JobFault
    → List End → List Rest → List Rest → Option History → Option History → Type 0
FindsBy who (Ok check) result ends found last old new =
    FindsLines (lines_of check) result last ends found old new
FindsBy who (Err fault) result ends found last old new =
    (new ≡ old) × ((told : JobFault) × IsFaultIn (check_name who) fault told
    × (result ≡ Err told))

-- the agent's checkpoint is read whole, and then each stream is looked for in its lines
pub record FindsAgent (who : Who) (result : Result (Unit {0}) JobFault) (ends : List End)
    (found last : List Rest) (old new : Option History) : Type 0 where
  pub given : Result Checkpoint CheckFault
  pub middle : Option History
  pub loaded : (file : Option File) → IsSmallFile file → Adds old middle
      (Leads (anyhow (LeavesFile (check_name who))) (Has (check_name who) file)
      (LoadedLines (check_name who) file given))
  pub reads : Adds old middle (Every (IsLook who (check_name who)))
  pub followed : FindsBy who given result ends found last middle new

-- so it is by the agent of a source; or there was no memory
abbrev pub FindsFrom : List ℕ → Result (Unit {0}) JobFault → List End → List Rest → List Rest
    → Option History → Option History → Type 0
FindsFrom source result ends found last old new =
    FindsAgent (agent source) result ends found last old new
    ⊎ ((new ≡ old) × (result ≡ Err no_memory))

-- the end is of a stream of this source
abbrev pub IsFrom : List ℕ → End → Type 0
IsFrom source e = e.source ≡ source

-- the source of the first stream
abbrev pub source_of : List End → List ℕ
source_of [] = []
source_of (e ∷ ends) = e.source

-- all are of one source
abbrev pub AreOfOne : List End → Type 0
AreOfOne ends = Each (IsFrom (source_of ends)) ends

-- those from one place up to another
abbrev pub between : ℕ → ℕ → List End → List End
between at past ends = take (past - at) (drop at ends)

-- so it is for those of one source, which stand from a place up to a later one
pub record FindsBetween (at past : ℕ) (result : Result (Unit {0}) JobFault) (ends : List End)
    (found last : List Rest) (old new : Option History) : Type 0 where
  pub further : at < past
  pub one : AreOfOne (between at past ends)
  pub from : FindsFrom (source_of (between at past ends)) result (between at past ends) found last
      old new

abbrev pub FindsNext : ℕ → Result ℕ JobFault → List End → List Rest → List Rest
    → Option History → Option History → Type 0
FindsNext at (Ok past) ends found last old new =
    FindsBetween at past (Ok tt) ends found last old new
FindsNext at (Err fault) ends found last old new =
    (past : ℕ) × FindsBetween at past (Err fault) ends found last old new

-- The ends are those of streams of one source, and then others; each source has its turn, up to a
-- refusal. `last` is what was found at the end.
pub data FindsEach (result : Result (Unit {0}) JobFault) (last : List Rest) : List End → List Rest
    → Option History → Option History → Type 0 where
  over : {found : List Rest} {now : Option History} → result ≡ Ok tt → last ≡ found
      → FindsEach result last [] found now now
  more : {all : List End} {found next : List Rest} {old mid new : Option History}
      (these ends : List End) → all ≡ these ++ ends → AreOfOne these
      → FindsFrom (source_of these) (Ok tt) these found next old mid
      → FindsEach result last ends next mid new → FindsEach result last all found old new
  ended : {all : List End} {found : List Rest} {old new : Option History}
      (these ends : List End) (fault : JobFault) → all ≡ these ++ ends → AreOfOne these
      → FindsFrom (source_of these) (Err fault) these found last old new → result ≡ Err fault
      → FindsEach result last all found old new
