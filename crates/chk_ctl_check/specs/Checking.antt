-- What a check of an initial file and of collectors shows.
use Rattle.std.specs.Prelude.{◌≡◌, ℕ, ◌≤◌, Bool, false, List, [], Option, Some, None}
use Rattle.std.specs.Prelude.{Result, Ok, Err}
use Rattle.chk_bytes.specs.Words.{parts_at}
use Rattle.chk_cmd_output.specs.Printing.{PrintsInTurn}
use Rattle.chk_replace.specs.Load.{ReadInTurn}
use Rattle.chk_site.specs.declared.acts.OutsideFault.{OutsideFault}
use Rattle.chk_site.specs.declared.acts.OutsideFault.TheVariants.{Outside, NoMemory as no_memory}
use Rattle.chk_site.specs.Acts.{Deed}
use Rattle.chk_site.specs.History.{Every, History}
use Rattle.chk_site.specs.Site.{Adds, Rose}
use Rattle.chk_world.specs.JobSteps.{IsOf, ReadsFile}
use Rattle.chk_world.specs.Sight.{job}
use Rattle.chk_ctl_check.specs.declared.checking.Checked.{Checked}
use Rattle.chk_ctl_check.specs.declared.checking.Checked.TheVariants.{NoFile, Fine, Found}
use Rattle.chk_ctl_check.specs.declared.finding.Finding.{Finding}
use Rattle.chk_ctl_check.specs.Collectors.{CollectorsChecked, SendsOrSays}
use Rattle.chk_ctl_check.specs.Lines.{finding_lines}
use Rattle.chk_ctl_check.specs.Looking.{AsksOfLogs, LinesSeen}

-- the calls: reads of a file, lists of folders, reads of logs, messages without a byte, prints
pub data ChecksBy : Deed → Type 0 where
  reads_file : (call : Deed) → ReadsFile call → ChecksBy call
  asks_of_logs : (call : Deed) → AsksOfLogs call → ChecksBy call
  sends_or_says : (call : Deed) → SendsOrSays call → ChecksBy call

-- something was found in the file, or a collector is silent
abbrev pub found_by : List Finding → Bool → Checked
found_by [] false = Fine
found_by findings silent = Found

abbrev pub checked_by : List Finding → Result Bool OutsideFault → Result Checked OutsideFault
checked_by findings (Ok silent) = Ok (found_by findings silent)
checked_by findings (Err fault) = Err fault

-- the collectors are asked; behind what was found that decides the answer
pub record CollectorsAsked (findings : List Finding) (collectors : List (List ℕ))
    (result : Result Checked OutsideFault) (before after : Option History) : Type 0 where
  pub given : Result Bool OutsideFault
  pub asked : CollectorsChecked collectors given before after
  pub is : result ≡ checked_by findings given

-- a line is printed for each thing that was found; then the collectors are asked
pub data FindingsTold (findings : List Finding) (collectors : List (List ℕ)) : Result Checked
    OutsideFault → Option History → Option History → Type 0 where
  untold : {old new : Option History} {fault : OutsideFault}
      → PrintsInTurn job (finding_lines findings) (Err fault) old new
      → FindingsTold findings collectors (Err fault) old new
  told_all : {old mid new : Option History} {result : Result Checked OutsideFault}
      → PrintsInTurn job (finding_lines findings) (Ok tt) old mid
      → CollectorsAsked findings collectors result mid new
      → FindingsTold findings collectors result old new

-- What is wrong with the lines of the text is found, and then told.
pub data TextChecked (text : List ℕ) (collectors : List (List ℕ)) : Result Checked OutsideFault
    → Option History → Option History → Type 0 where
  unfound : {old new : Option History} → Adds old new (Every (IsOf AsksOfLogs))
      → TextChecked text collectors (Err no_memory) old new
  found_so : {old mid new : Option History} {result : Result Checked OutsideFault}
      (findings : List Finding) → LinesSeen 1 [] (parts_at 10 text) findings old mid
      → FindingsTold findings collectors result mid new
      → TextChecked text collectors result old new

-- the same of the file, which is read whole before
pub data FileChecked (file : List ℕ) (collectors : List (List ℕ)) : Result Checked OutsideFault
    → Option History → Option History → Type 0 where
  unread : {old new : Option History} {fault : OutsideFault}
      → ReadInTurn job file [] (Err fault) old new
      → FileChecked file collectors (Err fault) old new
  no_file : {old new : Option History} → ReadInTurn job file [] (Ok None) old new
      → FileChecked file collectors (Ok NoFile) old new
  read_whole : {old mid new : Option History} {result : Result Checked OutsideFault}
      (text : List ℕ) → ReadInTurn job file [] (Ok (Some text)) old mid
      → TextChecked text collectors result mid new
      → FileChecked file collectors result old new

-- an answer that a call failed comes only where one did; calls on logs and collectors that fail
-- may raise the count without it
abbrev pub CheckCause : {T : Type 0} → ℕ → ℕ → Result T OutsideFault → Type 0
CheckCause before now (Err (Outside call)) = Rose before now × (before ≤ now)
CheckCause before now result = before ≤ now
