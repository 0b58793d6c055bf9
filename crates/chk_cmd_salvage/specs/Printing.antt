-- What `salvage` does to the outside.
use Rattle.std.specs.Prelude.{◌≡◌, ◌⊎◌, ℕ, ◌≤◌, true, false, List, [], ◌∷◌, ◌++◌, length, Option, Some, None, Result, Ok, Err}
use Rattle.chk_site.specs.declared.acts.Act.{Act}
use Rattle.chk_site.specs.declared.acts.ActAnswer.{ActAnswer}
use Rattle.chk_site.specs.declared.acts.ActAnswer.TheVariants.{Done}
use Rattle.chk_site.specs.declared.acts.Who.{Who}
use Rattle.chk_site.specs.Files.{File}
use Rattle.chk_site.specs.Effect.{IsSmallFile}
use Rattle.chk_site.specs.Acts.{Deed, Says, deed}
use Rattle.chk_site.specs.History.{Step, History, Others, files_after, is_stopped}
use Rattle.chk_site.specs.Honest.{Honest}
use Rattle.chk_site.specs.Site.{Rose, EndsIn}
use Rattle.chk_site.specs.Runs.{own_acts}
use Rattle.chk_replace.specs.Replace.{LeavesFile}
use Rattle.chk_replace.specs.Load.{IsLook}
use Rattle.chk_seqfile.specs.declared.headers.HeaderRef.{HeaderRef}
use Rattle.chk_seqfile.specs.declared.headers.HeaderFault.{HeaderFault}
use Rattle.chk_seqfile.specs.Headers.{read_header}
use Rattle.chk_salvage.specs.Front.{Item, salvage_of}
use Rattle.chk_seqfile.specs.Entries.{Placed}
use Rattle.chk_site.specs.declared.acts.OutsideFault.{OutsideFault}
use Rattle.chk_site.specs.declared.acts.OutsideFault.TheVariants.{Outside as OutsideCall, NoMemory as no_memory}
use Rattle.chk_cmd_salvage.specs.Lines.{AreLines, IsRecordLine}
use Rattle.chk_cmd_salvage.specs.declared.fault.SalvageFault.{SalvageFault}
use Rattle.chk_cmd_salvage.specs.declared.fault.SalvageFault.TheVariants.{Outside, NoMemory, Damaged}

-- the text that a call printed
abbrev pub text_said : Deed → ActAnswer → List ℕ
text_said (Says text) (Done words number of) = text
text_said call answer = []

-- all that these acts printed, the newest of them being the first
abbrev pub said : List Act → List ℕ
said [] = []
said (act ∷ acts) = said acts ++ text_said (deed act) act.answer

-- the bytes of a file; none where it isn't there
abbrev pub bytes_or_none : Option File → List ℕ
bytes_or_none None = []
bytes_or_none (Some file) = file.bytes

-- the header is accepted, and the text is the lines of all that can be read and of what is skipped, in order of place
pub record IsWhole (bytes text : List ℕ) : Type 0 where
  pub head : HeaderRef
  pub header : read_header bytes ≡ Ok head
  pub lines : AreLines (salvage_of bytes) text

-- the header is refused, and nothing was printed
pub record IsRefused (bytes text : List ℕ) : Type 0 where
  pub why : HeaderFault
  pub header : read_header bytes ≡ Err why
  pub none : text ≡ []

-- the text is a front of the lines
pub record IsFrontOfLines (bytes text : List ℕ) : Type 0 where
  pub printed : List Item
  pub left : List Item
  pub unsaid : List ℕ
  pub items : salvage_of bytes ≡ printed ++ left
  pub lines : AreLines printed (text ++ unsaid)

-- what was printed of a file with these bytes, by the result
abbrev pub Printed : List ℕ → Result Unit SalvageFault → List ℕ → Type 0
Printed bytes (Ok value) text = IsWhole bytes text
Printed bytes (Err Damaged) text = IsRefused bytes text
Printed bytes (Err fault) text = IsFrontOfLines bytes text

-- Suppose that no step of others touches the file. Then what was printed since is what the file's bytes give.
pub record PrintsFile (name : List ℕ) (result : Result Unit SalvageFault) (added history : History) : Type 0 where
  pub prints : (file : Option File) → IsSmallFile file → Others (LeavesFile name) added history → files_after history name ≡ file
      → Printed (bytes_or_none file) result (said (own_acts added))

-- the most bytes that are printed at once
abbrev pub print_limit : ℕ
print_limit = 65536

-- the step is the site's own, and prints no more bytes than that as this process
pub record IsPrint (who : Who) (before : History) (step : Step) : Type 0 where
  pub own : step.own ≡ true
  pub running : is_stopped before ≡ false
  pub honest : Honest before step
  pub by : step.act.who ≡ who
  pub text : List ℕ
  pub says : deed step.act ≡ Says text
  pub few : length text ≤ print_limit

-- the step is one of others, a read of this file, or such a print
abbrev pub LooksOrPrints : Who → List ℕ → History → Step → Type 0
LooksOrPrints who name before step = IsLook who name before step ⊎ IsPrint who before step

-- the call that failed is the last one, where the site wasn't stopped
abbrev pub FailsLast : Result Unit SalvageFault → History → History → Type 0
FailsLast (Err (Outside call)) added history = is_stopped (added ++ history) ≡ false → EndsIn call added
FailsLast result added history = Unit {0}

-- the site wasn't stopped, where it wasn't before
abbrev pub GoesOnRunning : History → History → Type 0
GoesOnRunning added history = is_stopped history ≡ false → is_stopped (added ++ history) ≡ false

-- what ended otherwise than by a call or for want of memory did so on a site that wasn't stopped
abbrev pub EndsRunning : Result Unit SalvageFault → History → History → Type 0
EndsRunning (Err (Outside call)) added history = Unit {0}
EndsRunning (Err NoMemory) added history = Unit {0}
EndsRunning result added history = is_stopped (added ++ history) ≡ false

-- only a failure raises the count of faults
abbrev pub CauseOf : ℕ → ℕ → Result Unit SalvageFault → Type 0
CauseOf before now (Err (Outside call)) = Rose before now × (before ≤ now)
CauseOf before now result = now ≡ before

-- a fault of the outside as that of a salvage
abbrev pub salvage_fault : OutsideFault → SalvageFault
salvage_fault (OutsideCall call) = Outside call
salvage_fault no_memory = NoMemory

-- the line of this record stands behind what was there, and it has at most 12,360 bytes
pub record HasRecordLine (r : Placed) (before now : List ℕ) : Type 0 where
  pub line : List ℕ
  pub is : IsRecordLine r line
  pub behind : now ≡ before ++ line
  pub short : length line ≤ 12360
