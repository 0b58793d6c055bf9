-- What is printed of all that was seen.
use Rattle.std.specs.Prelude.{◌≡◌, ℕ, Bool, true, false, List, [], ◌∷◌, ◌++◌, map, flat_map, string_bytes, Option, None, Result, Ok, Err}
use Rattle.std.specs.Borrow.{Bor}
use Rattle.chk_site.specs.declared.acts.OutsideFault.{OutsideFault}
use Rattle.chk_site.specs.declared.acts.OutsideFault.TheVariants.{NoMemory as no_memory}
use Rattle.chk_site.specs.History.{History}
use Rattle.chk_world.specs.Sight.{job}
use Rattle.chk_book.specs.declared.book.Book.{Book}
use Rattle.chk_ctl_line.specs.declared.status.Form.{Form}
use Rattle.chk_ctl_line.specs.declared.status.Form.TheVariants.{Table, Line, Metrics}
use Rattle.chk_ctl_metrics.specs.declared.agents.NamedAgents.{NamedAgents}
use Rattle.chk_ctl_metrics.specs.declared.beside.NamedDoor.{NamedDoor}
use Rattle.chk_ctl_metrics.specs.declared.families.NamedStore.{NamedStore}
use Rattle.chk_ctl_metrics.specs.Agents.{metrics_text}
use Rattle.chk_ctl_status.specs.Absent.{absent_line, absent_text}
use Rattle.chk_ctl_status.specs.Doors.{door_line, door_text}
use Rattle.chk_ctl_status.specs.Lags.{agents_line, agents_text}
use Rattle.chk_ctl_status.specs.Locks.{locks_line, locks_text}
use Rattle.chk_ctl_status.specs.Stores.{line_text, store_text}
use Rattle.chk_ctl_status.specs.Telling.{Tells}
use Rattle.chk_ctl_run.specs.declared.outcome.Outcome.{Outcome}
use Rattle.chk_ctl_run.specs.Outcomes.{outcome_status, told_as, OutcomeCause}
use Rattle.chk_ctl_machine.specs.Deeds.{ended, Told}
use Rattle.chk_ctl_machine.specs.Lending.{Lent}
use Rattle.chk_ctl_inspect.specs.declared.kept.Sight.{Sight}

-- each text is printed, in turn, up to a refusal
pub data TellsAll : List (List ℕ) → Result (Unit {0}) OutsideFault → Option History
    → Option History → Type 0 where
  all_told : {now : Option History} → TellsAll [] (Ok tt) now now
  one_told : {text : List ℕ} {texts : List (List ℕ)} {result : Result (Unit {0}) OutsideFault}
      {old mid new : Option History} → Tells job text (Ok tt) old mid
      → TellsAll texts result mid new → TellsAll (text ∷ texts) result old new
  refused : {text : List ℕ} {texts : List (List ℕ)} {fault : OutsideFault}
      {old new : Option History} → Tells job text (Err fault) old new
      → TellsAll (text ∷ texts) (Err fault) old new

-- of each thing, in tables or in lines
abbrev pub agents_by : Bool → List (Bor Book) → NamedAgents → List (List ℕ)
agents_by true books n =
    agents_text (string_bytes n.folder) n.agents.items books ∷ locks_text n.locks.items ∷ []
agents_by false books n =
    agents_line (string_bytes n.folder) n.agents.items books
    ∷ locks_line (string_bytes n.folder) n.locks.items ∷ []

abbrev pub absent_by : Bool → List ℕ → List (List ℕ)
absent_by true folder = absent_text folder ∷ []
absent_by false folder = absent_line folder ∷ []

abbrev pub store_by : Bool → NamedStore → List (List ℕ)
store_by true n = store_text (string_bytes n.folder) n.seen ∷ locks_text n.locks.items ∷ []
store_by false n = line_text (string_bytes n.folder) n.seen ∷ []

abbrev pub door_by : Bool → NamedDoor → List (List ℕ)
door_by true n = door_text (string_bytes n.name) (string_bytes n.address) n.door ∷ []
door_by false n = door_line (string_bytes n.name) (string_bytes n.address) n.door ∷ []

-- all of it; in lines folders that are no stores and control ports come first
abbrev pub tables_of : List (Bor Book) → Sight → List (List ℕ)
tables_of books s =
    (flat_map (agents_by true books) s.agents.items
    ++ flat_map (λ f. absent_by true f.now) s.absent.items)
    ++ (flat_map (store_by true) s.stores.items ++ flat_map (door_by true) s.doors.items)

abbrev pub lines_of : List (Bor Book) → Sight → List (List ℕ)
lines_of books s =
    (flat_map (λ f. absent_by false f.now) s.absent.items
    ++ flat_map (door_by false) s.doors.items)
    ++ (flat_map (store_by false) s.stores.items
    ++ flat_map (agents_by false books) s.agents.items)

abbrev pub texts_of : Form → List (Bor Book) → Sight → List (List ℕ)
texts_of Table books s = tables_of books s
texts_of Line books s = lines_of books s
texts_of Metrics books s =
    metrics_text s.stores.items s.absent.items s.agents.items books s.doors.items ∷ []

-- by the books of the stores that were seen
pub record TellsForm (form : Form) (s : Sight) (result : Result (Unit {0}) OutsideFault)
    (old new : Option History) : Type 0 where
  pub books : List (Bor Book)
  pub are : map (λ b. b.now) books ≡ map (λ n. n.seen.waiting.book) s.stores.items
  pub told : TellsAll (texts_of form books s) result old new

-- the same; or there was no memory before
pub data TellsSight (form : Form) (s : Sight) : Result (Unit {0}) OutsideFault → Option History
    → Option History → Type 0 where
  unbegun : {now : Option History} → TellsSight form s (Err no_memory) now now
  told : {result : Result (Unit {0}) OutsideFault} {old new : Option History}
      → TellsForm form s result old new → TellsSight form s result old new

pub record ReportsOf (form : Form) (s : Sight) (outcome : Outcome) (from to : Option History)
    : Type 0 where
  pub given : Result (Unit {0}) OutsideFault
  pub told : TellsSight form s given from to
  pub is : outcome ≡ told_as given

-- and only a call that failed raised the count
pub record ReportsBy (form : Form) (s : Sight) (outcome : Outcome) (from : Option History)
    (before : ℕ) (to : Option History) (now : ℕ) : Type 0 where
  pub told : ReportsOf form s outcome from to
  pub cause : OutcomeCause before now outcome

-- by a site; the outcome is reported, and gives the status
pub record Reports (form : Form) (s : Sight) (status : ℕ) (old new : Told) : Type 0 where
  pub outcome : Outcome
  pub back : Told
  pub lent : Lent None (ReportsBy form s outcome) old back
  pub told : new ≡ ended outcome back
  pub is : status ≡ outcome_status outcome
