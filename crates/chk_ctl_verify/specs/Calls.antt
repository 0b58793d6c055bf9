-- The calls of one who looks around.
use Rattle.std.specs.Prelude.{◌≡◌, ◌⊎◌, ℕ, true, false, List, [], ◌∷◌, Option, Ok}
use Rattle.chk_site.specs.declared.acts.Call.TheVariants.{List as ListNames, Size}
use Rattle.chk_site.specs.Acts.{Deed, Lists, Pauses, Says, deed}
use Rattle.chk_site.specs.History.{Step, History, IsTheirs, is_stopped}
use Rattle.chk_site.specs.Honest.{Honest}
use Rattle.chk_site.specs.Once.{TakenOnce}
use Rattle.chk_site.specs.Site.{Adds, asked, answered, sized, names_given, Calls}
use Rattle.chk_world.specs.JobSteps.{ReadsFile}
use Rattle.chk_world.specs.Sight.{job}

-- the calls that only look: reads of files, and listings of folders
pub data OnlyLooks : Deed → Type 0 where
  looks_at : (call : Deed) → ReadsFile call → OnlyLooks call
  lists : (folder : List ℕ) → OnlyLooks (Lists folder)

-- these, prints and waits
pub data LooksAround : Deed → Type 0 where
  quiet : (call : Deed) → OnlyLooks call → LooksAround call
  says : (text : List ℕ) → LooksAround (Says text)
  waits : (ms : ℕ) → LooksAround (Pauses ms)

-- the step is the site's own, by whatever process
pub record IsOurs (before : History) (step : Step) : Type 0 where
  pub own : step.own ≡ true
  pub running : is_stopped before ≡ false
  pub honest : Honest before step

-- the step is one of others, or such a call
abbrev pub Quiet : History → Step → Type 0
Quiet before step = IsTheirs before step ⊎ (IsOurs before step × OnlyLooks (deed step.act))

abbrev pub Looks : History → Step → Type 0
Looks before step = IsTheirs before step ⊎ (IsOurs before step × LooksAround (deed step.act))

-- the folder was listed, and has files of these names
abbrev pub HasNames : List ℕ → List (List ℕ) → Option History → Option History → Type 0
HasNames folder names old new =
    Adds old new (Calls (asked job ListNames (folder ∷ []) 0 0)
    (answered names_given (Ok names)))

-- the length of the file was asked for, and is this one; or it isn't there
abbrev pub HasSize : List ℕ → Option ℕ → Option History → Option History → Type 0
HasSize name size old new =
    TakenOnce (asked job Size (name ∷ []) 0 0) sized (Ok size) old new
