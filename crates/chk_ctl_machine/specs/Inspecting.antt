-- What may be done through a site that a machine lends.
use Rattle.std.specs.Prelude.{◌≡◌, ◌⊎◌, ℕ, true, List, [], ◌∷◌, codes, Option, Some}
use Rattle.chk_site.specs.Acts.{deed, AsksNewest, AsksSize, Gets, Lists, Pauses, Reads, ReadsLog, Says, Sends}
use Rattle.chk_site.specs.Acts.{Deed as Call}
use Rattle.chk_site.specs.History.{History, IsTheirs, Step, Every}
use Rattle.chk_site.specs.Logs.{Part}
use Rattle.chk_site.specs.Site.{Adds}
use Rattle.chk_ctl_machine.specs.declared.extent.LongInspection.{LongInspection}
use Rattle.chk_ctl_machine.specs.Deeds.{Deed, Lends}

-- the call reads a file or a log, lists a folder, prints or waits, or sends nothing or the line `list`
-- to an address, or gets the answer
pub data IsInspection : Call → Type 0 where
  reads : (name : List ℕ) (at max : ℕ) → IsInspection (Reads name at max)
  asks_size : (name : List ℕ) → IsInspection (AsksSize name)
  reads_log : (path : List ℕ) (part : Part) (at max : ℕ)
      → IsInspection (ReadsLog path part at max)
  asks_newest : (path : List ℕ) → IsInspection (AsksNewest path)
  lists : (folder : List ℕ) → IsInspection (Lists folder)
  says : (text : List ℕ) → IsInspection (Says text)
  waits : (ms : ℕ) → IsInspection (Pauses ms)
  sends_nothing : (n : ℕ) (address : List ℕ) → IsInspection (Sends n address [])
  sends_list : (n : ℕ) (address : List ℕ) → IsInspection (Sends n address (codes "list\n"))
  gets : (n : ℕ) → IsInspection (Gets n)

-- the step is one of others, or an own one that is such a call: none that starts a process, whose lock
-- is taken then, and none that makes, changes or removes a file or a log
abbrev pub Inspects : History → Step → Type 0
Inspects before step = IsTheirs before step ⊎ ((step.own ≡ true) × IsInspection (deed step.act))

-- no more than inspections were made through the site that was lent last
abbrev pub MayTakeBack : Option (List Deed) → Option History → Type 0
MayTakeBack told now =
    (long : Option LongInspection) → (from : Option History) → (count : ℕ) → (deeds : List Deed)
    → told ≡ Some (Lends long from count ∷ deeds) → Adds from now (Every Inspects)
