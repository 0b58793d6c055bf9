-- The files of a folder, one after the other.
use Rattle.std.specs.Prelude.{ℕ, ◌||◌, Bool, false, List, [], ◌∷◌, ◌++◌, Option, Result, Ok, Err}
use Rattle.chk_site.specs.declared.acts.OutsideFault.{OutsideFault}
use Rattle.chk_site.specs.declared.acts.OutsideFault.TheVariants.{NoMemory as no_memory}
use Rattle.chk_site.specs.History.{History, Every}
use Rattle.chk_site.specs.Honest.{in_folder}
use Rattle.chk_site.specs.Site.{Adds}
use Rattle.chk_ctl_verify.specs.declared.sinks.Place.{Place}
use Rattle.chk_ctl_verify.specs.Calls.{HasNames, Quiet}
use Rattle.chk_ctl_verify.specs.Names.{folder_of, FileSeen, FoundBy}
use Rattle.chk_ctl_verify.specs.Telling.{ToldIf}

-- Each of them is checked, in their order, and one of them was found damaged or none was; or each
-- up to one at which the work ended. There may have been no memory to begin with.
pub data EachChecked {X : Type 0}
    (Checked : X → Result Bool OutsideFault → Option History → Option History → Type 0) : List X
    → Result Bool OutsideFault → Option History → Option History → Type 0 where
  none_yet : {now : Option History} → EachChecked Checked [] (Ok false) now now
  and_this : {xs : List X} {x : X} {was is : Bool} {old mid new : Option History}
      → EachChecked Checked xs (Ok was) old mid → Checked x (Ok is) mid new
      → EachChecked Checked (xs ++ x ∷ []) (Ok (was || is)) old new
  up_to_this : {xs : List X} {x : X} {was : Bool} {fault : OutsideFault}
      {old mid new : Option History} (behind : List X)
      → EachChecked Checked xs (Ok was) old mid → Checked x (Err fault) mid new
      → EachChecked Checked (xs ++ x ∷ behind) (Err fault) old new
  unbegun : {xs : List X} {now : Option History} → EachChecked Checked xs (Err no_memory) now now

-- the file of this name is looked at, and its damage told; or a look at it was refused
pub data FileChecked (place : Place) (name : List ℕ) : Result Bool OutsideFault → Option History
    → Option History → Type 0 where
  looked : {result : Result Bool OutsideFault} {old mid new : Option History} (found : Option ℕ)
      → Adds old mid (Every Quiet) → FoundBy (FileSeen place name) found old mid
      → ToldIf (in_folder (folder_of place) name) found result mid new
      → FileChecked place name result old new
  unlooked : {old new : Option History} (fault : OutsideFault) → Adds old new (Every Quiet)
      → FileChecked place name (Err fault) old new

-- the folder is listed, and each of its files is looked at
pub data PlaceChecked (place : Place) : Result Bool OutsideFault → Option History
    → Option History → Type 0 where
  listed : {result : Result Bool OutsideFault} {old mid new : Option History}
      (names : List (List ℕ)) → HasNames (folder_of place) names old mid
      → EachChecked (FileChecked place) names result mid new
      → PlaceChecked place result old new
  unlisted : {old new : Option History} (fault : OutsideFault) → Adds old new (Every Quiet)
      → PlaceChecked place (Err fault) old new
