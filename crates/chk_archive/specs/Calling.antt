-- Which calls the parts of an archive run make, and what they leave.
use Rattle.std.specs.Prelude.{ℕ, List, [], ◌∷◌, map, Option, Result, Ok, Err}
use Rattle.chk_site.specs.declared.acts.Call.TheVariants.{Remove, List as ListNames}
use Rattle.chk_site.specs.declared.acts.Who.{Who}
use Rattle.chk_site.specs.declared.acts.CallFault.{CallFault}
use Rattle.chk_site.specs.declared.acts.OutsideFault.{OutsideFault}
use Rattle.chk_site.specs.History.{History}
use Rattle.chk_site.specs.Site.{Adds, Asked, asked, answered, names_given, Calls, Ends}

-- the call that removes a file
abbrev pub removal : Who → List ℕ → Asked
removal who name = asked who Remove (name ∷ []) 0 0

-- the calls that remove these files, in turn
abbrev pub removals : Who → List (List ℕ) → List Asked
removals who names = map (removal who) names

-- the call that lists a folder
abbrev pub listing : Who → List ℕ → Asked
listing who folder = asked who ListNames (folder ∷ []) 0 0

-- the folder was listed, and these are the names; or the call ended the work
abbrev pub Listed : Who → List ℕ → Result (List (List ℕ)) OutsideFault → Option History
    → Option History → Type 0
Listed who folder (Ok names) old new = Adds old new
    (Calls (listing who folder) (Ok (names_given names)))
Listed who folder (Err fault) old new =
    (given : Result (List (List ℕ)) CallFault) × Ends ListNames given fault
    × Adds old new (Calls (listing who folder) (answered names_given given))
