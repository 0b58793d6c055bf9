-- What is seen of a log.
use Rattle.std.specs.Prelude.{◌≡◌, ◌≢◌, ℕ, ◌<◌, ◌&&◌, ◌||◌, Bool, true, false, List, [], ◌∷◌, ◌++◌}
use Rattle.std.specs.Prelude.{bytes_eq, codes, get_or, length, Option}
use Rattle.std.specs.Prelude.{Result, Ok, Err}
use Rattle.std.specs.List.{list_any}
use Rattle.chk_control.specs.declared.Class.{Class}
use Rattle.chk_control.specs.declared.Class.TheVariants.{Plain}
use Rattle.chk_site.specs.declared.acts.Call.TheVariants.{List as ListNames, LogRead}
use Rattle.chk_site.specs.declared.acts.CallFault.{CallFault}
use Rattle.chk_site.specs.declared.acts.CallFault.TheVariants.{Failed}
use Rattle.chk_site.specs.declared.suffixes.Piece.{Piece}
use Rattle.chk_site.specs.History.{History}
use Rattle.chk_site.specs.Site.{Adds, Calls, answered, asked, names_given, piece_given}
use Rattle.chk_world.specs.Sight.{job}
use Rattle.chk_ctl_check.specs.declared.beside.Beside.TheVariants.{Dated, Numbered, Compressed}
use Rattle.chk_ctl_check.specs.Beside.{has_beside}
use Rattle.chk_ctl_check.specs.declared.trouble.Trouble.{Trouble}
use Rattle.chk_ctl_check.specs.declared.trouble.Trouble.TheVariants.{NoLog, Unreadable}
use Rattle.chk_ctl_check.specs.declared.trouble.Trouble.TheVariants.{RotatedName, NumberedName}
use Rattle.chk_ctl_check.specs.declared.trouble.Trouble.TheVariants.{CompressedName}

-- the text has no slash
abbrev pub LacksSlash : List ℕ → Type 0
LacksSlash text = (i : ℕ) → i < length text → get_or text i 0 ≢ 47

-- the log stands in this folder, under this name: what is before and behind the last slash
pub record StandsIn (path folder base : List ℕ) : Type 0 where
  pub whole : path ≡ folder ++ 47 ∷ base
  pub last : LacksSlash base

-- what is wrong where it is so
abbrev pub trouble_if : Bool → Trouble → List Trouble
trouble_if true trouble = trouble ∷ []
trouble_if false trouble = []

-- the class reads the base file alone
abbrev pub is_plain : Class → Bool
is_plain Plain = true
is_plain class = false

-- a rotated file of any sort stands beside the log
abbrev pub is_rotated : List ℕ → List (List ℕ) → Bool
is_rotated base names =
    has_beside base Dated names
    || (has_beside base Numbered names || has_beside base Compressed names)

-- what is wrong with the files beside a log
abbrev pub troubles_beside : Class → List ℕ → List (List ℕ) → List Trouble
troubles_beside class base names =
    trouble_if (is_plain class && is_rotated base names) RotatedName
    ++ (trouble_if (has_beside base Numbered names) NumberedName
    ++ trouble_if (has_beside base Compressed names) CompressedName)

-- the log is among the names of its folder
abbrev pub is_there : List ℕ → List (List ℕ) → Bool
is_there base names = list_any (bytes_eq base) names

-- what is wrong with a log, by a read of its first byte
abbrev pub trouble_read : Result Piece CallFault → List Trouble
trouble_read (Err Failed) = Unreadable ∷ []
trouble_read given = []

-- a log that is there is read
pub data LogAsked (path : List ℕ) : Bool → List Trouble → Option History → Option History
    → Type 0 where
  absent : {now : Option History} → LogAsked path false (NoLog ∷ []) now now
  read : {old new : Option History} (given : Result Piece CallFault)
      → Adds old new (Calls (asked job LogRead (path ∷ codes "base" ∷ []) 0 1)
      (answered piece_given given))
      → LogAsked path true (trouble_read given) old new

-- The log's folder is listed, and the log is read where it is there; what these calls answered
-- shows what is wrong with it.
pub data LogSeen (class : Class) (path : List ℕ) : List Trouble → Option History
    → Option History → Type 0 where
  nowhere : {now : Option History} → LacksSlash path → LogSeen class path [] now now
  unlisted : {old new : Option History} (folder base : List ℕ) → StandsIn path folder base
      → Adds old new (Calls (asked job ListNames (folder ∷ []) 0 0) (Err Failed))
      → LogSeen class path (Unreadable ∷ []) old new
  listed : {old mid new : Option History} (folder base : List ℕ) (names : List (List ℕ))
      (read : List Trouble) → StandsIn path folder base
      → Adds old mid (Calls (asked job ListNames (folder ∷ []) 0 0) (Ok (names_given names)))
      → LogAsked path (is_there base names) read mid new
      → LogSeen class path (read ++ troubles_beside class base names) old new
