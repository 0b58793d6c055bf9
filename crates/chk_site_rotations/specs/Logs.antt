-- What a look at a log makes of what is known of it.
use Rattle.std.specs.Prelude.{◌≡◌, ◌⊎◌, ◌<◌, ℕ, Bool, true, false, ◌==◌, ◌&&◌, is_none, is_some, if◌then◌else◌, Option, Some, None, List, length, get_or, insert, string_bytes}
use Rattle.std.specs.List.{AllWithin}
use Rattle.chk_bytes.specs.Words.{text_lt}
use Rattle.chk_site_rotations.specs.declared.holding.FileId.{FileId}
use Rattle.chk_site_rotations.specs.declared.holding.Generation.{Generation}
use Rattle.chk_site_rotations.specs.declared.holding.Holding.{Holding}
use Rattle.chk_site_rotations.specs.declared.log.Change.{Change}
use Rattle.chk_site_rotations.specs.declared.log.Change.TheVariants.{Nothing, Held, Replaced}
use Rattle.chk_site_rotations.specs.declared.log.Log.{Log}
use Rattle.chk_site_rotations.specs.Holdings.{held_from, is_over, looked}

-- the most logs that are known
abbrev pub most_logs : ℕ
most_logs = 65536

-- both are one file
abbrev pub same_file : FileId → FileId → Bool
same_file a b = (a.device == b.device) && (a.number == b.number)

-- the one is there and is this file
abbrev pub is_file : Option FileId → FileId → Bool
is_file None file = false
is_file (Some known) file = same_file known file

-- both are there and are one file, or neither is there
abbrev pub are_one : Option FileId → Option FileId → Bool
are_one known None = is_none known
are_one known (Some file) = is_file known file

-- the file had the log's name at the last look too, or neither is there, and none is held
abbrev pub is_steady : Option FileId → Log → Bool
is_steady named l = is_none l.held && are_one l.base named

-- the newest generation is the file that had the log's name at the last look
abbrev pub is_renamed : Option Generation → Log → Bool
is_renamed None l = false
is_renamed (Some g) l = is_file l.base g.file

-- what is held of a file that was found renamed
abbrev pub begun : Option Generation → ℕ → Option Holding
begun None now = None
begun (Some g) now = Some (held_from g now)

-- behind a look where no file is held: a renamed one is held, or else the file that has the name is the base file
abbrev pub behind : Option FileId → Option Generation → ℕ → Log → Log
behind named newest now l =
    if are_one l.base named then l
    else (if is_renamed newest l then record l { held = begun newest now }
    else record l { base = named })

-- what such a look showed
abbrev pub change : Option FileId → Option Generation → Log → Change
change named newest l =
    if are_one l.base named then Nothing
    else (if is_renamed newest l then Held
    else (if is_some l.base && is_some named then Replaced else Nothing))

-- what stays held of a file that has this size now, or isn't there
abbrev pub kept : Option ℕ → ℕ → Holding → Option Holding
kept None now h = None
kept (Some size) now h = if is_over now (looked size now h) then None else Some (looked size now h)

abbrev pub still_held : Option ℕ → ℕ → Option Holding → Option Holding
still_held found now None = None
still_held found now (Some h) = kept found now h

-- behind a look at the held file: where it isn't held any more, the file that has the name is the base file
abbrev pub behind_held : Option ℕ → Option FileId → ℕ → Log → Log
behind_held found named now l =
    if is_some (still_held found now l.held)
    then record l { held = still_held found now l.held }
    else record l { base = named; held = None }

-- a log of this path, of which nothing is known
abbrev pub IsNew : Log → List ℕ → Type 0
IsNew l path =
    (string_bytes l.path ≡ path) × (l.base ≡ None) × (l.held ≡ None) × (l.passed ≡ None)

-- the log at this place has the path
abbrev pub IsAt : List Log → ℕ → List ℕ → Type 0
IsAt logs place path =
    (place < length logs) × ((d : Log) → string_bytes (get_or logs place d).path ≡ path)

-- each path comes before all later ones, so that none stands twice
abbrev pub AreRising : List Log → Type 0
AreRising logs =
    (i j : ℕ) (d : Log) → i < j → j < length logs
    → text_lt (string_bytes (get_or logs i d).path) (string_bytes (get_or logs j d).path) ≡ true

-- the paths up to this place come before this one, and no other does
pub record IsPathEnd (logs : List Log) (path : List ℕ) (place : ℕ) : Type 0 where
  pub lower : AllWithin (λ log. text_lt (string_bytes log.path) path ≡ true) logs 0 place
  pub others : AllWithin (λ log. text_lt (string_bytes log.path) path ≡ false) logs place (length logs)

-- a log that is known stays where it is, and nothing comes
abbrev pub StaysKnown : List Log → List Log → List ℕ → Option ℕ → Type 0
StaysKnown old new path found =
    AreRising old → (i : ℕ) → IsAt old i path → (new ≡ old) × (found ≡ Some i)

-- the log with this path stands at this place; at most one came to the others, and it is new
pub record IsPlaced (old new : List Log) (path : List ℕ) (place : ℕ) : Type 0 where
  pub at : IsAt new place path
  pub others : (new ≡ old) ⊎ ((log : Log) × (new ≡ insert old place log) × IsNew log path)
