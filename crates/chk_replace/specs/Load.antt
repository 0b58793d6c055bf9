-- The reading of a whole file.
use Rattle.std.specs.Prelude.{◌≡◌, ◌⊎◌, ℕ, ◌-◌, ◌^◌, min, true, false, List, [], ◌∷◌, ◌++◌, length, take, drop, Option, Some, None, option_map, Result, Ok, Err}
use Rattle.chk_bytes.specs.Numbers.{last_number}
use Rattle.chk_bytes.specs.Words.{BeginsWith}
use Rattle.chk_site.specs.declared.acts.Who.{Who}
use Rattle.chk_site.specs.declared.acts.OutsideFault.{OutsideFault}
use Rattle.chk_site.specs.declared.acts.OutsideFault.TheVariants.{Outside, NoMemory as no_memory}
use Rattle.chk_site.specs.declared.acts.Call.TheVariants.{Read}
use Rattle.chk_site.specs.declared.acts.CallFault.{CallFault}
use Rattle.chk_site.specs.declared.acts.CallFault.TheVariants.{Missing, Short, Failed, NoMemory}
use Rattle.chk_site.specs.Site.{Adds, asked, answered, bytes_given, Calls}
use Rattle.chk_site.specs.Files.{File}
use Rattle.chk_site.specs.Acts.{Reads, deed}
use Rattle.chk_site.specs.History.{Step, History, IsTheirs, files_after, is_stopped}
use Rattle.chk_site.specs.Honest.{Honest}

-- the most bytes that one read asks for
abbrev pub piece_limit : ℕ
piece_limit = 1048576

-- how many bytes a read at this place asks for, and none at or past the place 2^63 - 1
abbrev pub asks_at : ℕ → ℕ
asks_at at = min (last_number - at) piece_limit

-- the step is the site's own, and a read of this file by this process
pub record IsRead (who : Who) (name : List ℕ) (before : History) (step : Step) : Type 0 where
  pub own : step.own ≡ true
  pub running : is_stopped before ≡ false
  pub honest : Honest before step
  pub by : step.act.who ≡ who
  pub at : ℕ
  pub asks : deed step.act ≡ Reads name at (asks_at at)

-- the step is one of others, or such a read
abbrev pub IsLook : Who → List ℕ → History → Step → Type 0
IsLook who name before step = IsTheirs before step ⊎ IsRead who name before step

-- the file of this name is this one
abbrev pub Has : List ℕ → Option File → History → Type 0
Has name file history = files_after history name ≡ file

-- the bytes of a file, where it is there
abbrev pub bytes_of : Option File → Option (List ℕ)
bytes_of file = option_map (λ f. f.bytes) file

-- at Ok the file is still this one, and its bytes were given
abbrev pub Loaded : List ℕ → Option File → Result (Option (List ℕ)) OutsideFault → History → Type 0
Loaded name file (Ok given) history = Has name file history × (given ≡ bytes_of file)
Loaded name file (Err fault) history = Unit {0}

-- nothing was given only where the file isn't there at the end
abbrev pub IsGone : List ℕ → Result (Option (List ℕ)) OutsideFault → History → History → Type 0
IsGone name (Ok None) added history = files_after (added ++ history) name ≡ None
IsGone name result added history = Unit {0}

-- at Ok the piece is what the file has at this place
abbrev pub HasPiece : List ℕ → ℕ → Option File → Result (Option (List ℕ)) OutsideFault → History → Type 0
HasPiece name at file (Ok given) history =
    Has name file history × (given ≡ option_map (λ bytes. take (asks_at at) (drop at bytes)) (bytes_of file))
HasPiece name at file (Err fault) history = Unit {0}

-- the bytes are a front of the file's; where it isn't there, none were read
abbrev pub IsFront : List ℕ → Option File → Type 0
IsFront bytes None = bytes ≡ []
IsFront bytes (Some file) = BeginsWith file.bytes bytes

-- the file is still this one, and these bytes are a front of it
abbrev pub HasFront : List ℕ → Option File → List ℕ → History → Type 0
HasFront name file bytes history = Has name file history × IsFront bytes file

-- what a read is taken for: a file that is gone has no piece, and one that ends before the place an empty one
abbrev pub Came : Result (List ℕ) CallFault → Result (Option (List ℕ)) OutsideFault → Type 0
Came (Ok piece) result = result ≡ Ok (Some piece)
Came (Err Missing) result = result ≡ Ok None
Came (Err (Short size)) result = result ≡ Ok (Some [])
Came (Err Failed) result = result ≡ Err (Outside Read)
Came (Err NoMemory) result = result ≡ Err no_memory
Came (Err fault) result = ⊥

-- one read of the file at a place, and what it is taken for
pub record ReadOnce (who : Who) (name : List ℕ) (at : ℕ) (result : Result (Option (List ℕ)) OutsideFault) (old new : Option History) : Type 0 where
  pub given : Result (List ℕ) CallFault
  pub came : Came given result
  pub told : Adds old new (Calls (asked who Read (name ∷ []) at (asks_at at)) (answered bytes_given given))

-- The reads of a load in turn, each where the bytes so far end, up to an empty piece, a file that is gone, or a refusal.
pub data ReadInTurn : Who → List ℕ → List ℕ → Result (Option (List ℕ)) OutsideFault → Option History → Option History → Type 0 where
  gone : {who : Who} {name bytes : List ℕ} {old new : Option History} → ReadOnce who name (length bytes) (Ok None) old new
      → ReadInTurn who name bytes (Ok None) old new
  at_end : {who : Who} {name bytes : List ℕ} {old new : Option History} → ReadOnce who name (length bytes) (Ok (Some [])) old new
      → ReadInTurn who name bytes (Ok (Some bytes)) old new
  ended : {who : Who} {name bytes : List ℕ} {fault : OutsideFault} {old new : Option History} → ReadOnce who name (length bytes) (Err fault) old new
      → ReadInTurn who name bytes (Err fault) old new
  unkept : {who : Who} {name bytes : List ℕ} {old new : Option History} (piece : List ℕ) → ReadOnce who name (length bytes) (Ok (Some piece)) old new
      → ReadInTurn who name bytes (Err no_memory) old new
  went_on : {who : Who} {name bytes : List ℕ} {result : Result (Option (List ℕ)) OutsideFault} {old mid new : Option History} (piece : List ℕ)
      → ReadOnce who name (length bytes) (Ok (Some piece)) old mid → ReadInTurn who name (bytes ++ piece) result mid new
      → ReadInTurn who name bytes result old new
