-- What one read asks for and gives.
use Rattle.std.specs.Prelude.{◌≡◌, ℕ, ◌-◌, ◌≤◌, ◌^◌, min, true, List, [], take, drop, Option, Some, None, option_map, Result, Ok, Err}
use Rattle.chk_bytes.specs.Numbers.{last_number}
use Rattle.chk_site.specs.declared.acts.OutsideFault.{OutsideFault}
use Rattle.chk_site.specs.Files.{File}
use Rattle.chk_site.specs.Acts.{Reads, deed}
use Rattle.chk_site.specs.History.{Step, History}
use Rattle.chk_replace.specs.Load.{Has, bytes_of, piece_limit}

-- a read by the site's own process asks for at most 1,048,576 bytes
abbrev pub AsksInPieces : History → Step → Type 0
AsksInPieces before step =
    step.own ≡ true → (name : List ℕ) (at max : ℕ) → deed step.act ≡ Reads name at max → max ≤ piece_limit

-- how many bytes a read of at most so many asks for: none past the place at which each file counts as ended
abbrev pub asks_for : ℕ → ℕ → ℕ
asks_for most at = min (last_number - at) most

-- at Ok the piece is what the file has at this place, of at most so many bytes
abbrev pub HasMost : List ℕ → ℕ → ℕ → Option File → Result (Option (List ℕ)) OutsideFault → History → Type 0
HasMost name at most file (Ok given) history =
    Has name file history × (given ≡ option_map (λ bytes. take (asks_for most at) (drop at bytes)) (bytes_of file))
HasMost name at most file (Err fault) history = Unit {0}

-- the bytes of a file; one that isn't there counts as empty
abbrev pub bytes_in : Option File → List ℕ
bytes_in None = []
bytes_in (Some f) = f.bytes

-- at Ok the bytes are what the file has at this place, at most so many
abbrev pub HasBytes : List ℕ → ℕ → ℕ → Option File → Result (List ℕ) OutsideFault → History → Type 0
HasBytes name at most file (Ok bytes) history = Has name file history × (bytes ≡ take (asks_for most at) (drop at (bytes_in file)))
HasBytes name at most file (Err fault) history = Unit {0}
