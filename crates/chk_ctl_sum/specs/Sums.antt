-- The digests of a folder's streams, as its book names them.
use Rattle.std.specs.Prelude.{◌≡◌, ℕ, Bool, true, false, List, drop, length, map, Option, Result, Ok, Err}
use Rattle.chk_site.specs.Files.{Files}
use Rattle.chk_site.specs.History.{History}
use Rattle.chk_site.specs.Site.{Adds}
use Rattle.chk_site.specs.Runs.{anyhow, Leads}
use Rattle.chk_chunk.specs.Keys.{Stream}
use Rattle.chk_world.specs.Books.{Book, End, chunks_of_stream, values}
use Rattle.chk_world.proofs.Each.{Each}
use Rattle.chk_record_index.specs.declared.fault.JobFault.{JobFault}
use Rattle.chk_record_index.specs.declared.fault.JobFault.TheVariants.{Damaged}
use Rattle.chk_book.specs.Folders.{most_in}
use Rattle.chk_book.specs.Loaded.{ShowsBook}
use Rattle.chk_book.specs.Views.{end_view}
use Rattle.chk_record_reader.specs.Segments.{names_of, HasFiles, SparesFiles, AreSettled, IsSound, heads_from, chunks_in_files}
use Rattle.chk_record_reader.specs.Archives.{IsDamagedAt}
use Rattle.chk_record_reader.specs.Checking.{AllGoWell}
use Rattle.sha2.specs.Sha256.{sha256}
use Rattle.chk_ctl_sum.specs.declared.rests.Rest.{Rest}
use Rattle.chk_ctl_sum.specs.declared.sums.Sums.{Sums}
use Rattle.chk_ctl_sum.specs.Rests.{end_of, skip_of}

-- the bytes of a stream's archive: those of its records in the segments that the book names
abbrev pub archived : List ℕ → Book → Files → Stream → List ℕ
archived folder b held s =
    values (chunks_of_stream s (chunks_in_files (most_in folder) held (names_of folder b)))

-- the digest of each stream of the book
abbrev pub digests_in : List ℕ → Book → Files → List (List ℕ)
digests_in folder b held = map (λ (e : End). sha256 (archived folder b held e.stream)) b.ends

-- At Ok the files are as they were, each is of chunks, each stream's records go on from its start
-- to its end in the book, and these are the digests. Damage is of some stream: a segment isn't of
-- chunks, a record doesn't go on, or an end isn't reached.
abbrev pub SummedFiles : List ℕ → Book → Files → Result (List (List ℕ)) JobFault → History → Type 0
SummedFiles folder b held (Ok digests) history =
    HasFiles (names_of folder b) held history
    × Each (IsSound (most_in folder) held) (names_of folder b)
    × AllGoWell b.ends (heads_from (most_in folder) held 0 (names_of folder b))
    × (digests ≡ digests_in folder b held)
SummedFiles folder b held (Err (Damaged name at)) history =
    (s : Stream) × IsDamagedAt folder b held s name at
SummedFiles folder b held (Err fault) history = Unit {0}

-- the same, where the files that the book names are wholly on the disk, and others leave them
abbrev pub SummedBook : List ℕ → Book → Result (List (List ℕ)) JobFault → Option History
    → Option History → Type 0
SummedBook folder b result before after =
    (held : Files) → AreSettled (names_of folder b) held
    → Adds before after (Leads (anyhow (SparesFiles (names_of folder b)))
    (HasFiles (names_of folder b) held) (SummedFiles folder b held result))

-- the bytes of a stream's archive from an offset on
abbrev pub archived_from : List ℕ → Book → Files → Rest → List ℕ
archived_from folder b held r = drop (skip_of r) (archived folder b held (end_of r).stream)

-- the digest of each of these
abbrev pub rest_digests : List ℕ → Book → Files → List Rest → List (List ℕ)
rest_digests folder b held rests = map (λ (r : Rest). sha256 (archived_from folder b held r)) rests

-- What `SummedFiles` says, of streams from an offset on: these are the digests of their bytes.
abbrev pub SummedFrom : List ℕ → Book → List Rest → Files → Result (List (List ℕ)) JobFault
    → History → Type 0
SummedFrom folder b rests held (Ok digests) history =
    HasFiles (names_of folder b) held history
    × Each (IsSound (most_in folder) held) (names_of folder b)
    × AllGoWell b.ends (heads_from (most_in folder) held 0 (names_of folder b))
    × (digests ≡ rest_digests folder b held rests)
SummedFrom folder b rests held (Err (Damaged name at)) history =
    (s : Stream) × IsDamagedAt folder b held s name at
SummedFrom folder b rests held (Err fault) history = Unit {0}

-- the same, where the files that the book names are wholly on the disk, and others leave them
abbrev pub SummedRests : List ℕ → Book → List Rest → Result (List (List ℕ)) JobFault
    → Option History → Option History → Type 0
SummedRests folder b rests result before after =
    (held : Files) → AreSettled (names_of folder b) held
    → Adds before after (Leads (anyhow (SparesFiles (names_of folder b)))
    (HasFiles (names_of folder b) held) (SummedFrom folder b rests held result))

-- what is given is of these digests, one beside each stream of the book; or the refusal
abbrev pub AreSums : Book → Result (List (List ℕ)) JobFault → Result Sums JobFault → Type 0
AreSums b (Ok digests) (Ok sums) =
    (map end_view sums.ends ≡ b.ends) × (sums.digests ≡ digests)
    × (length digests ≡ length b.ends)
AreSums b (Ok digests) (Err fault) = ⊥
AreSums b (Err fault) result = result ≡ Err fault

-- what follows a read of the book
abbrev pub Found : List ℕ → Result Book JobFault → Result Sums JobFault → Option History
    → Option History → Type 0
Found folder (Ok b) result before after =
    (digests : Result (List (List ℕ)) JobFault) × SummedBook folder b digests before after
    × AreSums b digests result
Found folder (Err fault) result before after = (after ≡ before) × (result ≡ Err fault)

-- own reads show the folder's book, and then its segments are read; or they show why there is none
pub record SummedFolder (folder : List ℕ) (result : Result Sums JobFault)
    (before after : Option History) : Type 0 where
  pub given : Result Book JobFault
  pub middle : Option History
  pub shown : Adds before middle (ShowsBook folder given)
  pub found : Found folder given result middle after

-- whether damage was found
abbrev pub HasDamage : Bool → Result Sums JobFault → Type 0
HasDamage true (Err (Damaged name at)) = Unit {0}
HasDamage true result = ⊥
HasDamage false (Err (Damaged name at)) = ⊥
HasDamage false result = Unit {0}

-- one look; or a second one, where the first one found damage
pub data SummedAgain (folder : List ℕ) (result : Result Sums JobFault) : Option History
    → Option History → Type 0 where
  once : {old new : Option History} → HasDamage false result → SummedFolder folder result old new
      → SummedAgain folder result old new
  again : {given : Result Sums JobFault} {old mid new : Option History} → HasDamage true given
      → SummedFolder folder given old mid → SummedFolder folder result mid new
      → SummedAgain folder result old new
