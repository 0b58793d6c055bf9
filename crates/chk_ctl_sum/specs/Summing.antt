-- What is read and summed of records whose heads are known.
use Rattle.std.specs.Prelude.{◌≡◌, ℕ, List, drop, Result, Ok, Err}
use Rattle.chk_site.specs.Files.{Files}
use Rattle.chk_site.specs.History.{History}
use Rattle.chk_chunk.specs.Keys.{Stream}
use Rattle.chk_record_index.specs.declared.fault.JobFault.{JobFault}
use Rattle.chk_record_index.specs.declared.fault.JobFault.TheVariants.{Damaged}
use Rattle.chk_record_reader.specs.declared.reader.RecordReader.{RecordReader}
use Rattle.chk_record_reader.specs.Segments.{HasFiles}
use Rattle.chk_record_reader.specs.Archives.{AreWindows, values_in}
use Rattle.chk_join_sources.specs.declared.gathering.Side.{Side}
use Rattle.sha2.specs.Sha256.{sha256}
use Rattle.chk_ctl_sum.specs.declared.rests.Rest.{Rest}
use Rattle.chk_ctl_sum.specs.declared.rests.Skipping.{Skipping}
use Rattle.chk_ctl_sum.specs.Rests.{end_of, skip_of, HoldsRest}

-- the values of a stream's records, joined
abbrev pub bytes_of : Side → Files → Stream → List ℕ
bytes_of side held s = values_in s side.names.now held side.heads.now

-- those from an offset on
abbrev pub rest_of : Side → Files → Rest → List ℕ
rest_of side held r = drop (skip_of r) (bytes_of side held (end_of r).stream)

-- their digest
abbrev pub digest_of : Side → Files → Rest → List ℕ
digest_of side held r = sha256 (rest_of side held r)

-- all files are as they were, and what the reader holds is what they have
abbrev pub CanSum : List (List ℕ) → Files → Side → RecordReader → History → Type 0
CanSum all held side r history = HasFiles all held history × AreWindows side.names.now held r

-- the same, and the hasher, which leaves out so many of them, was fed these bytes
abbrev pub HasSummed : List (List ℕ) → Files → Side → ℕ → List ℕ → RecordReader → Skipping → History
    → Type 0
HasSummed all held side skip taken r h history =
    CanSum all held side r history × HoldsRest skip h taken

-- at Ok it has; nothing is ever damaged
abbrev pub TookOne : List (List ℕ) → Files → Side → ℕ → List ℕ → RecordReader → Skipping
    → Result (Unit {0}) JobFault → History → Type 0
TookOne all held side skip taken r h (Ok value) history =
    HasSummed all held side skip taken r h history
TookOne all held side skip taken r h (Err (Damaged name at)) history = ⊥
TookOne all held side skip taken r h (Err fault) history = Unit {0}

-- at Ok this is the digest of these bytes
abbrev pub SummedOne : List (List ℕ) → Files → Side → List ℕ → RecordReader
    → Result (List ℕ) JobFault → History → Type 0
SummedOne all held side bytes r (Ok digest) history =
    CanSum all held side r history × (digest ≡ sha256 bytes)
SummedOne all held side bytes r (Err (Damaged name at)) history = ⊥
SummedOne all held side bytes r (Err fault) history = Unit {0}

-- at Ok these are the digests, and all files are as they were
abbrev pub SummedAll : List (List ℕ) → Files → List (List ℕ) → Result (List (List ℕ)) JobFault
    → History → Type 0
SummedAll all held digests (Ok given) history = HasFiles all held history × (given ≡ digests)
SummedAll all held digests (Err (Damaged name at)) history = ⊥
SummedAll all held digests (Err fault) history = Unit {0}
