-- The listing of the sinks, and their removal.
use Rattle.std.specs.Prelude.{◌≡◌, ◌⊎◌, ℕ, ◌+◌, ◌≤◌, List, length, codes, IsTrue, IsSome, Contains, Any, Option, Some, None, Result, Ok, Err}
use Rattle.chk_bytes.specs.Stems.{Stem}
use Rattle.chk_site.specs.declared.acts.OutsideFault.{OutsideFault}
use Rattle.chk_site.specs.Files.{File}
use Rattle.chk_site.specs.Acts.{Deed, Lists, Removes}
use Rattle.chk_site.specs.History.{History, files_after}
use Rattle.chk_chunk.specs.Keys.{Chunk, chunk_end, chunk_limit, same_data}
use Rattle.chk_world.specs.Books.{chunks_within}
use Rattle.chk_world.specs.Names.{Name, read}
use Rattle.chk_world.specs.ArchiveRuns.{Listing, is_closed, sink_path}
use Rattle.chk_world.specs.DoneSinks.{IsDoneName}
use Rattle.chk_world.specs.Rules.{Legal}
use Rattle.chk_world.specs.Sight.{Sight, own_files, listed_sinks, own_archive, own_aside, AtJob}

-- the job's own files are these. (A plain function, so that a clause can range over it.)
abbrev pub OwnAre : (Name → Option File) → Sight → Type 0
OwnAre own v = (n : Name) → v.own n ≡ own n

-- the last listing shows these names, and since then the job's own files and the done sinks are as
-- they were
pub record ShowsSinks (own : Name → Option File) (names : List (List ℕ)) (v : Sight) : Type 0 where
  pub own_now : OwnAre own v
  pub listing : Listing
  pub last : v.listing ≡ Some listing
  pub are : listing.names ≡ names
  pub own_then : (n : Name) → own_files (files_after listing.upto) n ≡ own n
  pub sinks_then : (x : Stem) → listed_sinks (Some listing) (files_after listing.upto) x ≡ v.sinks x
  pub there : (name : List ℕ) → Contains names name → IsSome
      (files_after listing.upto (sink_path name))
  pub done : (name : List ℕ) → Contains names name → IsTrue (is_closed name) → IsDoneName name
      (read (sink_path name))

-- after another answer than Ok nothing is said but that the history is legal
abbrev pub SinksListed : List (List ℕ) → (Name → Option File) → Result (List (List ℕ)) OutsideFault
    → History → Type 0
SinksListed stamped own (Ok names) history = AtJob stamped (ShowsSinks own names) history
SinksListed stamped own (Err fault) history = Legal stamped history

-- the one call: it lists the sinks
pub data ListsSinks : Deed → Type 0 where
  lists_sinks : ListsSinks (Lists (codes "sinks"))

-- what the job's own files say by themselves
abbrev pub as_sight : (Name → Option File) → Sight
as_sight own = record { listing = None; own = own; sinks = λ x. None }

-- by these files each chunk of the done sink is archived, or is set aside
abbrev pub IsSavedBy : (Name → Option File) → File → Type 0
IsSavedBy own f =
    (c : Chunk) → Contains (chunks_within chunk_limit f.bytes) c
    → (chunk_end c ≤ c.key.start + length (own_archive (as_sight own) c.key.stream))
    ⊎ Any (λ d. IsTrue (same_data c d)) (own_aside (as_sight own))

-- the last listing showed these names, and each done sink that it showed and that is there may be
-- removed
pub record MayGo (own : Name → Option File) (names : List (List ℕ)) (v : Sight) : Type 0 where
  pub own_now : OwnAre own v
  pub listing : Listing
  pub last : v.listing ≡ Some listing
  pub are : listing.names ≡ names
  pub done : (name : List ℕ) → Contains names name → IsTrue (is_closed name) → IsDoneName name
      (read (sink_path name))
  pub saved : (x : Stem) (f : File) → v.sinks x ≡ Some f → IsSavedBy own f

-- each done sink that it showed is gone, and the job's own files are as they were
pub record HaveGone (own : Name → Option File) (names : List (List ℕ)) (v : Sight) : Type 0 where
  pub own_now : OwnAre own v
  pub listing : Listing
  pub last : v.listing ≡ Some listing
  pub are : listing.names ≡ names
  pub gone : (x : Stem) → v.sinks x ≡ None

-- after another answer than Ok nothing is said but that the history is legal
abbrev pub SinksRemoved : {T : Type 0} → List (List ℕ) → (Name → Option File) → List (List ℕ)
    → Result T OutsideFault → History → Type 0
SinksRemoved stamped own names (Ok value) history = AtJob stamped (HaveGone own names) history
SinksRemoved stamped own names (Err fault) history = Legal stamped history

-- the calls: each removes a done sink that the listing showed
pub data RemovesShown (names : List (List ℕ)) : Deed → Type 0 where
  removes_shown : (name : List ℕ) → Contains names name → IsTrue (is_closed name)
      → RemovesShown names (Removes (sink_path name))
