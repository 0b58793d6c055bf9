-- What the job knows of the told history: its last listing, all its own files, and the done sinks
-- of that listing.
use Rattle.std.specs.Prelude.{◌≡◌, ℕ, Bool, true, false, ◌&&◌, List, ◌∷◌, ◌++◌, bytes_eq, codes, flat_map, Option, Some, None, if◌then◌else◌}
use Rattle.std.specs.List.{list_any}
use Rattle.chk_bytes.specs.Stems.{Stem, is_stem, stem_text}
use Rattle.chk_site.specs.declared.acts.Role.TheVariants.{Job}
use Rattle.chk_site.specs.declared.acts.Who.{Who}
use Rattle.chk_site.specs.Files.{File, Files}
use Rattle.chk_site.specs.History.{Step, History, files_after}
use Rattle.chk_world.specs.Names.{Folder, ArchiveFolder, Name, BookFile, SegmentFile, DoneFile, Temporary, file, is_known}
use Rattle.chk_world.specs.ArchiveRuns.{Listing, last_listing}
use Rattle.chk_chunk.specs.Keys.{Stream, Chunk}
use Rattle.chk_world.specs.Books.{Segment, Book, book_in, chunks_in, chunks_of_stream, values}
use Rattle.chk_world.specs.Jobs.{segment_list}
use Rattle.chk_world.specs.Rules.{Legal}
use Rattle.chk_world.specs.Places.{Foreign, AtTold}

-- the job
abbrev pub job : Who
job = record { role = Job; name = codes "job" }

-- a book, a segment, or the next content of one
abbrev pub is_job_file : Name → Bool
is_job_file (BookFile folder) = true
is_job_file (SegmentFile folder k) = true
is_job_file (Temporary n) = is_job_file n
is_job_file n = false

-- the job's own files
abbrev pub own_files : Files → Name → Option File
own_files files n = if is_job_file n && is_known n then file files n else None

-- the listing shows the done sink of this stem
abbrev pub shows_done : Option Listing → Stem → Bool
shows_done None x = false
shows_done (Some l) x = is_stem x && list_any (bytes_eq (stem_text x ++ codes ".done")) l.names

-- the done sinks that it shows, as they are now
abbrev pub listed_sinks : Option Listing → Files → Stem → Option File
listed_sinks l files x = if shows_done l x then file files (DoneFile x) else None

pub record Sight : Type 0 where
  pub listing : Option Listing
  pub own : Name → Option File
  pub sinks : Stem → Option File

abbrev pub sight : History → Sight
sight history = record {
  listing = last_listing history;
  own = own_files (files_after history);
  sinks = listed_sinks (last_listing history) (files_after history);
}

-- the history is legal, and where the site wasn't stopped P holds of what the job knows
abbrev pub AtJob : List (List ℕ) → (Sight → Type 0) → History → Type 0
AtJob stamped P history = AtTold stamped job (λ h. P (sight h)) history

-- the book, the archive of a stream and what is set aside, by what the job knows
abbrev pub own_book : Sight → Folder → Book
own_book v folder = book_in (v.own (BookFile folder))

abbrev pub own_chunks : Sight → Folder → List Segment → List Chunk
own_chunks v folder gs = flat_map (λ (g : Segment). chunks_in (v.own (SegmentFile folder g.number))) gs

abbrev pub own_archive : Sight → Stream → List ℕ
own_archive v s = values (chunks_of_stream s (own_chunks v ArchiveFolder (own_book v ArchiveFolder).segments))

abbrev pub own_aside : Sight → List Chunk
own_aside v = own_chunks v ArchiveFolder (segment_list (own_book v ArchiveFolder).aside)

-- a step of others leaves all that the job knows
abbrev pub OthersLeaveSight : Type 0
OthersLeaveSight =
    (stamped : List (List ℕ)) (history : History) (step : Step) → Legal stamped history → Foreign stamped job history step
    → sight (step ∷ history) ≡ sight history
