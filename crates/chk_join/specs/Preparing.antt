-- What a join comes to before its book is published.
use Rattle.std.specs.Prelude.{◌≡◌, ◌⊎◌, ℕ, ◌-◌, ◌^◌, IsTrue, List, [], ◌∷◌, length, map, flat_map}
use Rattle.std.specs.Prelude.{Contains, Result, Ok, Err, Some, None}
use Rattle.chk_bytes.specs.Numbers.{last_number}
use Rattle.chk_site.specs.Files.{File, Files}
use Rattle.chk_site.specs.History.{History}
use Rattle.chk_bytes.specs.Stems.{is_count}
use Rattle.chk_chunk.specs.Keys.{Stream, Chunk, chunk_limit}
use Rattle.chk_world.specs.Names.{JoinedFolder, SegmentFile}
use Rattle.chk_world.specs.Books.{Segment, End, Book, AllChunks, chunks_within, ends_rise}
use Rattle.chk_world.specs.Rules.{Legal}
use Rattle.chk_world.specs.Sight.{Sight, AtJob}
use Rattle.chk_world.proofs.Each.{Each}
use Rattle.chk_record_index.specs.Order.{in_head_order}
use Rattle.chk_record_index.specs.declared.fault.JobFault.{JobFault}
use Rattle.chk_record_index.specs.declared.fault.JobFault.TheVariants.{Outside, Damaged, Spent, NoMemory}
use Rattle.chk_book.specs.Books.{book_view}
use Rattle.chk_book.specs.Views.{end_view}
use Rattle.chk_book.specs.Folders.{book_name, most_in}
use Rattle.chk_book.specs.Loaded.{IsBookOf, file_bytes}
use Rattle.chk_record_reader.specs.Segments.{names_of, AreSettled, heads_from}
use Rattle.chk_record_reader.specs.Merging.{AreApart}
use Rattle.chk_record_reader.specs.Archives.{IsDamagedAt}
use Rattle.chk_join_sources.specs.declared.gathering.Side.{Side}
use Rattle.chk_join_sources.specs.declared.plan.Plan.{Plan}
use Rattle.chk_join_sources.specs.declared.difference.Difference.{Difference}
use Rattle.chk_join_sources.specs.Pairs.{Pair}
use Rattle.chk_join_sources.specs.Plans.{IsPlanOf}
use Rattle.chk_join_sources.specs.Differing.{PairAgrees, FirstDiffers as FirstPairDiffers}
use Rattle.chk_join_sources.specs.Reading.{AreAmong}
use Rattle.chk_join_sources.specs.Copying.{joined_segment, chosen_chunks}
use Rattle.chk_join.specs.Archives.{Archive, join, Agree}
use Rattle.chk_join.specs.Runs.{AreRuns, IsAlone, bytes_of}
use Rattle.chk_join.specs.Joined.{archive_with, archive_by, archive_in, folder_book, joined_folder}
use Rattle.chk_join.specs.Joined.{records_of_book, records_in, AreJoined, RunsAll, FirstDiffers}
use Rattle.chk_join.specs.Joined.{ReadsWell, AllReadWell, IsDamagedIn}
use Rattle.chk_join.specs.declared.preparing.Prepared.{Prepared}
use Rattle.chk_join.specs.declared.preparing.Prepared.TheVariants.{Ready, Differs}
use Rattle.chk_join.specs.declared.report.JoinReport.{JoinReport}

-- the stream of a difference
abbrev pub stream_of : Difference → Stream
stream_of d = record { source = d.source; kind = d.kind; name = d.name }

-- the report counts the streams of the book
abbrev pub IsCounted : Prepared → Type 0
IsCounted (Ready b r) = r.streams ≡ length (book_view b).ends
IsCounted (Differs d) = Unit {0}

-- the number is spent exactly where it is the last one, and there is a stream; without memory nothing is said
abbrev pub SpentPlan : {T : Type 0} → ℕ → List End → Result T JobFault → Type 0
SpentPlan next es (Err (Spent n)) = (n ≡ last_number) × ((next ≡ last_number) × (es ≡ [] → ⊥))
SpentPlan next es (Err NoMemory) = Unit {0}
SpentPlan next es (Err (Outside call)) = next ≡ last_number → es ≡ []
SpentPlan next es (Err (Damaged name at)) = next ≡ last_number → es ≡ []
SpentPlan next es (Ok value) = next ≡ last_number → es ≡ []

-- the chosen records were written as one segment, where there is a stream, and run as these ends say
abbrev pub WrotePlan : ℕ → List Chunk → List End → Result Book JobFault → History → Type 0
WrotePlan next chunks es (Ok b) history = IsAlone next es b chunks history × AreRuns es chunks
WrotePlan next chunks es (Err (Damaged name at)) history = ⊥
WrotePlan next chunks es (Err fault) history = Unit {0}

-- some records were, whatever the files were
abbrev pub StoodPlan : ℕ → List End → Result Book JobFault → History → Type 0
StoodPlan next es (Ok b) history = (cs : List Chunk) × (AreRuns es cs × IsAlone next es b cs history)
StoodPlan next es (Err fault) history = Unit {0}

-- the same of a plan, whose ends the book has
abbrev pub TookPlan : ℕ → List Chunk → Plan → Result Prepared JobFault → History → Type 0
TookPlan next chunks plan (Ok (Ready b r)) history =
    IsAlone next (book_view b).ends (book_view b) chunks history
    × (AreRuns (book_view b).ends chunks × (((book_view b).ends ≡ map end_view plan.ends) × (r.bytes ≡ plan.bytes)))
TookPlan next chunks plan (Ok (Differs d)) history = ⊥
TookPlan next chunks plan (Err (Damaged name at)) history = ⊥
TookPlan next chunks plan (Err fault) history = Unit {0}

-- at Ok the segment is written that the book names, where it names one, and the records run as it says; whatever the files were
abbrev pub StandsReady : ℕ → Result Prepared JobFault → History → Type 0
StandsReady next (Ok (Ready b r)) history =
    (cs : List Chunk) × (AreRuns (book_view b).ends cs × IsAlone next (book_view b).ends (book_view b) cs history)
StandsReady next (Ok (Differs d)) history = Unit {0}
StandsReady next (Err fault) history = Unit {0}

-- by what the job knows: the segment that the book names is there, whole and synced, and has these chunks
pub record HoldsSegmentSo (g : Segment) (chunks : List Chunk) (v : Sight) : Type 0 where
  pub count : IsTrue (is_count g.number)
  pub f : File
  pub there : v.own (SegmentFile JoinedFolder g.number) ≡ Some f
  pub length_is : length f.bytes ≡ g.length
  pub synced_is : f.synced ≡ g.length
  pub form : AllChunks chunk_limit f.bytes
  pub are : chunks_within chunk_limit f.bytes ≡ chunks

-- the same of the one segment, or there is none, and there are no chunks
abbrev pub HoldsAlone : Book → List Chunk → Sight → Type 0
HoldsAlone b chunks v =
    (b.aside ≡ None) × (((b.segments ≡ []) × (chunks ≡ []))
    ⊎ ((g : Segment) × ((b.segments ≡ g ∷ []) × HoldsSegmentSo g chunks v)))

-- the streams of the book stand in byte order
abbrev pub HasOrder : Book → Type 0
HasOrder b = IsTrue (ends_rise b.ends)

-- the heads of all records that the folder's book names, in order
pub record IsGathered (folder : List ℕ) (b : Book) (files : Files) (side : Side) : Type 0 where
  pub names_are : side.names.now ≡ names_of folder b
  pub runs : RunsAll folder b files
  pub heads_are : side.heads.now ≡ in_head_order (heads_from (most_in folder) files 0 (names_of folder b))

-- the plan was written: the book has its ends, and one segment with the chosen records, or none
pub record IsPlanned (next : ℕ) (l r : Side) (held : Files) (ps : List Pair) (b : Book) (report : JoinReport)
    (history : History) : Type 0 where
  pub plan : Plan
  pub is : IsPlanOf l.heads.now r.heads.now ps plan
  pub ends : b.ends ≡ map end_view plan.ends
  pub bytes : report.bytes ≡ plan.bytes
  pub chunks : List Chunk
  pub are : chunks ≡ flat_map (chosen_chunks l r held) plan.choices.items
  pub alone : IsAlone next b.ends b chunks history
  pub runs : AreRuns b.ends chunks
  pub unspent : next ≡ last_number → b.ends ≡ []

-- at Ok all pairs are alike, and the plan of them was written, or the first one that isn't differs there; the number was spent only
-- where it is the last one, and there is a stream
abbrev pub JoinedSides : Files → ℕ → Side → Side → List Pair → Result Prepared JobFault → History → Type 0
JoinedSides held next l r ps (Ok (Ready b report)) history =
    Each (PairAgrees l r held) ps × (IsPlanned next l r held ps (book_view b) report history)
JoinedSides held next l r ps (Ok (Differs d)) history = FirstPairDiffers l r held ps d
JoinedSides held next l r ps (Err (Damaged name at)) history = ⊥
JoinedSides held next l r ps (Err (Spent n)) history =
    Each (PairAgrees l r held) ps × ((n ≡ last_number) × ((next ≡ last_number) × (ps ≡ [] → ⊥)))
JoinedSides held next l r ps (Err fault) history = Unit {0}

-- the same of the archives that both sides are, which have these records
abbrev pub JoinsAs : Archive → Archive → List Chunk → List Chunk → ℕ → Result Prepared JobFault
    → History → Type 0
JoinsAs A B xs ys next (Ok (Ready b r)) history =
    Agree A B × ((cs : List Chunk) × (IsAlone next (book_view b).ends (book_view b) cs history
    × (((s : Stream) → archive_with (book_view b) cs s ≡ join A B s) × ((r.bytes ≡ bytes_of cs)
    × ((next ≡ last_number → (book_view b).ends ≡ [])
    × (AreJoined A B xs ys cs × AreRuns (book_view b).ends cs))))))
JoinsAs A B xs ys next (Ok (Differs d)) history = FirstDiffers A B (stream_of d) d.at
JoinsAs A B xs ys next (Err (Spent n)) history =
    Agree A B × ((n ≡ last_number) × ((next ≡ last_number) × ((s : Stream) × (join A B s ≡ None → ⊥))))
JoinsAs A B xs ys next (Err fault) history = Unit {0}

-- the records of both folders run as their books say, and were joined; damage is of one of them
abbrev pub JoinedBooks : Files → List ℕ → Book → List ℕ → Book → ℕ → Result Prepared JobFault → History → Type 0
JoinedBooks held left a right b next (Err (Damaged name at)) history =
    (s : Stream) × (IsDamagedAt left a held s name at ⊎ IsDamagedAt right b held s name at)
JoinedBooks held left a right b next (Err (Outside call)) history = Unit {0}
JoinedBooks held left a right b next (Err NoMemory) history = Unit {0}
JoinedBooks held left a right b next result history =
    RunsAll left a held × (RunsAll right b held
    × JoinsAs (archive_by left a held) (archive_by right b held)
    (records_of_book left a held) (records_of_book right b held) next result history)

-- the files stand that hold both archives, and the job's segments aren't among them
pub record Covers (all : List (List ℕ)) (held : Files) (left right : List ℕ) : Type 0 where
  pub settled : AreSettled all held
  pub apart : (k : ℕ) → AreApart all (joined_segment k)
  pub left_book : Contains all (book_name left)
  pub right_book : Contains all (book_name right)
  pub left_names : AreAmong all (names_of left (folder_book held left))
  pub right_names : AreAmong all (names_of right (folder_book held right))

-- this is the folder's book
pub record IsFolderBook (held : Files) (folder : List ℕ) (b : Book) : Type 0 where
  pub is : b ≡ folder_book held folder
  pub book : IsBookOf (file_bytes (held (book_name folder))) b

-- both folders were read, and joined
abbrev pub PreparedFrom : Files → List ℕ → List ℕ → ℕ → Result Prepared JobFault → History → Type 0
PreparedFrom held left right next (Err (Damaged name at)) history = IsDamagedIn held left right name at
PreparedFrom held left right next (Err (Outside call)) history = Unit {0}
PreparedFrom held left right next (Err NoMemory) history = Unit {0}
PreparedFrom held left right next result history =
    ReadsWell held left
    × (ReadsWell held right × JoinsAs (archive_in held left) (archive_in held right)
    (records_in held left)
    (records_in held right) next result history)

-- all three folders were read
abbrev pub PreparedSo : Files → List ℕ → List ℕ → Result Prepared JobFault → History → Type 0
PreparedSo held left right (Err (Damaged name at)) history = IsDamagedIn held left right name at
PreparedSo held left right (Err (Outside call)) history = Unit {0}
PreparedSo held left right (Err NoMemory) history = Unit {0}
PreparedSo held left right result history =
    AllReadWell held left right
    × JoinsAs (archive_in held left) (archive_in held right) (records_in held left)
    (records_in held right)
    (folder_book held joined_folder).next result history

-- at Ok the book may be published, or nothing is to be done; else the history is legal
abbrev pub PreparedLegal : List (List ℕ) → Result Prepared JobFault → History → Type 0
PreparedLegal stamped (Ok (Ready b r)) history =
    AtJob stamped (λ v. (cs : List Chunk) × (AreRuns (book_view b).ends cs × HoldsAlone (book_view b) cs v)) history
PreparedLegal stamped result history = Legal stamped history
