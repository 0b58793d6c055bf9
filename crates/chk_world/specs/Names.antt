-- The names of files by what they are, how they are spelled, and whose they are.
use Rattle.std.specs.Prelude.{ℕ, Bool, true, false, ◌&&◌, ◌||◌, not, ◌==◌, nat_lt, nat_le, List, [], ◌∷◌, ◌++◌, length, slice_index, codes, decimal, bytes_eq, is_some, if◌then◌else◌, Option, Some, None}
use Rattle.std.specs.Char.{is_ascii_alphanumeric}
use Rattle.std.specs.List.{list_all, list_any}
use Rattle.std.specs.Str.Parse.{digits_value}
use Rattle.chk_bytes.specs.Words.{before_end, behind_front, parts_at}
use Rattle.chk_bytes.specs.Stems.{Stem, is_stem, is_collector, is_count, stem_text, stem_of_parts}
use Rattle.chk_site.specs.declared.acts.Role.{Role}
use Rattle.chk_site.specs.declared.acts.Role.TheVariants.{Agent, Collector, Job, Writer}
use Rattle.chk_site.specs.declared.acts.Who.{Who}
use Rattle.chk_site.specs.declared.lists.Left.{Left}
use Rattle.chk_site.specs.Files.{File, Files}

-- the folders of the job's books
pub data Folder : Type 0 where
  ArchiveFolder : Folder
  DemuxFolder : Folder
  JoinedFolder : Folder

-- what a file is
pub data Name : Type 0 where
  BornFile : List ℕ → Name
  SinkFile : Stem → Name
  MarkFile : Stem → Name
  DoneFile : Stem → Name
  CheckFile : List ℕ → Name
  BookFile : Folder → Name
  SegmentFile : Folder → ℕ → Name
  Temporary : Name → Name
  OtherFile : List ℕ → Name

-- the name of a folder
abbrev pub folder_text : Folder → List ℕ
folder_text ArchiveFolder = codes "archive"
folder_text DemuxFolder = codes "demux"
folder_text JoinedFolder = codes "joined"

-- the text of a name
unfoldable pub spell : Name → List ℕ
spell (BornFile c) = codes "sinks/" ++ (c ++ codes ".born")
spell (SinkFile x) = codes "sinks/" ++ (stem_text x ++ codes ".chukwa")
spell (MarkFile x) = codes "sinks/" ++ (stem_text x ++ codes ".mark")
spell (DoneFile x) = codes "sinks/" ++ (stem_text x ++ codes ".done")
spell (CheckFile source) = codes "agents/" ++ (source ++ codes ".check")
spell (BookFile folder) = folder_text folder ++ codes "/book"
spell (SegmentFile folder n) = folder_text folder ++ (codes "/seg." ++ decimal n)
spell (Temporary n) = spell n ++ codes ".tmp"
spell (OtherFile w) = w

-- 1 to 64 bytes, each a letter, a digit, `_`, `-` or `.`, the first not `.`
abbrev pub is_source : List ℕ → Bool
is_source name =
    nat_lt 0 (length name) && nat_le (length name) 64 && not (slice_index name 0 == 46)
    && list_all (λ b. is_ascii_alphanumeric b || (b == 95 || (b == 45 || b == 46))) name

-- a name that this program gives, without `.tmp`
abbrev pub is_plain_name : Name → Bool
is_plain_name (BornFile c) = is_collector c
is_plain_name (SinkFile x) = is_stem x
is_plain_name (MarkFile x) = is_stem x
is_plain_name (DoneFile x) = is_stem x
is_plain_name (CheckFile source) = is_source source
is_plain_name (BookFile folder) = true
is_plain_name (SegmentFile folder n) = is_count n
is_plain_name n = false

-- one of the files that this program writes
abbrev pub is_known : Name → Bool
is_known (Temporary n) = is_plain_name n
is_known n = is_plain_name n

-- made from the text, where there is one
abbrev pub picked : {A : Type 0} → (List ℕ → A) → Option (List ℕ) → A → A
picked make None next = next
picked make (Some text) next = make text

-- the stem that this would be
abbrev pub guessed_stem : List ℕ → Stem
guessed_stem text = stem_of_parts (parts_at 46 text)

-- the file of `sinks` that this would be
abbrev pub guessed_sink : List ℕ → Name
guessed_sink text =
    picked (λ t. SinkFile (guessed_stem t)) (before_end (codes ".chukwa") text)
    (picked (λ t. MarkFile (guessed_stem t)) (before_end (codes ".mark") text)
    (picked (λ t. DoneFile (guessed_stem t)) (before_end (codes ".done") text)
    (picked BornFile (before_end (codes ".born") text) (OtherFile text))))

-- the file of the job that this would be
abbrev pub guessed_job_file : Folder → List ℕ → Name
guessed_job_file folder text =
    picked (λ t. SegmentFile folder (digits_value 10 t)) (behind_front (codes "seg.") text) (BookFile folder)

-- the name that this would be
abbrev pub guessed_name : List ℕ → Name
guessed_name w =
    picked guessed_sink (behind_front (codes "sinks/") w)
    (picked (λ t. picked CheckFile (before_end (codes ".check") t) (OtherFile w)) (behind_front (codes "agents/") w)
    (picked (guessed_job_file ArchiveFolder) (behind_front (codes "archive/") w)
    (picked (guessed_job_file DemuxFolder) (behind_front (codes "demux/") w)
    (picked (guessed_job_file JoinedFolder) (behind_front (codes "joined/") w) (OtherFile w)))))

-- the name, where it is known and the text is its own
abbrev pub if_spelled : Name → List ℕ → Name
if_spelled n w = if is_known n && bytes_eq (spell n) w then n else OtherFile w

-- the name that a text spells
unfoldable pub read : List ℕ → Name
read w = if_spelled (picked (λ t. Temporary (guessed_name t)) (before_end (codes ".tmp") w) (guessed_name w)) w

-- the file of a name
abbrev pub file : Files → Name → Option File
file files n = files (spell n)

-- the text lies below one of these folders
abbrev pub is_below : List (List ℕ) → List ℕ → Bool
is_below folders w = list_any (λ folder. is_some (behind_front (folder ++ 47 ∷ []) w)) folders

-- what lies below `joined` is the job's, and what lies outside all of the program's folders is a writer's
abbrev pub owns_other : Role → List ℕ → Bool
owns_other Job w = is_below (codes "joined" ∷ []) w
owns_other Writer w =
    not (is_below (codes "sinks" ∷ codes "agents" ∷ codes "archive" ∷ codes "demux" ∷ codes "joined" ∷ []) w)
owns_other role w = false

-- the file belongs to a process of this role and name
abbrev pub owns_by : Role → List ℕ → Name → Bool
owns_by role who (Temporary n) = owns_by role who n
owns_by role who (OtherFile w) = owns_other role w
owns_by Collector who (BornFile c) = bytes_eq who c
owns_by Collector who (SinkFile x) = bytes_eq who x.collector
owns_by Collector who (MarkFile x) = bytes_eq who x.collector
owns_by Collector who (DoneFile x) = bytes_eq who x.collector
owns_by Agent who (CheckFile source) = bytes_eq who source
owns_by Job who (BookFile folder) = true
owns_by Job who (SegmentFile folder n) = true
owns_by _ who n = false

-- the file is this process's
abbrev pub owns : Who → Name → Bool
owns who n = owns_by who.role who.name n

-- the name is that of a done sink
abbrev pub is_done_sink : Name → Bool
is_done_sink (DoneFile x) = true
is_done_sink n = false

-- the file is this process's, and no done sink
abbrev pub owns_open : Who → Name → Bool
owns_open who n = owns who n && not (is_done_sink n)

-- a stop names a file of this process. A done sink doesn't count: a job that is stopped while it removes one names it,
-- and nothing of it can be lost, since all of it is synced
abbrev pub stop_names : Who → List Left → Bool
stop_names who left = list_any (λ l. owns_open who (read l.name)) left
