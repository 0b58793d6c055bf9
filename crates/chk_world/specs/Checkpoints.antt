-- Checkpoints: one line for each stream that an agent has read.
use Rattle.std.specs.Prelude.{ℕ, Bool, true, false, ◌&&◌, ◌||◌, not, ◌==◌, nat_eq, nat_lt, nat_le, List, [], ◌∷◌, ◌++◌, length, map, codes, decimal, bytes_eq, if◌then◌else◌, Option, Some, None, find, unwrap_or, ◌≡◌, Contains}
use Rattle.std.specs.List.{list_all, list_any}
use Rattle.std.specs.Str.Parse.{digits_value}
use Rattle.chk_bytes.specs.Numbers.{limit}
use Rattle.chk_bytes.specs.Words.{is_word, parts_at, joined_at, joined, spelling}
use Rattle.chk_control.specs.declared.Class.{Class}
use Rattle.chk_control.specs.declared.Class.TheVariants.{Plain}
use Rattle.chk_control.specs.Classes.{class_name, class_named, is_plain}
use Rattle.chk_control.specs.Lines.{is_name}
use Rattle.chk_site.specs.Files.{File, Files}
use Rattle.chk_site.specs.Suffixes.{is_suffix}
use Rattle.chk_chunk.specs.Keys.{Stream, start_limit}
use Rattle.chk_world.specs.Names.{CheckFile, file}

-- a line: the adaptor, the stream's type and path, its place and its start
pub record Line : Type 0 where
  pub live : Bool
  pub name : List ℕ
  pub class : Class
  pub kind : List ℕ
  pub path : List ℕ
  pub offset : ℕ
  pub first : ℕ
  pub after : Option (List ℕ)
  pub start : ℕ

-- how the suffix of a place stands in a line
abbrev pub after_text : Option (List ℕ) → List ℕ
after_text None = codes "-"
after_text (Some suffix) = suffix

-- a version of the text; in the second one each line ends with the start
pub data Version : Type 0 where
  One : Version
  Two : Version

-- the first line
abbrev pub version_text : Version → List ℕ
version_text One = codes "chukwa-checkpoint 1"
version_text Two = codes "chukwa-checkpoint 2"

-- the start as a last word, where the version has it
abbrev pub start_words : Version → ℕ → List (List ℕ)
start_words One start = []
start_words Two start = decimal start ∷ []

-- the words of a line
abbrev pub line_words : Version → Line → List (List ℕ)
line_words v l =
    (if l.live then codes "add" else codes "past") ∷ l.name ∷ codes "=" ∷ class_name l.class ∷ l.kind ∷ l.path
    ∷ decimal l.offset ∷ decimal l.first ∷ after_text l.after ∷ start_words v l.start

-- a line
abbrev pub line_text : Version → Line → List ℕ
line_text v l = joined_at 32 (line_words v l) ++ 10 ∷ []

-- the whole text
abbrev pub checkpoint_text : Version → List Line → List ℕ
checkpoint_text v lines = version_text v ++ 10 ∷ joined (map (line_text v) lines)

-- none, or a suffix
abbrev pub is_after_text : Option (List ℕ) → Bool
is_after_text None = true
is_after_text (Some suffix) = is_suffix suffix

-- there is none
abbrev pub is_absent : Option (List ℕ) → Bool
is_absent None = true
is_absent (Some suffix) = false

-- a line that reads the base file alone begins with its start
abbrev pub is_line : Line → Bool
is_line l =
    is_name l.name && (is_word l.kind && (is_word l.path && (is_after_text l.after && (nat_lt l.start start_limit
    && (nat_le l.start l.first && (nat_le l.first l.offset && (nat_lt l.offset limit
    && (not (is_plain l.class) || (is_absent l.after && nat_eq l.first l.start)))))))))

-- both lines have one type and path
abbrev pub same_log : Line → Line → Bool
same_log l m = bytes_eq l.kind m.kind && bytes_eq l.path m.path

-- both lines can't stand in one checkpoint
abbrev pub clash : Line → Line → Bool
clash l m = same_log l m || (l.live && (m.live && bytes_eq l.name m.name))

-- no two live lines have one name, and no two lines one type and path
abbrev pub are_apart : List Line → Bool
are_apart [] = true
are_apart (l ∷ lines) = not (list_any (clash l) lines) && are_apart lines

-- the version says all of the line
abbrev pub fits_version : Version → Line → Bool
fits_version One l = l.start == 0
fits_version Two l = true

-- the most lines of a checkpoint
abbrev pub most_lines : ℕ
most_lines = 10000

-- lines that this version can spell
abbrev pub are_lines : Version → List Line → Bool
are_lines v lines =
    nat_le (length lines) most_lines && (list_all is_line lines && (list_all (fits_version v) lines && are_apart lines))

-- the first version is written where it says all
abbrev pub written_version : List Line → Version
written_version lines = if list_all (fits_version One) lines then One else Two

-- the suffix that this word would be
abbrev pub guessed_after : List ℕ → Option (List ℕ)
guessed_after text = if bytes_eq text (codes "-") then None else Some text

-- the start that would stand last
abbrev pub guessed_start : List (List ℕ) → ℕ
guessed_start [] = 0
guessed_start (start ∷ words) = digits_value 10 start

-- the line that these words would be
abbrev pub guessed_line : List (List ℕ) → Option Line
guessed_line (state ∷ name ∷ equal ∷ class ∷ kind ∷ path ∷ offset ∷ first ∷ after ∷ rest) = Some (record {
  live = bytes_eq state (codes "add");
  name = name;
  class = unwrap_or (class_named class) Plain;
  kind = kind;
  path = path;
  offset = digits_value 10 offset;
  first = digits_value 10 first;
  after = guessed_after after;
  start = guessed_start rest;
})
guessed_line _ = None

-- the lines between the first one and the empty text behind the last newline
abbrev pub guessed_lines : List (List ℕ) → List Line
guessed_lines [] = []
guessed_lines (text ∷ texts) =
    elim (guessed_line (parts_at 32 text)) [ Some l ↦ l ∷ guessed_lines texts | None ↦ guessed_lines texts ]

-- the version that the first line names
abbrev pub guessed_version : List (List ℕ) → Version
guessed_version [] = One
guessed_version (text ∷ texts) = if bytes_eq text (version_text Two) then Two else One

-- all but the first line
abbrev pub behind_first : List (List ℕ) → List (List ℕ)
behind_first [] = []
behind_first (text ∷ texts) = texts

-- the lines of a checkpoint, where the text is one
unfoldable pub read_checkpoint : List ℕ → Option (List Line)
read_checkpoint text =
    let v = guessed_version (parts_at 10 text) in
    spelling (are_lines v) (checkpoint_text v) (guessed_lines (behind_first (parts_at 10 text))) text

-- the lines of a file
abbrev pub lines_in : Option File → List Line
lines_in None = []
lines_in (Some f) = unwrap_or (read_checkpoint f.bytes) []

-- the lines of an agent's checkpoint file
abbrev pub checkpoint_lines : Files → List ℕ → List Line
checkpoint_lines files source = lines_in (file files (CheckFile source))

-- the line is the stream's
abbrev pub is_line_of : Stream → Line → Bool
is_line_of s l = bytes_eq s.kind l.kind && bytes_eq s.name l.path

-- the line of a stream in its agent's checkpoint file
abbrev pub line_of : Files → Stream → Option Line
line_of files s = find (is_line_of s) (checkpoint_lines files s.source)

-- the line's offset, or 0
abbrev pub offset_in : Option Line → ℕ
offset_in None = 0
offset_in (Some l) = l.offset

-- the offset of a stream in the checkpoint file, or 0
abbrev pub checkpoint_of : Files → Stream → ℕ
checkpoint_of files s = offset_in (line_of files s)

-- a live line of this type and path
pub record HasLiveLine (kind path : List ℕ) (lines : List Line) : Type 0 where
  pub line : Line
  pub one : Contains lines line
  pub live : line.live ≡ true
  pub kind_is : line.kind ≡ kind
  pub path_is : line.path ≡ path
