-- The words of a line and what they stand for.
use Rattle.std.specs.Prelude.{◌≡◌, ℕ, decimal, is_some, Bool, true, false, List, [], ◌∷◌, ◌++◌, codes, Option, Some, None}
use Rattle.chk_bytes.specs.Numbers.{plain_number}
use Rattle.chk_bytes.specs.Words.{parts_at, joined_at}
use Rattle.chk_world.specs.Checkpoints.{Line, Version as Text, One, Two, is_line, fits_version, line_words, after_text, guessed_after}
use Rattle.chk_control.specs.Classes.{class_name, class_named}
use Rattle.chk_checkpoint.specs.Lines.{state_word}
use Rattle.chk_checkpoint.specs.declared.words.Words.{Words}
use Rattle.chk_checkpoint.specs.declared.line.LineRef.{LineRef}
use denote.Ref.{Bor}

-- the words of what is still to come, where there is some
abbrev pub rest_words : Option (Bor (List ℕ)) → List (List ℕ)
rest_words None = []
rest_words (Some text) = parts_at 32 text.now

-- the last word, where there is one
abbrev pub last_words : Option (Bor (List ℕ)) → List (List ℕ)
last_words None = []
last_words (Some word) = word.now ∷ []

-- the words in turn
abbrev pub words_in : Words → List (List ℕ)
words_in w =
    w.state.now ∷ w.name.now ∷ w.equal.now ∷ w.class.now ∷ w.kind.now ∷ w.path.now ∷ w.offset.now ∷ w.first.now
    ∷ w.after.now ∷ last_words w.start

-- the start is the last word of a line
abbrev pub has_start : Text → Bool
has_start One = false
has_start Two = true

-- how many words a line has
abbrev pub count_of : Text → ℕ
count_of One = 9
count_of Two = 10

-- a suffix that is borrowed
abbrev pub lent_after : Option (Bor (List ℕ)) → Option (List ℕ)
lent_after None = None
lent_after (Some suffix) = Some suffix.now

-- the line that is borrowed
abbrev pub lent : LineRef → Line
lent l = record {
  live = l.live;
  name = l.name.now;
  class = l.class;
  kind = l.kind.now;
  path = l.path.now;
  offset = l.offset;
  first = l.first;
  after = lent_after l.after;
  start = l.start;
}

-- the text spells the line in this version, without the newline
pub record IsLineText (v : Text) (text : List ℕ) (l : Line) : Type 0 where
  pub line : is_line l ≡ true
  pub fits : fits_version v l ≡ true
  pub spelled : joined_at 32 (line_words v l) ≡ text

-- these words do
pub record IsLineWords (v : Text) (words : List (List ℕ)) (l : Line) : Type 0 where
  pub line : is_line l ≡ true
  pub fits : fits_version v l ≡ true
  pub spelled : line_words v l ≡ words

-- the start that stands last, or 0
abbrev pub start_in : Option (Bor (List ℕ)) → Option ℕ
start_in None = Some 0
start_in (Some word) = plain_number word.now

-- what each of these words stands for
pub record IsMeaning (v : Text) (w : Words) (l : LineRef) : Type 0 where
  pub live : state_word l.live ≡ w.state.now
  pub class : class_named w.class.now ≡ Some l.class
  pub after : after_text (lent_after l.after) ≡ w.after.now
  pub after_is : lent_after l.after ≡ guessed_after w.after.now
  pub offset : plain_number w.offset.now ≡ Some l.offset
  pub first : plain_number w.first.now ≡ Some l.first
  pub start : start_in w.start ≡ Some l.start
  pub has : is_some w.start ≡ has_start v
  pub name : l.name ≡ w.name
  pub kind : l.kind ≡ w.kind
  pub path : l.path ≡ w.path

-- the start behind a space, where the version has it
abbrev pub start_end : Text → ℕ → List ℕ
start_end One start = []
start_end Two start = 32 ∷ decimal start

-- the words that say which stream it is, each with a space
abbrev pub stream_text : Line → List ℕ
stream_text l =
    state_word l.live ++ 32 ∷ (l.name ++ 32 ∷ (codes "=" ++ 32 ∷ (class_name l.class ++ 32 ∷ (l.kind ++ 32 ∷ (l.path ++ 32 ∷ [])))))

-- the words that say up to where it is committed, with the newline
abbrev pub place_text : Text → Line → List ℕ
place_text v l =
    decimal l.offset ++ 32 ∷ (decimal l.first ++ 32 ∷ (after_text l.after ++ (start_end v l.start ++ 10 ∷ [])))
