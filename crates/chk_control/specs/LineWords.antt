-- The words of a line.
use Rattle.std.specs.Prelude.{◌≡◌, ℕ, ◌&&◌, ◌||◌, ◌==◌, nat_le, Bool, true, false, List, [], ◌∷◌, length, filter, unwrap_or, IsTrue}
use Rattle.std.specs.List.{slice_split, list_all, All}
use Rattle.std.specs.Str.{is_utf8}
use Rattle.chk_bytes.specs.Words.{is_word, is_word_byte, before_end}

-- a space or a tab
abbrev pub is_gap : ℕ → Bool
is_gap b = b == 32 || b == 9

-- it has a byte
abbrev pub has_byte : List ℕ → Bool
has_byte [] = false
has_byte (b ∷ part) = true

-- the words of a line: what stands between its spaces and tabs, where that isn't empty
unfoldable pub words_of : List ℕ → List (List ℕ)
words_of line = filter has_byte (slice_split is_gap line)

-- a line without the one carriage return at its end
abbrev pub without_return : List ℕ → List ℕ
without_return line = unwrap_or (before_end (13 ∷ []) line) line

-- short enough, and without a control byte
abbrev pub is_plain_word : List ℕ → Bool
is_plain_word word = nat_le (length word) 4096 && list_all is_word_byte word

-- in a line of UTF-8 just the plain words are good ones
abbrev pub PlainWordsAreGood : Type 0
PlainWordsAreGood =
    (line : List ℕ) → IsTrue (is_utf8 line)
    → All (λ word. is_word word ≡ is_plain_word word) (words_of line)
