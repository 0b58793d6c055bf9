-- Words with a space between each two make one line.
use Rattle.std.proofs.Common.{◌≡◌, ℕ, true, ◌&&◌, not, ◌==◌, List, [], ◌∷◌, ◌++◌, refl, ◌∙◌, arith, ◌<◌}
use Rattle.std.specs.Prelude.{IsTrue, decimal, ◌^◌, codes}
use Rattle.std.specs.List.{list_all}
use Rattle.std.proofs.lemmas.Bool.{and_parts, and_from}
use Rattle.std.proofs.lemmas.Bool.Decides.{nat_tests}
use Rattle.std.proofs.lemmas.List.Folds.{list_all-append}
use Rattle.chk_bytes.specs.Words.{lacks, joined_at, is_word}
use Rattle.chk_bytes.proofs.WordLemmas.{is_plain_byte, word_lacks}
use Rattle.chk_bytes.proofs.StemLemmas.{decimal_plain}
use Rattle.chk_world.specs.ArchiveRuns.{is_one_line}

-- a text without a newline, and then one
pub one_line : (text : List ℕ) → IsTrue (lacks 10 text) → IsTrue (is_one_line (text ++ 10 ∷ []))
one_line [] lack = refl
one_line (b ∷ []) lack = and_from (not (b == 10)) true (and_parts (not (b == 10)) true lack).0 refl
one_line (b ∷ c ∷ text) lack =
    let p = and_parts (not (b == 10)) (lacks 10 (c ∷ text)) lack in
    and_from (not (b == 10)) (is_one_line (c ∷ (text ++ 10 ∷ []))) p.0 (one_line (c ∷ text) p.1)

pub joined_lacks : (separator : ℕ) (parts : List (List ℕ)) → IsTrue (not (separator == 10)) → IsTrue (list_all (lacks 10) parts)
    → IsTrue (lacks 10 (joined_at separator parts))
joined_lacks separator [] apart all = refl
joined_lacks separator (part ∷ []) apart all = (and_parts (lacks 10 part) true all).0
joined_lacks separator (part ∷ further ∷ parts) apart all =
    let p = and_parts (lacks 10 part) (list_all (lacks 10) (further ∷ parts)) all in
    list_all-append (λ b. not (b == 10)) part (separator ∷ joined_at separator (further ∷ parts))
    ∙ and_from (lacks 10 part) (not (separator == 10) && lacks 10 (joined_at separator (further ∷ parts))) p.0
    (and_from (not (separator == 10)) (lacks 10 (joined_at separator (further ∷ parts))) apart (joined_lacks separator (further ∷ parts) apart p.1))

plain_apart : (b : ℕ) → is_plain_byte b ≡ true → not (b == 10) ≡ true
plain_apart b h = grind (arith, nat_tests)

plain_lacks : (text : List ℕ) → list_all is_plain_byte text ≡ true → IsTrue (lacks 10 text)
plain_lacks [] h = refl
plain_lacks (b ∷ text) h =
    let p = and_parts (is_plain_byte b) (list_all is_plain_byte text) h in
    and_from (not (b == 10)) (lacks 10 text) (plain_apart b p.0) (plain_lacks text p.1)

pub number_lacks : (n : ℕ) → n < 2 ^ 64 → IsTrue (lacks 10 (decimal n))
number_lacks n low = plain_lacks (decimal n) (decimal_plain n low)

-- none of these words has a newline
pub data Lack : List (List ℕ) → Type 0 where
  none : Lack []
  next : {word : List ℕ} {words : List (List ℕ)} → IsTrue (lacks 10 word) → Lack words
      → Lack (word ∷ words)

pub all_lack : {words : List (List ℕ)} → Lack words → IsTrue (list_all (lacks 10) words)
all_lack none = refl
all_lack (next {word = word} {words = words} one rest) =
    and_from (lacks 10 word) (list_all (lacks 10) words) one (all_lack rest)

pub words_line : {words : List (List ℕ)} → Lack words
    → IsTrue (is_one_line (joined_at 32 words ++ 10 ∷ []))
words_line {words = words} all =
    one_line (joined_at 32 words) (joined_lacks 32 words refl (all_lack all))

-- the line of a stream that was read to this offset
pub stream_line_one : (source kind name : List ℕ) (offset : ℕ) → IsTrue (is_word source)
    → IsTrue (is_word kind) → IsTrue (is_word name) → offset < 2 ^ 64
    → IsTrue (is_one_line
    (joined_at 32 (codes "stream" ∷ source ∷ kind ∷ name ∷ decimal offset ∷ []) ++ 10 ∷ []))
stream_line_one source kind name offset a b c d =
    let all : Lack (codes "stream" ∷ source ∷ kind ∷ name ∷ decimal offset ∷ []) =
    next refl (next (word_lacks 10 source (omega arith) a) (next (word_lacks 10 kind (omega arith) b)
    (next (word_lacks 10 name (omega arith) c) (next (number_lacks offset d) none)))) in
    words_line all
