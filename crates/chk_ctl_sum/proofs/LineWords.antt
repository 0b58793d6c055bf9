-- The line of a stream is one line, and so it is put together.
use Rattle.std.proofs.Common.{◌≡◌, ℕ, ◌+◌, ◌<◌, ◌≤◌, ◌^◌, ◌⊎◌, inl, inr, true, List, [], ◌∷◌, length, map, drop, refl, ap, ap₂, ◌∙◌, arith, get_or, zero, suc}
use Rattle.std.specs.Prelude.{IsTrue, slice_index, ◌/◌, ◌%◌, ◌==◌, not, min}
use Rattle.std.proofs.lemmas.List.{drop_all}
use Rattle.std.proofs.lemmas.Bool.{and_from, and_parts}
use Rattle.chk_bytes.specs.Words.{is_word, lacks}
use Rattle.chk_bytes.proofs.WordLemmas.{word_lacks}
use Rattle.chk_world.specs.ArchiveRuns.{is_one_line}
use Rattle.chk_world.specs.Books.{End}
use Rattle.chk_book.specs.Views.{end_view}
use Rattle.chk_book.specs.declared.lists.End.{End as EndStruct}
use Rattle.chk_cmd_output.proofs.OneLine.{Lack, none, next, number_lacks, words_line}
use Rattle.hex.specs.Hex.{encode_with, encode_lower, lower_digits}
use Rattle.chk_ctl_sum.specs.Lines.{line_of, sum_line, sum_lines, sum_words}
use Rattle.chk_record_index.proofs.InTurn.{next_of}

-- ---- hex digits have no newline

digit_apart : (t : List ℕ) (d : ℕ) → IsTrue (lacks 10 t) → not (slice_index t d == 10) ≡ true
digit_apart [] d h = refl
digit_apart (b ∷ t) zero h = (and_parts (not (b == 10)) (lacks 10 t) h).0
digit_apart (b ∷ t) (suc d) h =
    digit_apart t d (and_parts (not (b == 10)) (lacks 10 t) h).1

pub digits_lack : (bytes : List ℕ) → IsTrue (lacks 10 (encode_lower bytes))
unfolding encode_with
digits_lack [] = refl
digits_lack (b ∷ rest) =
    let high = slice_index lower_digits (b / 16) in
    let low = slice_index lower_digits (b % 16) in
    and_from (not (high == 10)) (lacks 10 (low ∷ encode_lower rest))
    (digit_apart lower_digits (b / 16) refl)
    (and_from (not (low == 10)) (lacks 10 (encode_lower rest))
    (digit_apart lower_digits (b % 16) refl) (digits_lack rest))

-- ---- the line

pub words_one : (source kind name : List ℕ) (start end : ℕ) (digest : List ℕ)
    → IsTrue (is_word source) → IsTrue (is_word kind) → IsTrue (is_word name) → start < 2 ^ 64
    → end < 2 ^ 64
    → IsTrue (is_one_line
    (line_of (sum_words source kind name start end (encode_lower digest))))
words_one source kind name start end digest a b c d e =
    let all : Lack (sum_words source kind name start end (encode_lower digest)) =
    next refl (next (word_lacks 10 source (omega arith) a)
    (next (word_lacks 10 kind (omega arith) b) (next (word_lacks 10 name (omega arith) c) (next refl (next (number_lacks start d)
    (next refl (next (number_lacks end e) (next refl (next (digits_lack digest) none))))))))) in
    words_line all

-- ---- the lines from a place on

-- those of these streams and digests, from a place on
abbrev pub lines_from : List EndStruct → List (List ℕ) → ℕ → List (List ℕ)
lines_from ends digests i = sum_lines (map end_view (drop i ends)) (drop i digests)

pub lines_next : (ends : List EndStruct) (digests : List (List ℕ)) (i : ℕ) (e : EndStruct)
    (d : List ℕ) → i < length ends → i < length digests → e ≡ get_or ends i e
    → d ≡ get_or digests i d
    → lines_from ends digests i ≡ sum_line (end_view e) d ∷ lines_from ends digests (i + 1)
lines_next ends digests i e d low high one other =
    ap₂ (λ (es : List EndStruct) (ds : List (List ℕ)). sum_lines (map end_view es) ds)
    (next_of ends i e low one) (next_of digests i d high other)

no_digests : (ends : List End) → sum_lines ends [] ≡ []
no_digests [] = refl
no_digests (e ∷ ends) = refl

pub lines_none : (ends : List EndStruct) (digests : List (List ℕ)) (i : ℕ)
    → min (length ends) (length digests) ≤ i → lines_from ends digests i ≡ []
lines_none ends digests i past = go (one_of (length ends) (length digests) i past)
  where
    one_of : (p q k : ℕ) → min p q ≤ k → (p ≤ k) ⊎ (q ≤ k)
    one_of p q k h = grind arith

    go : (length ends ≤ i) ⊎ (length digests ≤ i) → lines_from ends digests i ≡ []
    go (inl low) =
        ap (λ (es : List EndStruct). sum_lines (map end_view es) (drop i digests))
        (drop_all i ends low)
    go (inr low) =
        ap (λ (ds : List (List ℕ)). sum_lines (map end_view (drop i ends)) ds)
        (drop_all i digests low)
        ∙ no_digests (map end_view (drop i ends))

-- a place below the lesser length is one of both
pub below_both : (p q m i : ℕ) → m ≡ min p q → i < m → (i < p) × (i < q)
below_both p q m i is low = (grind arith, grind arith)
