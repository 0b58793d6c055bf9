-- Texts with separators say their parts: stems, queries and the lines of a reply are spelled in one way.
use Rattle.std.proofs.Common.{subst, ◌≡◌, ℕ, true, IsTrue, List, [], ◌∷◌, ◌++◌, length, refl, ap, sym, ◌∙◌, arith, append_assoc, length-append, ◌≤◌, ◌<◌}
use Rattle.std.specs.Prelude.{decimal, not, ◌==◌, nat_lt}
use Rattle.std.specs.List.{list_all}
use Rattle.std.proofs.lemmas.Bool.{and_parts, ne_eqb, ltb-true}
use Rattle.std.proofs.lemmas.Fmt.{decimal_injective}
use Rattle.chk_bytes.specs.Numbers.{limit}
use Rattle.chk_bytes.specs.Words.{lacks}
use Rattle.chk_bytes.specs.Stems.{Stem, is_stem, stem_text, read_stem}
use Rattle.chk_bytes.proofs.PartLemmas.{lacks-separator, same_split}
use Rattle.chk_bytes.proofs.StemLemmas.{stem_facts, read_stem-stem_text}
use Rattle.std.proofs.lemmas.Option.{same_Some}
use Rattle.chk_http_grammar.specs.Messages.{query_text, Ack, ack_of, is_ack, ack_text, acks_text}
use Rattle.chk_http_grammar.proofs.Texts.{is_between, list_all-weaker, decimal_between, stem_between}

-- a text without the separator is no text with it
pub unparted : (c : ℕ) (p q r : List ℕ) → IsTrue (lacks c q) → p ++ c ∷ r ≡ q → ⊥
unparted c p q r q_lacks e = lacks-separator c p r (subst (λ t. IsTrue (lacks c t)) (sym e) q_lacks)

other_from_between : (c low high : ℕ) (xs : List ℕ) → c ≤ low → list_all (is_between low high) xs ≡ true → IsTrue (lacks c xs)
other_from_between c low high xs below pass =
    list_all-weaker (is_between low high) (λ b. not (b == c)) (λ b e. above b (ltb-true low b (and_parts (nat_lt low b) (nat_lt b high) e).0)) xs pass
  where
    above : (b : ℕ) → low < b → not (b == c) ≡ true
    above b more = ap not (ne_eqb b c (λ same. omega arith))

-- a number has no space, line end or dot
pub no_mark : (c n : ℕ) → c ≤ 47 → n < limit → IsTrue (lacks c (decimal n))
no_mark c n below small = other_from_between c 47 58 (decimal n) below (decimal_between n (omega arith))

pub stem_text-same : (x y : Stem) → IsTrue (is_stem x) → IsTrue (is_stem y) → stem_text x ≡ stem_text y → x ≡ y
stem_text-same x y x_is y_is e =
    same_Some x y (sym (read_stem-stem_text x x_is) ∙ (ap read_stem e ∙ read_stem-stem_text y y_is))

-- no stem has an `&`, a space or a line end
pub no_mark_in_stem : (c : ℕ) (x : Stem) → c ≤ 38 → IsTrue (is_stem x) → IsTrue (lacks c (stem_text x))
no_mark_in_stem c x below x_is = other_from_between c 38 127 (stem_text x) below (stem_between x x_is)

some_text : (x : Stem) → IsTrue (is_stem x) → stem_text x ≡ [] → ⊥
some_text x x_is e =
    let f = stem_facts x x_is in
    omega (arith, ap length e, length-append x.collector (46 ∷ (decimal x.born ++ 46 ∷ decimal x.number)))

pub query_text-same : (xs ys : List Stem) → IsTrue (list_all is_stem xs) → IsTrue (list_all is_stem ys)
    → query_text xs ≡ query_text ys → xs ≡ ys
query_text-same [] [] xs_are ys_are e = refl
query_text-same [] (y ∷ []) xs_are ys_are e = absurd (some_text y (and_parts (is_stem y) true ys_are).0 (sym e))
query_text-same [] (y ∷ z ∷ ys) xs_are ys_are e = absurd (unparted 38 (stem_text y) [] (query_text (z ∷ ys)) refl (sym e))
query_text-same (x ∷ []) [] xs_are ys_are e = absurd (some_text x (and_parts (is_stem x) true xs_are).0 e)
query_text-same (x ∷ []) (y ∷ []) xs_are ys_are e =
    ap (λ z. z ∷ []) (stem_text-same x y (and_parts (is_stem x) true xs_are).0 (and_parts (is_stem y) true ys_are).0 e)
query_text-same (x ∷ []) (y ∷ z ∷ ys) xs_are ys_are e =
    absurd (unparted 38 (stem_text y) (stem_text x) (query_text (z ∷ ys)) (no_mark_in_stem 38 x (omega arith) (and_parts (is_stem x) true xs_are).0) (sym e))
query_text-same (x ∷ z ∷ xs) [] xs_are ys_are e = absurd (unparted 38 (stem_text x) [] (query_text (z ∷ xs)) refl e)
query_text-same (x ∷ z ∷ xs) (y ∷ []) xs_are ys_are e =
    absurd (unparted 38 (stem_text x) (stem_text y) (query_text (z ∷ xs)) (no_mark_in_stem 38 y (omega arith) (and_parts (is_stem y) true ys_are).0) e)
query_text-same (x ∷ w ∷ xs) (y ∷ z ∷ ys) xs_are ys_are e =
    let x_parts = and_parts (is_stem x) (list_all is_stem (w ∷ xs)) xs_are in
    let y_parts = and_parts (is_stem y) (list_all is_stem (z ∷ ys)) ys_are in
    let first = same_split 38 (stem_text x) (query_text (w ∷ xs)) (stem_text y) (query_text (z ∷ ys))
    (no_mark_in_stem 38 x (omega arith) x_parts.0) (no_mark_in_stem 38 y (omega arith) y_parts.0) e in
    let here = stem_text-same x y x_parts.0 y_parts.0 first.0 in
    let rest = query_text-same (w ∷ xs) (z ∷ ys) x_parts.1 y_parts.1 first.1 in
    ap (λ s. s ∷ w ∷ xs) here ∙ ap (λ l. y ∷ l) rest

-- stems have some text
pub query_text-some : (stems : List Stem) → 0 < length stems → IsTrue (list_all is_stem stems) → query_text stems ≡ [] → ⊥
query_text-some [] some are e = omega arith
query_text-some (x ∷ []) some are e = some_text x (and_parts (is_stem x) true are).0 e
query_text-some (x ∷ y ∷ stems) some are e = unparted 38 (stem_text x) [] (query_text (y ∷ stems)) refl e

-- a line with what stands behind it
pub ack_line : (a : Ack) (rest : List ℕ) → ack_text a ++ rest ≡ stem_text a.stem ++ 32 ∷ (decimal a.number ++ 10 ∷ rest)
ack_line a rest =
    append_assoc (stem_text a.stem) (32 ∷ (decimal a.number ++ 10 ∷ [])) rest
    ∙ ap (λ t. stem_text a.stem ++ 32 ∷ t) (append_assoc (decimal a.number) (10 ∷ []) rest)

-- the first line, and the lines behind it
pub ack_parted : (a b : Ack) (r s : List ℕ) → IsTrue (is_ack a) → IsTrue (is_ack b) → ack_text a ++ r ≡ ack_text b ++ s → (a ≡ b) × (r ≡ s)
ack_parted a b r s a_is b_is e =
    let a_parts = and_parts (is_stem a.stem) (nat_lt a.number limit) a_is in
    let b_parts = and_parts (is_stem b.stem) (nat_lt b.number limit) b_is in
    let a_small = ltb-true a.number limit a_parts.1 in
    let b_small = ltb-true b.number limit b_parts.1 in
    let stems = same_split 32 (stem_text a.stem) (decimal a.number ++ 10 ∷ r) (stem_text b.stem) (decimal b.number ++ 10 ∷ s)
    (no_mark_in_stem 32 a.stem (omega arith) a_parts.0) (no_mark_in_stem 32 b.stem (omega arith) b_parts.0)
    (sym (ack_line a r) ∙ (e ∙ ack_line b s)) in
    let numbers = same_split 10 (decimal a.number) r (decimal b.number) s
    (no_mark 10 a.number (omega arith) a_small) (no_mark 10 b.number (omega arith) b_small) stems.1 in
    let same_stem = stem_text-same a.stem b.stem a_parts.0 b_parts.0 stems.0 in
    let same_number = decimal_injective a.number b.number (omega arith) (omega arith) numbers.0 in
    (ap (λ x. ack_of x a.number) same_stem ∙ ap (λ n. ack_of b.stem n) same_number, numbers.1)

pub acks_text-same : (xs ys : List Ack) → IsTrue (list_all is_ack xs) → IsTrue (list_all is_ack ys) → acks_text xs ≡ acks_text ys → xs ≡ ys
acks_text-same [] [] xs_are ys_are e = refl
acks_text-same [] (y ∷ ys) xs_are ys_are e =
    absurd (unparted 32 (stem_text y.stem) [] (decimal y.number ++ 10 ∷ acks_text ys) refl (sym (ack_line y (acks_text ys)) ∙ sym e))
acks_text-same (x ∷ xs) [] xs_are ys_are e =
    absurd (unparted 32 (stem_text x.stem) [] (decimal x.number ++ 10 ∷ acks_text xs) refl (sym (ack_line x (acks_text xs)) ∙ e))
acks_text-same (x ∷ xs) (y ∷ ys) xs_are ys_are e =
    let x_parts = and_parts (is_ack x) (list_all is_ack xs) xs_are in
    let y_parts = and_parts (is_ack y) (list_all is_ack ys) ys_are in
    let first = ack_parted x y (acks_text xs) (acks_text ys) x_parts.0 y_parts.0 e in
    ap (λ a. a ∷ xs) first.0 ∙ ap (λ l. y ∷ l) (acks_text-same xs ys x_parts.1 y_parts.1 first.1)
