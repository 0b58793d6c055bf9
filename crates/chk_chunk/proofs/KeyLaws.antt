-- The laws of keys.
use Rattle.std.proofs.Common.{◌≡◌, ℕ, List, [], ◌++◌, Some, sym, ap, ◌∙◌, inl, inr, arith}
use Rattle.std.specs.Prelude.{IsTrue}
use Rattle.std.proofs.lemmas.Bool.{eq-eqb, ne_eqb, and_from, cond-true, cond-false, cases_Bool}
use Rattle.std.proofs.lemmas.List.{append-nil}
use Rattle.chk_bytes.specs.Numbers.{spelled_at}
use Rattle.chk_bytes.specs.Words.{spelling, BeginsWith}
use Rattle.chk_chunk.specs.Keys.{Key, IsKey, is_key, is_key_1, fits_1, key_1, key_2, written_key, read_key, guessed_1, guessed_2, is_version_1}
use Rattle.chk_bytes.proofs.SpellingLemmas.{spelling-Some, spelling-spelled}
use Rattle.chk_chunk.proofs.KeyReading.{read_1, read_2}

-- what two readings of the same bytes have in common
pub record AreSame (k l : Key) (rest more : List ℕ) : Type 0 where
  pub key : k ≡ l
  pub behind : rest ≡ more

two_readings : (bytes : List ℕ) (k l : Key) (a b rest more : List ℕ) → IsKey k a → IsKey l b
    → bytes ≡ a ++ rest → bytes ≡ b ++ more → AreSame k l rest more
two_readings bytes k l a b rest more (inl h) (inl i) p q =
    let x = read_1 0 bytes k rest h.0 (p ∙ ap (λ t. t ++ rest) h.1) in
    let y = read_1 0 bytes l more i.0 (q ∙ ap (λ t. t ++ more) i.1) in
    record { key = sym x.is ∙ y.is; behind = sym x.follows ∙ y.follows }
two_readings bytes k l a b rest more (inr h) (inr i) p q =
    let x = read_2 0 bytes k rest h.0 (p ∙ ap (λ t. t ++ rest) h.1) in
    let y = read_2 0 bytes l more i.0 (q ∙ ap (λ t. t ++ more) i.1) in
    record { key = sym x.is ∙ y.is; behind = sym x.follows ∙ y.follows }
two_readings bytes k l a b rest more (inl h) (inr i) p q =
    let x = read_1 0 bytes k rest h.0 (p ∙ ap (λ t. t ++ rest) h.1) in
    let y = read_2 0 bytes l more i.0 (q ∙ ap (λ t. t ++ more) i.1) in
    absurd (omega (arith, x.version, y.version))
two_readings bytes k l a b rest more (inr h) (inl i) p q =
    let x = read_2 0 bytes k rest h.0 (p ∙ ap (λ t. t ++ rest) h.1) in
    let y = read_1 0 bytes l more i.0 (q ∙ ap (λ t. t ++ more) i.1) in
    absurd (omega (arith, x.version, y.version))

-- the laws of keys
pub one_key : (k l : Key) (bytes : List ℕ) → IsKey k bytes → IsKey l bytes → k ≡ l
one_key k l bytes h i =
    (two_readings bytes k l bytes bytes [] [] h i (sym (append-nil bytes)) (sym (append-nil bytes))).key

pub key_alone : (k l : Key) (a b : List ℕ) → IsKey k a → IsKey l b → BeginsWith b a → a ≡ b
key_alone k l a b h i begins =
    let same = two_readings b k l a b begins.0 [] h i begins.1 (sym (append-nil b)) in
    sym (begins.1 ∙ (ap (λ t. a ++ t) same.behind ∙ append-nil a))

pub written_key_is_key : (k : Key) → IsTrue (is_key k) → IsKey k (written_key k)
unfolding written_key
written_key_is_key k valid =
    elim (cases_Bool (fits_1 k)) [
      | inl fits ↦ inl (and_from _ _ valid fits, cond-true _ _ _ fits)
      | inr wide ↦ inr (valid, cond-false _ _ _ wide)
    ]

pub read_is_key : (k : Key) (bytes : List ℕ) → read_key bytes ≡ Some k → IsKey k bytes
unfolding read_key
read_is_key k bytes h =
    elim (cases_Bool (is_version_1 0 bytes)) [
      | inl one ↦
          let is = spelling-Some is_key_1 key_1 (guessed_1 0 bytes) k bytes (sym (cond-true _ _ _ one) ∙ h) in
          inl (is.1, sym is.2)
      | inr other ↦
          let is = spelling-Some is_key key_2 (guessed_2 0 bytes) k bytes (sym (cond-false _ _ _ other) ∙ h) in
          inr (is.1, sym is.2)
    ]

pub key_is_read : (k : Key) (bytes : List ℕ) → IsKey k bytes → read_key bytes ≡ Some k
unfolding read_key
key_is_read k bytes (inl h) =
    let r = read_1 0 bytes k [] h.0 (h.1 ∙ sym (append-nil (key_1 k))) in
    cond-true _ _ _ (eq-eqb (spelled_at 0 1 bytes) 1 r.version)
    ∙ (ap (λ (g : Key). spelling is_key_1 key_1 g bytes) r.is ∙ spelling-spelled is_key_1 key_1 k bytes h.0 (sym h.1))
key_is_read k bytes (inr h) =
    let r = read_2 0 bytes k [] h.0 (h.1 ∙ sym (append-nil (key_2 k))) in
    cond-false _ _ _ (ne_eqb (spelled_at 0 1 bytes) 1 (λ e. omega (arith, r.version)))
    ∙ (ap (λ (g : Key). spelling is_key key_2 g bytes) r.is ∙ spelling-spelled is_key key_2 k bytes h.0 (sym h.1))
