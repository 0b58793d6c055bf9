-- The version and the sequence id of a key.
use Rattle.std.proofs.Common.{None, ◌≡◌, ℕ, ◌+◌, ◌-◌, ◌<◌, ◌≤◌, ◌^◌, ◌||◌, true, List, [], ◌∷◌, ◌++◌, length, take, drop, sym, ap, ap₂, ◌∙◌, inl, inr, ◌⊎◌, arith}
use Rattle.std.specs.Prelude.{◌==◌}
use Rattle.std.proofs.lemmas.Bool.{ltb-false, le-ltb, leb-false, lt-leb, or_cases, not-false, eqb-true, eq-eqb, not_from_true, or_left, or_right}
use Rattle.std.proofs.lemmas.List.{length-drop, drop-drop, take-append-drop}
use Rattle.chk_bytes.specs.Numbers.{be64, limit, spelled, spelled_at}
use Rattle.chk_chunk.specs.Faults.{head_fault}
use Rattle.chk_chunk.proofs.FieldLemmas.{none_parts, none_from, none_left, fault_if-none, fault_if-false}
use Rattle.chk_bytes.specs.Laws.{AreBytes}
use Rattle.chk_bytes.proofs.NumberLemmas.{spelled-be64}
use Rattle.chk_chunk.proofs.NumberLemmas.{be64-stands}

-- a version that is known, and a sequence id that isn't too high
pub record IsHeadThere (at : ℕ) (bytes : List ℕ) : Type 0 where
  pub version : (spelled_at at 1 bytes ≡ 1) ⊎ (spelled_at at 1 bytes ≡ 2)
  pub within : at + 9 ≤ length bytes
  pub fits : spelled_at (at + 1) 8 bytes < limit

one_or_two : (n : ℕ) → (n == 1 || n == 2) ≡ true → (n ≡ 1) ⊎ (n ≡ 2)
one_or_two n h = elim (or_cases _ _ h) [ inl a ↦ inl (eqb-true n 1 a) | inr b ↦ inr (eqb-true n 2 b) ]

known_version : (n : ℕ) → (n ≡ 1) ⊎ (n ≡ 2) → (n == 1 || n == 2) ≡ true
known_version n (inl a) = or_left _ _ (eq-eqb n 1 a)
known_version n (inr b) = or_right _ _ (eq-eqb n 2 b)

pub head_there : (at : ℕ) (bytes : List ℕ) → head_fault at bytes ≡ None → IsHeadThere at bytes
unfolding head_fault
head_there at bytes h =
    let version = spelled_at at 1 bytes in
    let seq = spelled_at (at + 1) 8 bytes in
    let a = none_parts _ _ h in
    let b = none_parts _ _ a.1 in
    let d = none_parts _ _ b.1 in
    let e = none_parts _ _ d.1 in
    record {
      version = one_or_two version (not-false _ (fault_if-none _ _ b.0));
      within = omega (arith, ltb-false (length bytes) (at + 1 + 8) (fault_if-none _ _ d.0));
      fits = leb-false limit seq (fault_if-none _ _ e.0);
    }

pub head_fault-none : (at : ℕ) (bytes : List ℕ) → IsHeadThere at bytes → head_fault at bytes ≡ None
unfolding head_fault
head_fault-none at bytes there =
    let version = spelled_at at 1 bytes in
    let seq = spelled_at (at + 1) 8 bytes in
    let within = there.within in
    none_from _ _ (fault_if-false _ _ (le-ltb (length bytes) (at + 1) (omega arith)))
    (none_from _ _ (fault_if-false _ _ (not_from_true _ (known_version version there.version)))
    (none_from _ _ (fault_if-false _ _ (le-ltb (length bytes) (at + 1 + 8) (omega arith)))
    (none_from _ _ (fault_if-false _ _ (lt-leb limit seq there.fits)) none_left)))

-- the first byte of some, and what follows
first_spelled : (bytes : List ℕ) → 0 < length bytes → bytes ≡ spelled (take 1 bytes) ∷ drop 1 bytes
first_spelled [] h = absurd (omega arith)
first_spelled (b ∷ bytes) h = ap (λ n. n ∷ bytes) (omega arith)

pub head_spelled : (at : ℕ) (bytes : List ℕ) → AreBytes bytes → at + 9 ≤ length bytes
    → drop at bytes ≡ spelled_at at 1 bytes ∷ (be64 (spelled_at (at + 1) 8 bytes) ++ drop (at + 9) bytes)
head_spelled at bytes each within =
    let size = length-drop at bytes in
    let seq = spelled_at (at + 1) 8 bytes in
    let rest : drop (at + 1) bytes ≡ be64 seq ++ drop (at + 9) bytes =
    sym (take-append-drop 8 (drop (at + 1) bytes))
    ∙ ap₂ (λ s t. s ++ t) (sym (be64-stands (at + 1) bytes each (omega arith)))
    (drop-drop 8 (at + 1) bytes ∙ ap (λ n. drop n bytes) (omega arith)) in
    first_spelled (drop at bytes) (omega arith)
    ∙ ap (λ t. spelled_at at 1 bytes ∷ t) (drop-drop 1 at bytes ∙ rest)

-- what stands there, where a version and a sequence id do
pub record IsReadHead (at : ℕ) (bytes : List ℕ) (version seq : ℕ) (rest : List ℕ) : Type 0 where
  pub first : spelled_at at 1 bytes ≡ version
  pub second : spelled_at (at + 1) 8 bytes ≡ seq
  pub follows : drop (at + 9) bytes ≡ rest
  pub size : at + 9 + length rest ≡ length bytes

pub read_head : (at : ℕ) (bytes : List ℕ) (version seq : ℕ) (rest : List ℕ) → seq < 2 ^ 64
    → drop at bytes ≡ version ∷ (be64 seq ++ rest) → IsReadHead at bytes version seq rest
read_head at bytes version seq rest small e =
    let second_at : drop (at + 1) bytes ≡ be64 seq ++ rest = sym (drop-drop 1 at bytes) ∙ ap (drop 1) e in
    let whole : length bytes - at ≡ 9 + length rest = sym (length-drop at bytes) ∙ (ap length e ∙ omega arith) in
    record {
      first = ap (λ t. spelled (take 1 t)) e ∙ omega arith;
      second = ap (λ t. spelled (take 8 t)) second_at ∙ spelled-be64 seq small;
      follows = sym (drop-drop 9 at bytes) ∙ ap (drop 9) e;
      size = omega arith;
    }
