-- Variable-length integers: which answer it is at a place.
use Rattle.std.proofs.Common.{◌≡◌, ℕ, ◌+◌, ◌<◌, ◌≤◌, true, false, List, ◌∷◌, length, get_or, take, drop, Ok, Err, refl, sym, ap, ◌∙◌, arith, drop-cons, add-one}
use Rattle.std.proofs.lemmas.Bool.{lt-ltb, le-ltb}
use Rattle.std.proofs.lemmas.List.{drop_all}
use Rattle.chk_bytes.specs.Vints.{vint_at, vint_before, vint_limit, vint_size, vint_number, begins_negative}
use Rattle.chk_bytes.specs.declared.vints.VintFault.TheVariants.{Short, Negative, TooLarge}

-- by what stands behind the first byte
pub before_short : (at first size : ℕ) (rest : List ℕ) → size ≡ vint_size first → length rest < size
    → vint_before at (first ∷ rest) ≡ Err Short
before_short at first size rest size_is short =
    let short' : length rest < vint_size first = omega (arith, size_is) in
    rw (lt-ltb (length rest) (vint_size first) short') refl

pub before_negative : (at first size : ℕ) (rest : List ℕ) → size ≡ vint_size first
    → size ≤ length rest → begins_negative first ≡ true
    → vint_before at (first ∷ rest) ≡ Err Negative
before_negative at first size rest size_is whole negative =
    let whole' : vint_size first ≤ length rest = omega (arith, size_is) in
    rw (le-ltb (length rest) (vint_size first) whole', negative) refl

pub before_ok : (at first size n : ℕ) (rest : List ℕ) → size ≡ vint_size first
    → size ≤ length rest → begins_negative first ≡ false
    → n ≡ vint_number first (take size rest) → n < vint_limit
    → vint_before at (first ∷ rest) ≡ Ok (n, at + 1 + size)
before_ok at first size n rest size_is whole positive is small =
    let whole' : vint_size first ≤ length rest = omega (arith, size_is) in
    let is' : n ≡ vint_number first (take (vint_size first) rest) =
    is ∙ ap (λ s. vint_number first (take s rest)) size_is in
    let small' : vint_number first (take (vint_size first) rest) < vint_limit =
    omega (arith, is') in
    rw (
      le-ltb (length rest) (vint_size first) whole',
      positive,
      lt-ltb
          (vint_number first (take (vint_size first) rest)) vint_limit small',
    )
    (ap (λ m. Ok (m, at + 1 + vint_size first)) (sym is')
    ∙ ap (λ s. Ok (n, at + 1 + s)) (sym size_is))

pub before_large : (at first size n : ℕ) (rest : List ℕ) → size ≡ vint_size first
    → size ≤ length rest → begins_negative first ≡ false
    → n ≡ vint_number first (take size rest) → vint_limit ≤ n
    → vint_before at (first ∷ rest) ≡ Err TooLarge
before_large at first size n rest size_is whole positive is large =
    let whole' : vint_size first ≤ length rest = omega (arith, size_is) in
    let is' : n ≡ vint_number first (take (vint_size first) rest) =
    is ∙ ap (λ s. vint_number first (take s rest)) size_is in
    let large' : vint_limit ≤ vint_number first (take (vint_size first) rest) =
    omega (arith, is') in
    rw (
      le-ltb (length rest) (vint_size first) whole',
      positive,
      le-ltb
          (vint_number first (take (vint_size first) rest)) vint_limit large',
    ) refl

-- the same in all the bytes
pub vint_at-end : (bytes : List ℕ) (at : ℕ) → length bytes ≤ at → Err Short ≡ vint_at bytes at
unfolding vint_at
vint_at-end bytes at past = rw (drop_all at bytes past) refl

pub vint_at-front : (bytes rest : List ℕ) (at first : ℕ) → drop at bytes ≡ first ∷ rest
    → vint_before at (first ∷ rest) ≡ vint_at bytes at
unfolding vint_at
vint_at-front bytes rest at first split = ap (vint_before at) (sym split)

pub vint_at-within : (bytes : List ℕ) (at : ℕ) → at < length bytes
    → vint_before at (get_or bytes at 0 ∷ drop (at + 1) bytes) ≡ vint_at bytes at
vint_at-within bytes at within =
    vint_at-front bytes (drop (at + 1) bytes) at (get_or bytes at 0)
    (rw add-one (drop-cons bytes at 0 within))
