-- What bytes spell in parts.
use Rattle.std.proofs.Common.{subst, ⊎_elim, get_or, ◌≡◌, ℕ, zero, suc, ◌+◌, ◌-◌, ◌*◌, ◌<◌, ◌≤◌, ◌^◌, List, [], ◌∷◌, ◌++◌, length, take, drop, replicate, arith, refl, ap, ap₂, sym, ◌∙◌}
use Rattle.std.proofs.lemmas.Bool.{cases_lt}
use Rattle.std.proofs.lemmas.List.{take_more, take_all, get_or_past, length-replicate, length-drop, take-append-drop}
use Rattle.std.proofs.Math.Nat.{pow-suc, one-le-pow}
use Rattle.chk_bytes.specs.Numbers.{spelled, spelled_after}

-- what stands before moves up by the bytes behind it
pub spelled_after-split : (m : ℕ) (xs : List ℕ)
    → spelled_after m xs ≡ m * 256 ^ length xs + spelled xs
spelled_after-split m [] = omega arith
spelled_after-split m (x ∷ xs) =
    let here = spelled_after-split (m * 256 + x) xs in
    let alone = spelled_after-split (0 * 256 + x) xs in
    rw (pow-suc 256 (length xs)) (omega (arith, here, alone))

-- the first bytes, and then the others
pub spelled_after-append : (m : ℕ) (xs ys : List ℕ)
    → spelled_after m (xs ++ ys) ≡ spelled_after (spelled_after m xs) ys
spelled_after-append m [] ys = refl
spelled_after-append m (x ∷ xs) ys = spelled_after-append (m * 256 + x) xs ys

pub spelled-append : (xs ys : List ℕ)
    → spelled (xs ++ ys) ≡ spelled xs * 256 ^ length ys + spelled ys
spelled-append xs ys = spelled_after-append 0 xs ys ∙ spelled_after-split (spelled xs) ys

-- zeros spell 0
pub spelled-zeros : (n : ℕ) → spelled (replicate n 0) ≡ 0
spelled-zeros zero = refl
spelled-zeros (suc n) = spelled-zeros n

-- zeros in front change nothing
pub spelled-zeros-append : (n : ℕ) (xs : List ℕ) → spelled (replicate n 0 ++ xs) ≡ spelled xs
spelled-zeros-append zero xs = refl
spelled-zeros-append (suc n) xs = spelled-zeros-append n xs

-- zeros behind move all of it up
pub spelled-append-zeros : (xs : List ℕ) (n : ℕ)
    → spelled (xs ++ replicate n 0) ≡ spelled xs * 256 ^ n
spelled-append-zeros xs n =
    spelled-append xs (replicate n 0)
    ∙ ap₂ (λ k s. spelled xs * 256 ^ k + s) (length-replicate n 0) (spelled-zeros n)
    ∙ omega arith

-- a part with zeros for what is missing is no more than the whole
pub spelled-take_le : (k : ℕ) (xs : List ℕ)
    → spelled (take k xs) * 256 ^ (length xs - k) ≤ spelled xs
spelled-take_le k xs =
    let whole : spelled (take k xs) * 256 ^ length (drop k xs) + spelled (drop k xs) ≡ spelled xs =
    sym (spelled-append (take k xs) (drop k xs)) ∙ ap spelled (take-append-drop k xs) in
    let size : length (drop k xs) ≡ length xs - k = length-drop k xs in
    rw (← size) (omega arith)

-- what is moved up and stays small is nothing
no_high_byte : (x q s n : ℕ) → 256 ≤ q → x * q + s ≡ n → n < 256 → x ≡ 0
no_high_byte zero q s n large is small = refl
no_high_byte (suc x) q s n large is small = absurd (omega arith)

-- a small number in so many bytes has zeros before its last byte
pub spelled_small : (n j : ℕ) (xs : List ℕ) → n < 256 → length xs ≡ suc j → spelled xs ≡ n
    → xs ≡ replicate j 0 ++ n ∷ []
spelled_small n j [] small size is = absurd (omega arith)
spelled_small n zero (x ∷ []) small size is =
    let same : x ≡ n = omega arith in ap (λ y. y ∷ []) same
spelled_small n (suc j) (x ∷ []) small size is = absurd (omega arith)
spelled_small n zero (x ∷ y ∷ xs) small size is = absurd (omega arith)
spelled_small n (suc j) (x ∷ y ∷ xs) small size is =
    let whole : spelled_after (0 * 256 + x) (y ∷ xs) ≡ (0 * 256 + x) * 256 ^ suc (length xs) + spelled (y ∷ xs) =
    spelled_after-split (0 * 256 + x) (y ∷ xs) in
    let one : 1 ≤ 256 ^ length xs = one-le-pow (length xs) 256 (omega arith) in
    let large : 256 ≤ 256 ^ suc (length xs) = rw (pow-suc 256 (length xs)) (omega arith) in
    let none : 0 * 256 + x ≡ 0 =
    no_high_byte (0 * 256 + x) (256 ^ suc (length xs)) (spelled (y ∷ xs)) n large (sym whole ∙ is) small in
    let first : x ≡ 0 = omega arith in
    ap₂ (λ a b. a ∷ b) first
    (spelled_small n j (y ∷ xs) small (omega arith) (ap (λ z. spelled_after z (y ∷ xs)) (sym none) ∙ is))

-- what the first n bytes spell, with zeros for missing ones
abbrev pub padded : ℕ → List ℕ → ℕ
padded n bytes = spelled (take n bytes) * 256 ^ (n - length bytes)

-- each further byte is the low one
pub padded_more : (n : ℕ) (bytes : List ℕ)
    → padded (n + 1) bytes ≡ padded n bytes * 256 + get_or bytes n 0
padded_more n bytes = ⊎_elim
    (λ inside.
    let none : n - length bytes ≡ 0 = omega arith in
    let none_more : n + 1 - length bytes ≡ 0 = omega arith in
    let whole : spelled (take (n + 1) bytes) ≡ spelled (take n bytes) * 256 + get_or bytes n 0 =
    ap spelled (take_more bytes n 0 inside)
    ∙ spelled-append (take n bytes) (get_or bytes n 0 ∷ []) ∙ omega arith in
    ap₂ (λ x e. x * 256 ^ e) whole none_more ∙ omega arith
    ∙ ap (λ e. spelled (take n bytes) * 256 ^ e * 256 + get_or bytes n 0) (sym none))
    (λ past.
    let more : n + 1 - length bytes ≡ suc (n - length bytes) = omega arith in
    let same : take (n + 1) bytes ≡ take n bytes =
    take_all (n + 1) bytes (omega arith) ∙ sym (take_all n bytes past) in
    ap₂ (λ x e. spelled x * 256 ^ e) same more
    ∙ rw (pow-suc 256 (n - length bytes), get_or_past bytes n 0 past) (omega arith))
    (cases_lt n (length bytes))

-- with more bytes it is no less
pub padded_le : (bytes : List ℕ) (m d : ℕ) → padded m bytes ≤ padded (m + d) bytes
padded_le bytes m zero =
    let same : m ≡ m + 0 = omega arith in subst (λ n. padded m bytes ≤ padded n bytes) same (omega arith)
padded_le bytes m (suc d) =
    let below = padded_le bytes m d in
    let next = padded_more (m + d) bytes in
    let same : m + suc d ≡ m + d + 1 = omega arith in
    rw same (omega arith)
