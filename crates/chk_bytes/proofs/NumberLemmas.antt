-- Numbers as bytes, the high byte first.
use Rattle.std.proofs.Common.{◌≡◌, ℕ, suc, ◌+◌, ◌*◌, ◌/◌, ◌%◌, ◌^◌, ◌<◌, ◌≤◌, List, [], ◌∷◌, ◌++◌, length, get_or, take, refl, ap, ◌∙◌, arith, add-one}
use Rattle.std.proofs.Math.Nat.{pow-suc, pow-le-pow_right, mul-le-mul_right, mul_assoc}
use Rattle.std.proofs.lemmas.List.{take_more}
use Rattle.chk_bytes.specs.Laws.{AreBytes}
use Rattle.chk_bytes.specs.Numbers.{be16, be24, be32, be64, spelled, spelled_after}

spelled_after-append : (n : ℕ) (xs ys : List ℕ)
    → spelled_after n (xs ++ ys) ≡ spelled_after (spelled_after n xs) ys
spelled_after-append n [] ys = refl
spelled_after-append n (x ∷ xs) ys = spelled_after-append (n * 256 + x) xs ys

-- one more byte
-- a number of i bytes and one more byte
pub grown : (n b i : ℕ) → n < 256 ^ i → b < 256 → n * 256 + b < 256 ^ (i + 1)
grown n b i small byte = rw add-one (omega (arith, pow-suc 256 i))

-- up to 8 bytes stay below 2^64
pub fits_eight : (n i : ℕ) → n < 256 ^ i → i ≤ 8 → n < 2 ^ 64
fits_eight n i small short =
    let below : 256 ^ i ≤ 256 ^ 8 = pow-le-pow_right (omega arith) short in
    omega arith

-- bytes written are read back
pub spelled-be16 : (n : ℕ) → n < 256 ^ 2 → spelled (be16 n) ≡ n
spelled-be16 n small = omega arith

pub spelled-be24 : (n : ℕ) → n < 256 ^ 3 → spelled (be24 n) ≡ n
spelled-be24 n small = omega arith

pub spelled-be32 : (n : ℕ) → n < 256 ^ 4 → spelled (be32 n) ≡ n
spelled-be32 n small = omega arith

pub spelled-be64 : (n : ℕ) → n < 256 ^ 8 → spelled (be64 n) ≡ n
spelled-be64 n small = omega arith

-- and bytes read are written again
pub be16-spelled : (bytes : List ℕ) → length bytes ≡ 2 → AreBytes bytes
    → be16 (spelled bytes) ≡ bytes
be16-spelled (a ∷ b ∷ []) two are =
    let a_small : a < 256 = are 0 in
    let b_small : b < 256 = are 1 in
    let e0 : spelled (a ∷ b ∷ []) / 2 ^ 8 % 256 ≡ a = omega arith in
    let e1 : spelled (a ∷ b ∷ []) % 256 ≡ b = omega arith in
    cc
be16-spelled _ two are = absurd (omega (arith, two))

pub be32-spelled : (bytes : List ℕ) → length bytes ≡ 4 → AreBytes bytes
    → be32 (spelled bytes) ≡ bytes
be32-spelled (a ∷ b ∷ c ∷ d ∷ []) four are =
    let a_small : a < 256 = are 0 in
    let b_small : b < 256 = are 1 in
    let c_small : c < 256 = are 2 in
    let d_small : d < 256 = are 3 in
    let n = spelled (a ∷ b ∷ c ∷ d ∷ []) in
    let e0 : n / 2 ^ 24 % 256 ≡ a = omega arith in
    let e1 : n / 2 ^ 16 % 256 ≡ b = omega arith in
    let e2 : n / 2 ^ 8 % 256 ≡ c = omega arith in
    let e3 : n % 256 ≡ d = omega arith in
    cc
be32-spelled _ four are = absurd (omega (arith, four))

pub be64-spelled : (bytes : List ℕ) → length bytes ≡ 8 → AreBytes bytes
    → be64 (spelled bytes) ≡ bytes
be64-spelled (a ∷ b ∷ c ∷ d ∷ e ∷ f ∷ g ∷ h ∷ []) eight are =
    let a_small : a < 256 = are 0 in
    let b_small : b < 256 = are 1 in
    let c_small : c < 256 = are 2 in
    let d_small : d < 256 = are 3 in
    let e_small : e < 256 = are 4 in
    let f_small : f < 256 = are 5 in
    let g_small : g < 256 = are 6 in
    let h_small : h < 256 = are 7 in
    let n = spelled (a ∷ b ∷ c ∷ d ∷ e ∷ f ∷ g ∷ h ∷ []) in
    let e0 : n / 2 ^ 56 % 256 ≡ a = omega arith in
    let e1 : n / 2 ^ 48 % 256 ≡ b = omega arith in
    let e2 : n / 2 ^ 40 % 256 ≡ c = omega arith in
    let e3 : n / 2 ^ 32 % 256 ≡ d = omega arith in
    let e4 : n / 2 ^ 24 % 256 ≡ e = omega arith in
    let e5 : n / 2 ^ 16 % 256 ≡ f = omega arith in
    let e6 : n / 2 ^ 8 % 256 ≡ g = omega arith in
    let e7 : n % 256 ≡ h = omega arith in
    cc
be64-spelled _ eight are = absurd (omega (arith, eight))

-- bytes spell less than their number allows
room_for_more : (v n b room more : ℕ) → v < (n * 256 + b + 1) * room → b < 256 → more ≡ room * 256
    → v < (n + 1) * more
room_for_more v n b room more below small more_is =
    let step : (n * 256 + b + 1) * room ≤ (n + 1) * 256 * room =
    mul-le-mul_right room (omega arith) in
    let turned : 256 * room ≡ more = omega arith in
    let same : (n + 1) * 256 * room ≡ (n + 1) * more =
    mul_assoc (n + 1) 256 room ∙ ap (λ x. (n + 1) * x) turned in
    omega (arith, below, step, same)

spelled_after_below : (n : ℕ) (bytes : List ℕ) → AreBytes bytes
    → spelled_after n bytes < (n + 1) * 256 ^ length bytes
spelled_after_below n [] are = omega arith
spelled_after_below n (b ∷ bytes) are =
    room_for_more (spelled_after (n * 256 + b) bytes) n b (256 ^ length bytes)
    (256 ^ suc (length bytes))
    (spelled_after_below (n * 256 + b) bytes (λ i. are (suc i))) (are 0)
    (pow-suc 256 (length bytes))

pub spelled_below : (bytes : List ℕ) → AreBytes bytes → spelled bytes < 256 ^ length bytes
spelled_below bytes are = omega (arith, spelled_after_below 0 bytes are)
