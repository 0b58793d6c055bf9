-- Variable-length integers, as Hadoop's WritableUtils writes them.
use Rattle.std.specs.Prelude.{◌≤◌, ◌<◌, ℕ, ◌+◌, ◌-◌, ◌^◌, Bool, ◌&&◌, ◌||◌, nat_lt, nat_le, List, [], ◌∷◌, length, take, drop, if◌then◌else◌, Result, Ok, Err}
use Rattle.chk_bytes.specs.Numbers.{be16, be24, be32, spelled}
use Rattle.chk_bytes.specs.declared.vints.VintFault.{VintFault}
use Rattle.chk_bytes.specs.declared.vints.VintFault.TheVariants.{Short, Negative, TooLarge}

-- numbers here are below this
abbrev pub vint_limit : ℕ
vint_limit = 2 ^ 31

-- how many bytes follow the first one, read as a signed byte: none behind -112 to 127, which is
-- the number itself; 1 to 8 behind -113 to -120 of a number from 0, behind -121 to -128 of a
-- negative one
abbrev pub vint_size : ℕ → ℕ
vint_size first =
    if nat_lt first 128 then 0
    else (if nat_lt first 136 then 136 - first else (if nat_lt first 144 then 144 - first else 0))

-- the first byte of a negative number
abbrev pub begins_negative : ℕ → Bool
begins_negative first = nat_le 128 first && nat_lt first 136 || nat_le 144 first

-- a number from 0, by its first byte and the bytes that follow
abbrev pub vint_number : ℕ → List ℕ → ℕ
vint_number first following = if nat_lt first 128 then first else spelled following

-- the number that stands at this place and the place behind it; else the first that holds of: the
-- bytes end before the number does, it is negative, it is 2^31 or more
abbrev pub vint_before : ℕ → List ℕ → Result (ℕ × ℕ) VintFault
vint_before at [] = Err Short
vint_before at (first ∷ rest) =
    let n = vint_number first (take (vint_size first) rest) in
    if nat_lt (length rest) (vint_size first) then Err Short
    else (if begins_negative first then Err Negative
    else (if nat_lt n vint_limit then Ok (n, at + 1 + vint_size first) else Err TooLarge))

-- the same of a place in all the bytes
unfoldable pub vint_at : List ℕ → ℕ → Result (ℕ × ℕ) VintFault
vint_at bytes at = vint_before at (drop at bytes)

-- the shortest spelling of a number below 2^31
abbrev pub vint_spelling : ℕ → List ℕ
vint_spelling n =
    if nat_lt n (2 ^ 7) then n ∷ []
    else (if nat_lt n (2 ^ 8) then 143 ∷ n ∷ []
    else (if nat_lt n (2 ^ 16) then 142 ∷ be16 n
    else (if nat_lt n (2 ^ 24) then 141 ∷ be24 n else 140 ∷ be32 n)))

-- all spellings of a number from 0: up to 127 the one byte itself, and any 1 to 8 bytes that spell
-- it, the high one first, behind a byte that counts them down from 144
pub data VintSpells : ℕ → List ℕ → Type 0 where
  one_byte : (n : ℕ) → n < 128 → VintSpells n (n ∷ [])
  counted : (bytes : List ℕ) → 1 ≤ length bytes → length bytes ≤ 8
      → VintSpells (spelled bytes) ((144 - length bytes) ∷ bytes)
