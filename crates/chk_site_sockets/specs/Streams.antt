-- What is written on a stream.
use Rattle.std.specs.Prelude.{◌≤◌, ℕ, List, Option, Result, Ok, Err, length, take}
use Rattle.std.specs.Io.KnownBytes.{Appends}

-- at Ok the stream was given just these bytes, and at Err a front of them
abbrev pub IsPut : {T E : Type 0} → Option (List ℕ) → Option (List ℕ) → List ℕ → Result T E → Type 0
IsPut before after bytes (Ok value) = Appends before after bytes
IsPut before after bytes (Err error) =
    (count : ℕ) × (count ≤ length bytes) × Appends before after (take count bytes)
