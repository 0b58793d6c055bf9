-- The texts of a key's tail are passed, one after the other.
use Rattle.std.proofs.Common.{◌≡◌, ◌≢◌, ℕ, Bool, true, false, List, [], ◌++◌, if◌then◌else◌, append_assoc, refl, sym, ap, ◌∙◌, Option, Some, None}
use Rattle.std.proofs.lemmas.List.{append-nil, append_cancel_left}
use Rattle.std.specs.Borrow.{Bor}
use Rattle.chk_bytes.specs.Numbers.{be64}
use Rattle.chk_chunk.specs.Keys.{Key, fits_1, counted, counted_stream}
use Rattle.chk_record_index.specs.LastKeys.{key_version, key_tail}
use Rattle.chk_record_index.specs.Passing.{Passes}

-- bytes that don't begin with the first text don't begin with it and more
pub not_first : (first more bytes : List ℕ) → ((rest : List ℕ) → bytes ≢ first ++ rest)
    → (rest : List ℕ) → bytes ≢ (first ++ more) ++ rest
not_first first more bytes other rest e = other (more ++ rest) (e ∙ append_assoc first more rest)

-- bytes behind which the second text doesn't stand don't begin with both
pub not_behind : (first more bytes behind : List ℕ) → bytes ≡ first ++ behind → ((rest : List ℕ) → behind ≢ more ++ rest)
    → (rest : List ℕ) → bytes ≢ (first ++ more) ++ rest
not_behind first more bytes behind is other rest e =
    other rest (append_cancel_left first behind (more ++ rest) (sym is ∙ (e ∙ append_assoc first more rest)))

-- behind the first text, and then behind more
pub both_passed : (first more bytes behind : List ℕ) (r : Option (Bor (List ℕ))) → bytes ≡ first ++ behind → Passes more behind r
    → Passes (first ++ more) bytes r
both_passed first more bytes behind None is passed = not_behind first more bytes behind is passed
both_passed first more bytes behind (Some rest) is passed =
    is ∙ (ap (λ t. first ++ t) passed ∙ sym (append_assoc first more rest.now))

tail_by : (k : Key) (b : Bool) → (Path ℕ (if b then 1 else 2) 1 → ⊥)
    → (if b then counted_stream k.stream else be64 k.start ++ (counted_stream k.stream ++ counted k.cluster))
    ≡ be64 k.start ++ (counted_stream k.stream ++ counted k.cluster)
tail_by k true other = absurd (other refl)
tail_by k false other = refl

-- the tail in version 2
pub tail_of_2 : (k : Key) → (key_version k ≡ 1 → ⊥) → key_tail k ≡ be64 k.start ++ (counted_stream k.stream ++ counted k.cluster)
tail_of_2 k other = tail_by k (fits_1 k) other

-- bytes that don't begin with the text aren't it
pub not_it : (text bytes : List ℕ) → ((rest : List ℕ) → bytes ≢ text ++ rest) → bytes ≢ text
not_it text bytes other same = other [] (same ∙ sym (append-nil text))
