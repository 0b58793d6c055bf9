-- What the tables of the adaptors find, as the commands say it.
use Rattle.std.proofs.Common.{◌≡◌, ℕ, zero, suc, ◌+◌, ◌<◌, Bool, true, false, cond, List, [], ◌∷◌}
use Rattle.std.proofs.Common.{length, Some, None, refl, ap, ◌∙◌, arith, if◌then◌else◌}
use Rattle.std.specs.Prelude.{option_map, position, slice_get}
use Rattle.std.specs.List.{position_from}
use Rattle.std.proofs.lemmas.Iterator.Adapters.{position_from-zero}
use Rattle.chk_agent_adaptor.specs.Adaptors.{Adaptor}
use Rattle.chk_agent_table.specs.Adaptors.{is_named, is_of}
use Rattle.chk_agent.specs.Adds.{Found, named_in, stream_in}
use Rattle.chk_agent.proofs.AddingFound.{found_at}

named_from : (name : List ℕ) (i : ℕ) (xs : List Adaptor)
    → position_from (is_named name) i xs ≡ named_in name i xs
named_from name i [] = refl
named_from name i (a ∷ xs) = go (is_named name a) (named_from name (i + 1) xs)
  where
    go : (b : Bool) → position_from (is_named name) (i + 1) xs ≡ named_in name (i + 1) xs
        → cond b (Some i) (position_from (is_named name) (i + 1) xs)
        ≡ (if b then Some i else named_in name (i + 1) xs)
    go true rest = refl
    go false rest = rest

pub named_at : (name : List ℕ) (xs : List Adaptor)
    → position (is_named name) xs ≡ named_in name 0 xs
named_at name xs = position_from-zero (is_named name) xs ∙ named_from name 0 xs

-- a name that none has, and a stream that none has
pub none_named : (name : List ℕ) (xs : List Adaptor) → named_in name 0 xs ≡ None
    → position (is_named name) xs ≡ None
none_named name xs free = named_at name xs ∙ free

pub none_found : (kind path : List ℕ) (xs : List Adaptor) → stream_in kind path 0 xs ≡ None
    → position (is_of kind path) xs ≡ None
none_found kind path xs free = found_at kind path xs
    ∙ ap (option_map (λ (f : Found). f.number)) free

-- what stands at a number
pub there_at : (xs : List Adaptor) (i : ℕ) → i < length xs → (a : Adaptor)
    × (slice_get xs i ≡ Some a)
there_at [] i below = absurd (let z : ⊥ = omega (arith, below) in z)
there_at (x ∷ xs) zero below = (x, refl)
there_at (x ∷ xs) (suc i) below = there_at xs i (omega (arith, below))
