-- Members of lists, and what is known of each chunk that waits.
use Rattle.std.proofs.Common.{◌≡◌, ℕ, zero, suc, Bool, true, false, List, [], ◌∷◌, take, Some, ap, sym, subst, ◌∙◌, refl, arith}
use Rattle.std.specs.Prelude.{IsTrue, Contains, map, filter, slice_get, if◌then◌else◌}
use Rattle.chk_chunk.specs.Keys.{is_chunk}
use Rattle.chk_chunk.specs.declared.Chunk.{Chunk}
use Rattle.chk_chunk.specs.Lent.{chunk_of, AreValid}
use Rattle.chk_agent_delivery.specs.Basis.{Basis, AreOwned, stream_of_chunk}

pub in_map : {X Y : Type 0} (f : X → Y) (xs : List X) (y : Y) → Contains (map f xs) y → (x : X) × Contains xs x × (f x ≡ y)
in_map f [] y (k, below, at) = absurd (let z : ⊥ = omega (arith, below) in z)
in_map f (x ∷ xs) y (zero, below, at) = (x, (0, omega arith, refl), at)
in_map f (x ∷ xs) y (suc k, below, at) =
    let r = in_map f xs y (k, omega (arith, below), at) in
    let b = r.1.1 in (r.0, (suc r.1.0, omega (arith, b), r.1.2), r.2)

pub in_filter : {X : Type 0} (p : X → Bool) (xs : List X) (x : X) → Contains (filter p xs) x → Contains xs x × (p x ≡ true)
in_filter p [] x (k, below, at) = absurd (let z : ⊥ = omega (arith, below) in z)
in_filter p (y ∷ ys) x c = go (p y) refl c (in_filter p ys x)
  where
    later : Contains ys x → Contains (y ∷ ys) x
    later r = let b = r.1 in (suc r.0, omega (arith, b), r.2)

    go : (b : Bool) → p y ≡ b → Contains (if b then y ∷ filter p ys else filter p ys) x
        → (Contains (filter p ys) x → Contains ys x × (p x ≡ true)) → Contains (y ∷ ys) x × (p x ≡ true)
    go true e (zero, below, at) rest = ((0, omega arith, at), ap p (sym at) ∙ e)
    go true e (suc k, below, at) rest = let r = rest (k, omega (arith, below), at) in (later r.0, r.1)
    go false e c rest = let r = rest c in (later r.0, r.1)

pub in_take : {X : Type 0} (n : ℕ) (xs : List X) (x : X) → Contains (take n xs) x → Contains xs x
in_take zero xs x (k, below, at) = absurd (let z : ⊥ = omega (arith, below) in z)
in_take (suc n) [] x (k, below, at) = absurd (let z : ⊥ = omega (arith, below) in z)
in_take (suc n) (y ∷ ys) x (zero, below, at) = (zero, omega arith, at)
in_take (suc n) (y ∷ ys) x (suc k, below, at) =
    let r = in_take n ys x (k, omega (arith, below), at) in
    let b = r.1 in (suc r.0, omega (arith, b), r.2)

-- each chunk that waits can be spelled
pub valid_in : (chunks : List Chunk) → AreValid chunks → (c : Chunk) → Contains chunks c → IsTrue (is_chunk (chunk_of c))
valid_in chunks valid c one = subst (λ x. IsTrue (is_chunk (chunk_of x))) one.2 (valid one.0 c one.1)

-- each is of a known stream, and of the cluster
pub record IsOwned (b : Basis) (c : Chunk) : Type 0 where
  pub owner : ℕ
  pub there : slice_get b.streams owner ≡ Some (stream_of_chunk c)
  pub cluster : c.cluster ≡ b.cluster

pub owned_in : (b : Basis) (owners : List ℕ) (chunks : List Chunk) → AreOwned b owners chunks → (c : Chunk) → Contains chunks c → IsOwned b c
owned_in b [] [] owned c (k, below, at) = absurd (let z : ⊥ = omega (arith, below) in z)
owned_in b [] (x ∷ chunks) owned c one = absurd owned
owned_in b (i ∷ owners) [] owned c one = absurd owned
owned_in b (i ∷ owners) (x ∷ chunks) owned c (zero, below, at) =
    subst (IsOwned b) at (record { owner = i; there = owned.0; cluster = owned.1 })
owned_in b (i ∷ owners) (x ∷ chunks) owned c (suc k, below, at) = owned_in b owners chunks owned.2 c (k, omega (arith, below), at)
