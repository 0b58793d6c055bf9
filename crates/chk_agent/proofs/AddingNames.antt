-- Lines under a name that no live one has.
use Rattle.std.proofs.Common.{◌≡◌, ℕ, zero, suc, ◌+◌, Bool, true, false, ◌&&◌, ◌||◌, not, List, []}
use Rattle.std.proofs.Common.{◌∷◌, ◌++◌, map, bytes_eq, Some, None, ap, sym, subst, ◌∙◌, refl}
use Rattle.std.proofs.Common.{true≢false, if◌then◌else◌}
use Rattle.std.specs.Prelude.{slice_get, slice_set}
use Rattle.std.specs.List.{list_any}
use Rattle.std.proofs.lemmas.Bool.{and_parts, and_from}
use Rattle.std.proofs.lemmas.Option.{same_Some, none-some}
use Rattle.chk_world.specs.Checkpoints.{same_log, clash, are_apart}
use Rattle.chk_world.proofs.Ends.{bytes_same, bytes_self}
use Rattle.chk_agent_adaptor.specs.Adaptors.{Adaptor, is_past, line_at, revived}
use Rattle.chk_agent.specs.Adds.{Found, named_in, stream_in}
use Rattle.chk_control.proofs.SpelledLemmas.{false_from_not as not-true}
use Rattle.chk_agent_delivery.proofs.Due.{neither}

-- no live one has the name
abbrev pub IsFree : List ℕ → Adaptor → Type 0
IsFree name a = (not (is_past a.phase) && bytes_eq a.name name) ≡ false

pub free_first : (name : List ℕ) (i : ℕ) (a : Adaptor) (adaptors : List Adaptor) → named_in name i (a ∷ adaptors) ≡ None
    → IsFree name a × (named_in name (i + 1) adaptors ≡ None)
free_first name i a adaptors none = go (not (is_past a.phase) && bytes_eq a.name name) none
  where
    go : (b : Bool) → (if b then Some i else named_in name (i + 1) adaptors) ≡ None → (b ≡ false) × (named_in name (i + 1) adaptors ≡ None)
    go true e = absurd (none-some i (sym e))
    go false e = (refl, e)

pub other_first : (kind path : List ℕ) (i : ℕ) (a : Adaptor) (adaptors : List Adaptor) → stream_in kind path i (a ∷ adaptors) ≡ None
    → ((bytes_eq a.kind kind && bytes_eq a.path path) ≡ false) × (stream_in kind path (i + 1) adaptors ≡ None)
other_first kind path i a adaptors none = go (bytes_eq a.kind kind && bytes_eq a.path path) none
  where
    go : (b : Bool) → (if b then Some (record { number = i; adaptor = a }) else stream_in kind path (i + 1) adaptors) ≡ None
        → (b ≡ false) × (stream_in kind path (i + 1) adaptors ≡ None)
    go true e = let found : Found = record { number = i; adaptor = a } in absurd (none-some found (sym e))
    go false e = (refl, e)

turned : (live : Bool) (a b : List ℕ) → (live && bytes_eq a b) ≡ false → (live && bytes_eq b a) ≡ false
turned false a b e = refl
turned true a b e = go (bytes_eq b a) refl
  where
    go : (x : Bool) → bytes_eq b a ≡ x → x ≡ false
    go true is = absurd (true≢false (sym (bytes_self a) ∙ (ap (bytes_eq a) (sym (bytes_same b a is)) ∙ e)))
    go false is = refl

-- a live one of that name clashes with none of them, where it is of another stream
pub clash_after : (a b : Adaptor) → same_log (line_at 0 a) (line_at 0 b) ≡ false → IsFree b.name a → is_past b.phase ≡ false
    → clash (line_at 0 a) (line_at 0 b) ≡ false
clash_after a b other free live = go (same_log (line_at 0 a) (line_at 0 b)) (is_past b.phase) other live (not (is_past a.phase)) free
  where
    go : (s p : Bool) → s ≡ false → p ≡ false → (l : Bool) → (l && bytes_eq a.name b.name) ≡ false
        → (s || (l && (not p && bytes_eq a.name b.name))) ≡ false
    go true p e f l free = absurd (true≢false e)
    go false true e f l free = absurd (true≢false f)
    go false false e f l free = free

clash_before : (a b : Adaptor) → same_log (line_at 0 b) (line_at 0 a) ≡ false → IsFree b.name a → clash (line_at 0 b) (line_at 0 a) ≡ false
clash_before a b other free = go (same_log (line_at 0 b) (line_at 0 a)) (not (is_past b.phase)) other
  where
    go : (s l : Bool) → s ≡ false → (s || (l && (not (is_past a.phase) && bytes_eq b.name a.name))) ≡ false
    go true l e = absurd (true≢false e)
    go false true e = turned (not (is_past a.phase)) a.name b.name free
    go false false e = refl

-- a past one lives again under a free name
none_before : (a : Adaptor) (name : List ℕ) (i : ℕ) (adaptors : List Adaptor) → named_in name i adaptors ≡ None
    → list_any (clash (line_at 0 a)) (map (line_at 0) adaptors) ≡ false
    → list_any (clash (line_at 0 (revived name a))) (map (line_at 0) adaptors) ≡ false
none_before a name i [] free apart = refl
none_before a name i (b ∷ adaptors) free apart =
    let f = free_first name i b adaptors free in
    let n = neither (clash (line_at 0 a) (line_at 0 b)) _ apart in
    ap (λ t. t || list_any (clash (line_at 0 (revived name a))) (map (line_at 0) adaptors))
    (clash_before b (revived name a) (neither (same_log (line_at 0 a) (line_at 0 b)) _ n.0).0 f.0)
    ∙ none_before a name (i + 1) adaptors f.1 n.1

none_at : (b a : Adaptor) (name : List ℕ) (adaptors : List Adaptor) (n : ℕ) → IsFree name b → slice_get adaptors n ≡ Some a
    → list_any (clash (line_at 0 b)) (map (line_at 0) adaptors) ≡ false
    → list_any (clash (line_at 0 b)) (map (line_at 0) (slice_set adaptors n (revived name a))) ≡ false
none_at b a name [] n free at apart = refl
none_at b a name (x ∷ adaptors) zero free at apart =
    let n = neither (clash (line_at 0 b) (line_at 0 x)) _ apart in
    let other : same_log (line_at 0 b) (line_at 0 a) ≡ false =
    subst (λ x. same_log (line_at 0 b) (line_at 0 x) ≡ false) (same_Some x a at) (neither (same_log (line_at 0 b) (line_at 0 x)) _ n.0).0 in
    ap (λ t. t || list_any (clash (line_at 0 b)) (map (line_at 0) adaptors)) (clash_after b (revived name a) other free refl) ∙ n.1
none_at b a name (x ∷ adaptors) (suc n) free at apart =
    let k = neither (clash (line_at 0 b) (line_at 0 x)) _ apart in
    ap (λ t. t || list_any (clash (line_at 0 b)) (map (line_at 0) (slice_set adaptors n (revived name a)))) k.0
    ∙ none_at b a name adaptors n free at k.1

pub apart_revived : (name : List ℕ) (i : ℕ) (adaptors : List Adaptor) (n : ℕ) (a : Adaptor) → slice_get adaptors n ≡ Some a
    → named_in name i adaptors ≡ None → are_apart (map (line_at 0) adaptors) ≡ true
    → are_apart (map (line_at 0) (slice_set adaptors n (revived name a))) ≡ true
apart_revived name i [] n a at free apart = absurd (none-some a at)
apart_revived name i (x ∷ adaptors) zero a at free apart =
    let p = and_parts (not (list_any (clash (line_at 0 x)) (map (line_at 0) adaptors))) _ apart in
    let f = free_first name i x adaptors free in
    and_from (not (list_any (clash (line_at 0 (revived name a))) (map (line_at 0) adaptors))) _
    (ap not (none_before a name (i + 1) adaptors f.1
    (subst (λ x. list_any (clash (line_at 0 x)) (map (line_at 0) adaptors) ≡ false) (same_Some x a at)
    (not-true (list_any (clash (line_at 0 x)) (map (line_at 0) adaptors)) p.0)))) p.1
apart_revived name i (x ∷ adaptors) (suc n) a at free apart =
    let p = and_parts (not (list_any (clash (line_at 0 x)) (map (line_at 0) adaptors))) _ apart in
    let f = free_first name i x adaptors free in
    and_from (not (list_any (clash (line_at 0 x)) (map (line_at 0) (slice_set adaptors n (revived name a))))) _
    (ap not (none_at x a name adaptors n f.0 at (not-true (list_any (clash (line_at 0 x)) (map (line_at 0) adaptors)) p.0)))
    (apart_revived name (i + 1) adaptors n a at f.1 p.1)

-- a new one comes behind the others
none_behind : (b a : Adaptor) (adaptors : List Adaptor) → clash (line_at 0 b) (line_at 0 a) ≡ false
    → list_any (clash (line_at 0 b)) (map (line_at 0) adaptors) ≡ false
    → list_any (clash (line_at 0 b)) (map (line_at 0) (adaptors ++ a ∷ [])) ≡ false
none_behind b a [] new apart = ap (λ t. t || false) new
none_behind b a (x ∷ adaptors) new apart =
    let k = neither (clash (line_at 0 b) (line_at 0 x)) _ apart in
    ap (λ t. t || list_any (clash (line_at 0 b)) (map (line_at 0) (adaptors ++ a ∷ []))) k.0 ∙ none_behind b a adaptors new k.1

pub apart_more : (a : Adaptor) → is_past a.phase ≡ false → (i j : ℕ) (adaptors : List Adaptor)
    → stream_in a.kind a.path i adaptors ≡ None → named_in a.name j adaptors ≡ None
    → are_apart (map (line_at 0) adaptors) ≡ true → are_apart (map (line_at 0) (adaptors ++ a ∷ [])) ≡ true
apart_more a live i j [] other free apart = refl
apart_more a live i j (x ∷ adaptors) other free apart =
    let p = and_parts (not (list_any (clash (line_at 0 x)) (map (line_at 0) adaptors))) _ apart in
    let f = free_first a.name j x adaptors free in
    let o = other_first a.kind a.path i x adaptors other in
    and_from (not (list_any (clash (line_at 0 x)) (map (line_at 0) (adaptors ++ a ∷ [])))) _
    (ap not (none_behind x a adaptors (clash_after x a o.0 f.0 live)
    (not-true (list_any (clash (line_at 0 x)) (map (line_at 0) adaptors)) p.0)))
    (apart_more a live (i + 1) (j + 1) adaptors o.1 f.1 p.1)
