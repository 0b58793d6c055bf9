-- The join of archives that agree.
use Rattle.std.proofs.Common.{◌≡◌, ◌⊎◌, inl, inr, ℕ, ◌≤◌, Bool, true, false, List, [], ◌∷◌, ◌++◌}
use Rattle.std.proofs.Common.{length, Option, Some, None, ap, ap₂, sym, ◌∙◌, refl, arith}
use Rattle.std.proofs.Common.{length-append, append-nil, if◌then◌else◌}
use Rattle.std.specs.Prelude.{nat_lt}
use Rattle.std.proofs.lemmas.Bool.{ltb-true, ltb-false, le-ltb, lt-ltb, cond_both}
use Rattle.std.proofs.lemmas.List.{nil_from_length}
use Rattle.chk_bytes.specs.Words.{BeginsWith}
use Rattle.chk_join.specs.Archives.{Archived, longer, AgreeAt, IsFrontOf}
use Rattle.chk_join.specs.Laws.{JoinLaws}

-- a front that is as long is all of it
same_front : (a b : List ℕ) → BeginsWith a b → length a ≤ length b → a ≡ b
same_front a b f le =
    let size = ap length f.1 in
    let both = length-append b f.0 in
    f.1 ∙ (ap (λ l. b ++ l) (nil_from_length f.0 (omega (arith, size, both, le))) ∙ append-nil b)

same_bytes : (a b : List ℕ) → BeginsWith a b ⊎ BeginsWith b a → length a ≡ length b → a ≡ b
same_bytes a b (inl f) e = same_front a b f (omega (arith, e))
same_bytes a b (inr f) e = sym (same_front b a f (omega (arith, e)))

same_archived : (a b : Archived) → a.start ≡ b.start → a.bytes ≡ b.bytes → a ≡ b
same_archived a b p q = λ i. record { start = p i; bytes = q i }

twice_at : (o : Option Archived) → longer o o ≡ o
twice_at None = refl
twice_at (Some a) =
    cond_both (nat_lt (length a.bytes) (length a.bytes)) (Some a) (Some a) (λ x. x ≡ Some a) (λ e. refl) (λ e. refl)

turned_at : (o p : Option Archived) → AgreeAt o p → longer o p ≡ longer p o
turned_at None None h = refl
turned_at None (Some b) h = refl
turned_at (Some a) None h = refl
turned_at (Some a) (Some b) h =
    go (nat_lt (length a.bytes) (length b.bytes)) refl (nat_lt (length b.bytes) (length a.bytes)) refl
  where
    go : (x : Bool) → nat_lt (length a.bytes) (length b.bytes) ≡ x → (y : Bool) → nat_lt (length b.bytes) (length a.bytes) ≡ y
        → (if x then Some b else Some a) ≡ (if y then Some a else Some b)
    go true e true k =
        let u = ltb-true (length a.bytes) (length b.bytes) e in
        let v = ltb-true (length b.bytes) (length a.bytes) k in
        absurd (let z : ⊥ = omega (arith, u, v) in z)
    go true e false k = refl
    go false e true k = refl
    go false e false k =
        let u = ltb-false (length a.bytes) (length b.bytes) e in
        let v = ltb-false (length b.bytes) (length a.bytes) k in
        ap Some (same_archived a b h.0 (same_bytes a.bytes b.bytes h.1 (omega (arith, u, v))))

three_at : (o p q : Option Archived) → longer (longer o p) q ≡ longer o (longer p q)
three_at None p q = refl
three_at (Some a) None q = refl
three_at (Some a) (Some b) None = go (nat_lt (length a.bytes) (length b.bytes))
  where
    go : (x : Bool) → longer (if x then Some b else Some a) None ≡ (if x then Some b else Some a)
    go true = refl
    go false = refl
three_at (Some a) (Some b) (Some c) =
    go (nat_lt (length a.bytes) (length b.bytes)) refl (nat_lt (length b.bytes) (length c.bytes)) refl
    (nat_lt (length a.bytes) (length c.bytes)) refl
  where
    go : (x : Bool) → nat_lt (length a.bytes) (length b.bytes) ≡ x → (y : Bool) → nat_lt (length b.bytes) (length c.bytes) ≡ y
        → (z : Bool) → nat_lt (length a.bytes) (length c.bytes) ≡ z
        → longer (if x then Some b else Some a) (Some c) ≡ longer (Some a) (if y then Some c else Some b)
    go true e true k z m =
        let u = ltb-true (length a.bytes) (length b.bytes) e in
        let v = ltb-true (length b.bytes) (length c.bytes) k in
        ap (λ y. if y then Some c else Some b) k
        ∙ sym (ap (λ y. if y then Some c else Some a) (lt-ltb (length a.bytes) (length c.bytes) (omega (arith, u, v))))
    go true e false k z m =
        ap (λ y. if y then Some c else Some b) k ∙ sym (ap (λ x. if x then Some b else Some a) e)
    go false e true k z m = refl
    go false e false k z m =
        let u = ltb-false (length a.bytes) (length b.bytes) e in
        let v = ltb-false (length b.bytes) (length c.bytes) k in
        ap (λ y. if y then Some c else Some a) (le-ltb (length a.bytes) (length c.bytes) (omega (arith, u, v)))
        ∙ sym (ap (λ x. if x then Some b else Some a) e)

-- of two fronts of one list, one is a front of the other
fronts_of_one : (l a b : List ℕ) → BeginsWith l a → BeginsWith l b → BeginsWith a b ⊎ BeginsWith b a
fronts_of_one l [] b f g = inr (b, refl)
fronts_of_one l (x ∷ a) [] f g = inl (x ∷ a, refl)
fronts_of_one l (x ∷ a) (y ∷ b) f g =
    let both : x ∷ a ++ f.0 ≡ y ∷ b ++ g.0 = sym f.1 ∙ g.1 in
    let head : x ≡ y = cc in
    let tail : a ++ f.0 ≡ b ++ g.0 = cc in
    with_head head (fronts_of_one (a ++ f.0) a b (f.0, refl) (g.0, tail))
  where
    with_head : x ≡ y → BeginsWith a b ⊎ BeginsWith b a → BeginsWith (x ∷ a) (y ∷ b) ⊎ BeginsWith (y ∷ b) (x ∷ a)
    with_head e (inl h) = inl (h.0, ap₂ (λ w m. w ∷ m) e h.1)
    with_head e (inr h) = inr (h.0, ap₂ (λ w m. w ∷ m) (sym e) h.1)

prefixes_at : (log o p : Option Archived) → IsFrontOf log o → IsFrontOf log p → AgreeAt o p
prefixes_at log None p f g = tt
prefixes_at log (Some a) None f g = tt
prefixes_at None (Some a) (Some b) f g = absurd f
prefixes_at (Some log) (Some a) (Some b) f g = (sym f.0 ∙ g.0, fronts_of_one log.bytes a.bytes b.bytes f.1 g.1)

joined_at : (log o p : Option Archived) → IsFrontOf log o → IsFrontOf log p → IsFrontOf log (longer o p)
joined_at log None p f g = g
joined_at log (Some a) None f g = f
joined_at None (Some a) (Some b) f g = absurd f
joined_at (Some log) (Some a) (Some b) f g =
    cond_both (nat_lt (length a.bytes) (length b.bytes)) (Some b) (Some a) (λ o. IsFrontOf (Some log) o) (λ e. g) (λ e. f)

pub join_laws : JoinLaws
join_laws = record {
  twice = λ a s. twice_at (a s);
  turned = λ a b h s. turned_at (a s) (b s) (h s);
  three = λ a b c p q r s. three_at (a s) (b s) (c s);
  prefixes = λ logs a b p q s. prefixes_at (logs s) (a s) (b s) (p s) (q s);
  joined = λ logs a b p q s. joined_at (logs s) (a s) (b s) (p s) (q s);
}
