-- A holding that is over had one size for three seconds, or has lasted for sixty.
use Rattle.std.proofs.Common.{◌≡◌, ℕ, ◌<◌, ◌≤◌, ◌-◌, Bool, true, false, List, [], ◌∷◌, inl, inr, refl, subst, ◌∙◌, arith}
use Rattle.std.specs.Prelude.{nat_le, ◌==◌, if◌then◌else◌}
use Rattle.std.proofs.lemmas.Bool.{leb-true, eqb-true, or_cases}
use Rattle.chk_site_rotations.specs.declared.holding.Holding.{Holding}
use Rattle.chk_site_rotations.specs.Holdings.{looked}
use Rattle.chk_site_rotations.specs.Waits.{Look, after, AreBy, AreRising, FoundIn, WaitsForQuiet}

-- the looks later than this moment found this size
abbrev Since : ℕ → ℕ → List Look → Type 0
Since grown size [] = Unit
Since grown size (l ∷ looks) = (grown < l.at → l.size ≡ size) × Since grown size looks

not_both : (a b : ℕ) → a < b → b ≤ a → ⊥
not_both a b lt le = omega (arith, lt, le)

none_later : (at size : ℕ) (looks : List Look) → AreBy at looks → Since at size looks
none_later at size [] by = tt
none_later at size (l ∷ looks) by =
    (λ later. absurd (not_both at l.at later by.0), none_later at size looks by.1)

step : (l : Look) (looks : List Look) (h : Holding) → AreBy l.at looks → Since h.grown h.size looks
    → Since (looked l.size l.at h).grown (looked l.size l.at h).size (l ∷ looks)
step l looks h by s = go (l.size == h.size) refl
  where
    go : (t : Bool) → (l.size == h.size) ≡ t
        → Since (if t then h else record h { size = l.size; grown = l.at }).grown
        (if t then h else record h { size = l.size; grown = l.at }).size (l ∷ looks)
    go true e = (λ _. eqb-true l.size h.size e, s)
    go false e = (λ _. refl, none_later l.at l.size looks by)

one_size : (looks : List Look) (h : Holding) → AreRising looks
    → Since (after looks h).grown (after looks h).size looks
one_size [] h r = tt
one_size (l ∷ looks) h r = step l looks (after looks h) r.0 (one_size looks h r.1)

same_since : (t : Bool) (size at : ℕ) (h : Holding)
    → (if t then h else record h { size = size; grown = at }).since ≡ h.since
same_since true size at h = refl
same_since false size at h = refl

since_stays : (looks : List Look) (h : Holding) → (after looks h).since ≡ h.since
since_stays [] h = refl
since_stays (l ∷ looks) h =
    same_since (l.size == (after looks h).size) l.size l.at (after looks h) ∙ since_stays looks h

later : (now grown at : ℕ) → 3000 ≤ now - grown → now - at < 3000 → grown < at
later now grown at quiet near = omega (arith, quiet, near)

found : (now grown size : ℕ) (looks : List Look) → 3000 ≤ now - grown → Since grown size looks
    → FoundIn now size looks
found now grown size [] quiet s = tt
found now grown size (l ∷ looks) quiet s =
    (λ near. s.0 (later now grown l.at quiet near), found now grown size looks quiet s.1)

pub waits : WaitsForQuiet
waits h looks now rising over =
    let end = after looks h in
    elim (or_cases (nat_le 3000 (now - end.grown)) (nat_le 60000 (now - end.since)) over) [
      | inl quiet ↦ inr (found now end.grown end.size looks (leb-true _ _ quiet) (one_size looks h rising))
      | inr long ↦ inl (subst (λ s. 60000 ≤ now - s) (since_stays looks h) (leb-true _ _ long))
    ]
