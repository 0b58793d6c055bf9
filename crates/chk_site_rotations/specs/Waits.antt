-- How long a renamed file is waited for.
use Rattle.std.specs.Prelude.{◌≡◌, ◌⊎◌, ◌<◌, ◌≤◌, ℕ, ◌-◌, true, List, [], ◌∷◌}
use Rattle.chk_site_rotations.specs.declared.holding.Holding.{Holding}
use Rattle.chk_site_rotations.specs.Holdings.{is_over, looked}

-- a look at the file: its size then, and the moment
pub record Look : Type 0 where
  pub size : ℕ
  pub at : ℕ

-- the looks, the last one first
abbrev pub after : List Look → Holding → Holding
after [] h = h
after (l ∷ looks) h = looked l.size l.at (after looks h)

-- none of them was later
abbrev pub AreBy : ℕ → List Look → Type 0
AreBy now [] = Unit
AreBy now (l ∷ looks) = (l.at ≤ now) × AreBy now looks

-- each was made no earlier than those before it
abbrev pub AreRising : List Look → Type 0
AreRising [] = Unit
AreRising (l ∷ looks) = AreBy l.at looks × AreRising looks

-- those of the last three seconds found this size
abbrev pub FoundIn : ℕ → ℕ → List Look → Type 0
FoundIn now size [] = Unit
FoundIn now size (l ∷ looks) = (now - l.at < 3000 → l.size ≡ size) × FoundIn now size looks

-- where the wait is over, the file had one size at all looks of the last three seconds, or sixty have passed
abbrev pub WaitsForQuiet : Type 0
WaitsForQuiet =
    (h : Holding) (looks : List Look) (now : ℕ) → AreRising looks
    → is_over now (after looks h) ≡ true
    → (60000 ≤ now - h.since) ⊎ FoundIn now (after looks h).size looks
