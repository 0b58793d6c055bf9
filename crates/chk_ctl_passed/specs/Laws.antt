-- What holds of verdicts.
use Rattle.std.specs.Prelude.{◌≡◌, ℕ, IsTrue, List, Contains, Some}
use Rattle.chk_bytes.specs.Words.{text_lt}
use Rattle.chk_world.specs.Checkpoints.{Line}
use Rattle.chk_ctl_passed.specs.declared.oldest.Oldest.TheVariants.{Rotated}
use Rattle.chk_ctl_passed.specs.declared.judging.Verdict.TheVariants.{Passed}
use Rattle.chk_ctl_passed.specs.Judging.{verdict_of}

-- the line's place is behind a generation, which is this one or comes after it
abbrev pub IsBehind : Line → List ℕ → Type 0
IsBehind l suffix =
    (after : List ℕ) × (l.after ≡ Some after) × (IsTrue (text_lt after suffix) → ⊥)

abbrev pub PassedIsBehind : Type 0
PassedIsBehind =
    (lines : List Line) (path suffix : List ℕ) (l : Line)
    → verdict_of lines path (Rotated suffix) ≡ Passed → Contains lines l → l.path ≡ path
    → IsBehind l suffix
