use Rattle.std.proofs.Common.{◌≡◌, ℕ, zero, suc, ◌<◌, false, List, refl, arith}
use Rattle.chk_record_index.specs.Heads.{Head}
use Rattle.chk_archive_parts.specs.declared.cuts.Cut.{Cut}
use Rattle.chk_archive_parts.specs.Kept.{goes_on}
use Rattle.chk_archive_parts.proofs.kept.has_repeats.Goals as goal

-- none stands before the first one
first_alone : (heads : List Head) (cuts : List Cut) (i : ℕ) → i < 1 → goes_on heads cuts i ≡ false
first_alone heads cuts zero low = refl
first_alone heads cuts (suc i) low = absurd (let z : ⊥ = omega (arith, low) in z)

pub loop-place-init : goal.loop-place-init
loop-place-init c = first_alone c.args.heads.now c.args.cuts.now
