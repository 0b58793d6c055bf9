use Rattle.std.proofs.Common.{◌≡◌, ℕ, ◌<◌, false}
use Rattle.chk_archive_parts.specs.Kept.{goes_on}
use Rattle.chk_archive_parts.proofs.kept.has_repeats.Given as goal

abbrev pub invariant-loop-place : goal.invariant-loop-place
invariant-loop-place l = (i : ℕ) → i < l.place → goes_on l.heads l.cuts i ≡ false
