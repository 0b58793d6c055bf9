use Rattle.std.proofs.Common.{◌≡◌, ◌≤◌, ◌+◌, ◌-◌, ◌==◌, ℕ, Bool, length, not, take}
use Rattle.std.specs.List.{suffix_len}
use Rattle.chk_ctl_status.proofs.free.behind_last.Given as goal

abbrev pub invariant-loop-at : goal.invariant-loop-at
invariant-loop-at l =
    let passes : ℕ → Bool = λ b. not (b == l.byte) in
    (l.at ≤ length l.text)
    × (suffix_len passes l.text
    ≡ length l.text - l.at + suffix_len passes (take l.at l.text))

abbrev pub decreases-loop-at : goal.decreases-loop-at
decreases-loop-at l = l.at
