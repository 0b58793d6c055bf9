use Rattle.std.proofs.Common.{◌≡◌, ℕ, ◌<◌, false, get_or}
use Rattle.chk_tee_sender.specs.Sieves.{mark_of, same_collector}
use Rattle.chk_tee_sender.proofs.sieve.find.Given as goal

-- none before is the collector's
abbrev pub invariant-loop-i : goal.invariant-loop-i
invariant-loop-i l =
    (k : ℕ) → k < l.i → same_collector (get_or l.marks k (mark_of l.stem l.offset)) (mark_of l.stem l.offset) ≡ false
