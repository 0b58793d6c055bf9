use Rattle.std.proofs.Common.{◌≡◌, ◌++◌, List, ℕ, drop}
use Rattle.std.specs.Prelude.{flat_map}
use Rattle.std.specs.Borrow.{Bor}
use Rattle.chk_ctl_metrics.specs.Families.{absent_row}
use Rattle.chk_ctl_metrics.proofs.families.put_absent.Given as goal

abbrev pub invariant-loop-folder : goal.invariant-loop-folder
invariant-loop-folder l =
    let row : Bor (List ℕ) → List ℕ = λ w. absent_row w.now in
    l.out ++ flat_map row (drop l.folder-index l.absent) ≡ l.initial.out ++ flat_map row l.absent
