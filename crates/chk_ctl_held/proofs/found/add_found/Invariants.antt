use Rattle.std.proofs.Common.{◌≡◌, ◌++◌, map, take}
use Rattle.std.specs.Prelude.{flat_map}
use Rattle.chk_ctl_held.specs.Elsewhere.{found_in}
use Rattle.chk_ctl_held.specs.Stores.{lent_gap, seen_of}
use Rattle.chk_ctl_held.proofs.found.add_found.Given as goal

abbrev pub invariant-loop-store : goal.invariant-loop-store
invariant-loop-store l =
    l.lines
    ≡ l.fn.lines ++ flat_map (found_in (lent_gap l.gap)) (map seen_of (take l.store-index l.stores))
