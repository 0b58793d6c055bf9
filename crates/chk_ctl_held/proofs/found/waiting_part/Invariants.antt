use Rattle.std.proofs.Common.{◌≡◌, ◌≤◌, drop}
use Rattle.chk_ctl_held.specs.Elsewhere.{waiting_from, waiting_part}
use Rattle.chk_ctl_held.specs.Order.{IsPlaceOf}
use Rattle.chk_ctl_held.specs.Stores.{lent_gap}
use Rattle.chk_ctl_held.proofs.found.waiting_part.Given as goal

abbrev pub invariant-loop-index : goal.invariant-loop-index
invariant-loop-index l = record {
  from : l.first ≤ l.index;
  place : IsPlaceOf l.heads (lent_gap l.gap).stream l.first;
  is : waiting_from (lent_gap l.gap) l.all (drop l.index l.heads)
      ≡ waiting_part (lent_gap l.gap) l.heads;
}
