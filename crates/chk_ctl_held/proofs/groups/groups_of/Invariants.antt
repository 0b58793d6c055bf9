use Rattle.std.proofs.Common.{◌≡◌, ◌<◌, length}
use Rattle.std.specs.Prelude.{All}
use Rattle.chk_ctl_held.specs.Groups.{groups}
use Rattle.chk_ctl_held.specs.Views.{IsGroup}
use Rattle.chk_ctl_held.specs.declared.groups.Group.{Group}
use Rattle.chk_ctl_held.proofs.Grouped.{groups_with}
use Rattle.chk_ctl_held.proofs.groups.groups_of.Given as goal

abbrev pub invariant-loop-index : goal.invariant-loop-index
invariant-loop-index l = record {
  well : IsGroup l.heads l.index l.group;
  low : l.group.first < length l.heads;
  done : All (λ (g : Group). g.first < length l.heads) l.done.items;
  is : groups_with l.done.items l.heads l.group l.index ≡ groups l.heads;
}
