use Rattle.std.proofs.Common.{◌≡◌, ◌++◌, map, take}
use Rattle.std.specs.Prelude.{flat_map}
use Rattle.chk_book.specs.Views.{end_view}
use Rattle.chk_ctl_held.specs.Elsewhere.{group_lines}
use Rattle.chk_ctl_held.specs.Stores.{others_of}
use Rattle.chk_ctl_held.specs.Views.{group_view}
use Rattle.chk_ctl_held.proofs.lines.add_groups.Given as goal

abbrev pub invariant-loop-group : goal.invariant-loop-group
invariant-loop-group l =
    l.lines
    ≡ l.fn.lines ++ flat_map (group_lines (map end_view l.waiting.book.ends) (others_of l.others))
    (map (group_view l.waiting.heads) (take l.group-index l.group-items))
