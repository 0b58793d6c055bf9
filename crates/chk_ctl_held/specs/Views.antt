-- Groups by the places of their heads.
use Rattle.std.specs.Prelude.{ℕ, ◌+◌, ◌<◌, ◌≤◌, List, slice_index_or}
use Rattle.chk_record_index.specs.Heads.{Head}
use Rattle.chk_record_index.specs.Order.{no_head}
use Rattle.chk_ctl_held.specs.Groups.{Group}
use Rattle.chk_ctl_held.specs.declared.groups.Group.{Group as Struct}

abbrev pub group_view : List Head → Struct → Group
group_view heads g = record {
  head = slice_index_or heads g.first no_head;
  count = g.count;
  end = g.end;
}

-- its heads stand in front of this place
abbrev pub IsGroup : List Head → ℕ → Struct → Type 0
IsGroup heads past g = (g.first < past) × (g.first + g.count ≤ past)
