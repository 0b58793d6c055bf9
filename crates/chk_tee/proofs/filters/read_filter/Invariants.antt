use Rattle.std.proofs.Common.{◌≡◌, ◌≤◌, ◌+◌, ◌-◌, length, drop}
use Rattle.chk_bytes.specs.Words.{parts_at}
use Rattle.chk_tee.specs.Filters.{filter_from, filter_in}
use Rattle.chk_tee.proofs.filters.read_filter.Given as goal

-- what the parts from here on add to the filter is what the text is
abbrev pub invariant-loop-size : goal.invariant-loop-size
invariant-loop-size l = record {
  same : filter_from l.at l.filter (parts_at 38 (drop l.at l.text)) ≡ filter_in l.text;
  within : l.at ≤ length l.text;
}

abbrev pub decreases-loop-size : goal.decreases-loop-size
decreases-loop-size l = length l.text + 1 - l.at
