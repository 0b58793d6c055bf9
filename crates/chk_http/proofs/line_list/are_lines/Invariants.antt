use Rattle.std.proofs.Common.{◌-◌}
use Rattle.chk_http.proofs.LineLemmas.{IsReadTo}
use Rattle.chk_http.proofs.line_list.are_lines.Given as goal

abbrev pub invariant-loop-taken : goal.invariant-loop-taken
invariant-loop-taken l = IsReadTo l.count l.body l.rest (l.count - l._taken)
