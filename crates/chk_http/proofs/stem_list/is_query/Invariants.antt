use Rattle.std.proofs.Common.{◌-◌}
use Rattle.chk_http.proofs.QueryLemmas.{IsLooked}
use Rattle.chk_http.proofs.stem_list.is_query.Given as goal

abbrev pub invariant-loop-taken : goal.invariant-loop-taken
invariant-loop-taken l = IsLooked l.text l.rest (64 - l._taken)
