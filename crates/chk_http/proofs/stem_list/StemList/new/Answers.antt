use Rattle.std.proofs.Common.{subst, List, ℕ}
use Rattle.chk_http.specs.Queries.{AreUpTo, stems_in}
use Rattle.chk_http.proofs.QueryLemmas.{query_listed, query_lists}
use Rattle.chk_http.proofs.stem_list.StemList.new.Goals as goal

pub invariant_of-result : goal.invariant_of-result
invariant_of-result c =
    let q = c.is_query.ensures.stems c.if-is_query.true in query_listed q.0 c.as_bytes-rest.result.now q.1

pub returns-then-is_query-clause-some : goal.returns-then-is_query-clause-some
returns-then-is_query-clause-some c =
    let q = c.is_query.ensures.stems c.if-is_query.true in
    let P : List ℕ → Type 0 = λ t. AreUpTo 64 (stems_in c.as_bytes-rest.result.now) t in
    subst P c.as_bytes-rest.ensures.value (query_lists q.0 c.as_bytes-rest.result.now q.1)
