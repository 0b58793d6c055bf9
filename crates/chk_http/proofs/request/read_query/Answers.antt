use Rattle.chk_http.proofs.QueryLemmas.{query_utf8}
use Rattle.chk_http.proofs.request.read_query.Goals as goal

pub unreachable-requires : goal.unreachable-requires
unreachable-requires c =
    let q = c.is_query.ensures.stems c.if-not-is_query.false in
    c.in-Err.ensures.cases.0 (query_utf8 q.0 c.args.query.now q.1)
