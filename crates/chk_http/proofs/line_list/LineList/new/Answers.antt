use Rattle.chk_http.proofs.LineLemmas.{lines_listed}
use Rattle.chk_http.proofs.line_list.LineList.new.Goals as goal

pub invariant_of-result : goal.invariant_of-result
invariant_of-result c =
    let q = c.are_lines.ensures.lines c.if-not-are_lines.false in lines_listed c.args.count q.0 c.args.body.now q.1

pub returns-clause-lines : goal.returns-clause-lines
returns-clause-lines c =
    let q = c.are_lines.ensures.lines c.if-not-are_lines.false in lines_listed c.args.count q.0 c.args.body.now q.1
