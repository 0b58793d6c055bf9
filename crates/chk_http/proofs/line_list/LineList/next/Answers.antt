use Rattle.std.proofs.Common.{◌∙◌, sym}
use Rattle.chk_http.proofs.LineLemmas.{listed_next, listed_line}
use Rattle.chk_http.proofs.line_list.LineList.next.Goals as goal

pub invariant_of-self : goal.invariant_of-self
invariant_of-self c =
    (listed_next c.self.inside.left c.self.inside.rest.now c.in-Some.line c.if-self-eq0.false c.self.invariant c.in-Some.ensures).1

pub returns-in-Some-clause-item : goal.returns-in-Some-clause-item
returns-in-Some-clause-item c =
    sym c.self.view_is
    ∙ (listed_next c.self.inside.left c.self.inside.rest.now c.in-Some.line c.if-self-eq0.false c.self.invariant c.in-Some.ensures).0

pub returns-in-None-clause-end : goal.returns-in-None-clause-end
returns-in-None-clause-end c =
    absurd (listed_line c.self.inside.left c.self.inside.rest.now c.if-self-eq0.false c.self.invariant c.in-None.ensures)
