use Rattle.std.proofs.Common.{◌≡◌, ◌∙◌, sym, ap, []}
use Rattle.std.proofs.lemmas.List.{nil_from_length}
use Rattle.std.proofs.lemmas.Bool.{eqb-true}
use Rattle.chk_http.specs.Queries.{stems_in}
use Rattle.chk_http.proofs.QueryLemmas.{stems_in-nothing, first_listed, next_item, next_is}
use Rattle.chk_http.proofs.stem_list.StemList.next.Goals as goal

pub returns-then-is_empty-clause-end : goal.returns-then-is_empty-clause-end
returns-then-is_empty-clause-end c =
    let text = c.self.inside.rest.now in
    let empty : text ≡ [] = nil_from_length text (eqb-true _ 0 (sym c.is_empty.ensures ∙ c.if-is_empty.true)) in
    let nothing = sym c.self.view_is ∙ (ap stems_in empty ∙ stems_in-nothing) in
    (nothing, nothing)

pub invariant_of-self : goal.invariant_of-self
invariant_of-self c =
    (first_listed c.self.inside.rest.now c.first_part.result.0.now c.first_part.result.1.now c.is_empty.result c.self.invariant
    c.is_empty.ensures c.if-is_empty.false c.first_part.ensures).rest

pub returns-clause-item : goal.returns-clause-item
returns-clause-item c =
    let f = first_listed c.self.inside.rest.now c.first_part.result.0.now c.first_part.result.1.now c.is_empty.result c.self.invariant
    c.is_empty.ensures c.if-is_empty.false c.first_part.ensures in
    next_item c.read.result f.stem c.args.self.now (stems_in c.first_part.result.1.now) (c.read.ensures ∙ f.reads) (sym c.self.view_is ∙ f.all)

pub returns-clause-end : goal.returns-clause-end
returns-clause-end c =
    let f = first_listed c.self.inside.rest.now c.first_part.result.0.now c.first_part.result.1.now c.is_empty.result c.self.invariant
    c.is_empty.ensures c.if-is_empty.false c.first_part.ensures in
    next_is c.read.result f.stem _ (c.read.ensures ∙ f.reads)
