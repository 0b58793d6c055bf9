use Rattle.std.proofs.Common.{◌≡◌, ◌∙◌, ◌+◌, ◌-◌, ◌<◌, ◌≤◌, sym, subst, List, ℕ, arith}
use Rattle.std.proofs.lemmas.Bool.{eqb-true}
use Rattle.std.proofs.lemmas.List.{nil_from_length}
use Rattle.chk_http.proofs.LineLemmas.{IsReadTo, read_more, read_refused, read_all}
use Rattle.chk_http.proofs.line_list.are_lines.Goals as goal

-- how many lines may come, one of which is this
one_of : (i count : ℕ) → i < count → count - i ≡ (count - (i + 1)) + 1
one_of i count below = omega arith

none_left : (i count : ℕ) → count ≤ i → count - i ≡ 0
none_left i count past = omega arith

read_on : (count : ℕ) (body rest : List ℕ) (i : ℕ) → i < count → IsReadTo count body rest (count - i)
    → IsReadTo count body rest ((count - (i + 1)) + 1)
read_on count body rest i below so_far = subst (IsReadTo count body rest) (one_of i count below) so_far

pub returns-in-None-clause-none : goal.returns-in-None-clause-none
returns-in-None-clause-none c acks lines =
    let i = c.loop-taken._taken in
    absurd (read_refused c.args.count c.args.body.now c.loop-taken.rest.now (c.args.count - (i + 1)) c.in-None.ensures
    (read_on c.args.count c.args.body.now c.loop-taken.rest.now i c.loop-taken-test.true c.loop-taken.invariant) acks lines)

pub loop-taken-preserved : goal.loop-taken-preserved
loop-taken-preserved c =
    let i = c.loop-taken._taken in
    read_more c.args.count c.args.body.now c.loop-taken.rest.now (c.args.count - (i + 1)) c.in-Some.line c.in-Some.ensures
    (read_on c.args.count c.args.body.now c.loop-taken.rest.now i c.loop-taken-test.true c.loop-taken.invariant)

pub returns-clause-lines : goal.returns-clause-lines
returns-clause-lines c is =
    let rest = c.loop-taken.rest.now in
    read_all c.args.count c.args.body.now rest (nil_from_length rest (eqb-true _ 0 (sym c.is_empty.ensures ∙ is)))
    (subst (IsReadTo c.args.count c.args.body.now rest) (none_left c.loop-taken._taken c.args.count c.loop-taken-test.false) c.loop-taken.invariant)
