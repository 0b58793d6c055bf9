use Rattle.std.proofs.Common.{◌≡◌, ◌∙◌, ◌+◌, ◌-◌, ◌<◌, sym, subst, List, ℕ, arith}
use Rattle.chk_http.proofs.QueryLemmas.{IsLooked, looked_more, looked_refused, looked_last, looked_last_refused, none_there, one_there, some_there, there}
use Rattle.chk_http.proofs.stem_list.is_query.Goals as goal

-- how many parts may come, one of which is this
one_of : (i : ℕ) → i < 64 → 64 - i ≡ (64 - (i + 1)) + 1
one_of i below = omega arith

looked : (text rest : List ℕ) (i : ℕ) → i < 64 → IsLooked text rest (64 - i) → IsLooked text rest ((64 - (i + 1)) + 1)
looked text rest i below l = subst (IsLooked text rest) (one_of i below) l

pub returns-then-is_none-clause-none : goal.returns-then-is_none-clause-none
returns-then-is_none-clause-none c stems are =
    let i = c.loop-taken._taken in
    absurd (looked_refused c.args.text.now c.loop-taken.rest.now c.in-Some.part.now c.in-Some.behind.now (64 - (i + 1))
    (sym c.read.ensures ∙ none_there c.read.result c.is_none.result c.is_none.ensures c.if-is_none.true)
    c.in-Some.ensures (looked c.args.text.now c.loop-taken.rest.now i c.loop-taken-test.true c.loop-taken.invariant) stems are)

pub returns-in-None-clause-stems : goal.returns-in-None-clause-stems
returns-in-None-clause-stems c is =
    let i = c.loop-taken._taken in
    let x = some_there c.read-in-None.result c.is_some.result c.is_some.ensures is in
    looked_last c.args.text.now c.loop-taken.rest.now (64 - (i + 1)) x.0 (sym c.read-in-None.ensures ∙ x.1)
    (looked c.args.text.now c.loop-taken.rest.now i c.loop-taken-test.true c.loop-taken.invariant)

pub returns-in-None-clause-none : goal.returns-in-None-clause-none
returns-in-None-clause-none c stems are =
    let x = looked_last_refused c.args.text.now c.loop-taken.rest.now (64 - c.loop-taken._taken) c.in-None.ensures
    c.loop-taken.invariant stems are in
    there c.read-in-None.result c.is_some.result x.0 c.is_some.ensures (c.read-in-None.ensures ∙ x.1)

pub loop-taken-preserved : goal.loop-taken-preserved
loop-taken-preserved c =
    let i = c.loop-taken._taken in
    let x = one_there c.read.result c.is_none.result c.is_none.ensures c.if-is_none.false in
    looked_more c.args.text.now c.loop-taken.rest.now c.in-Some.part.now c.in-Some.behind.now (64 - (i + 1)) x.0
    (sym c.read.ensures ∙ x.1) c.in-Some.ensures
    (looked c.args.text.now c.loop-taken.rest.now i c.loop-taken-test.true c.loop-taken.invariant)
