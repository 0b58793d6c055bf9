use Rattle.std.proofs.Common.{◌≡◌, ap, ap₂, sym, ◌∙◌, arith, length, take, drop, refl, None, length-drop}
use Rattle.chk_join_sources.specs.Differences.{first_difference}
use Rattle.chk_join_sources.proofs.Steps.{differs, goes_on}
use Rattle.chk_join_sources.proofs.comparing.compare_values.Goals as goal

pub returns-in-Some-clause-is : goal.returns-in-Some-clause-is
returns-in-Some-clause-is c more rest low high =
    let p = c.args.at.now in
    let xs = drop p.left.passed c.args.first.now in
    let ys = drop p.right.passed c.args.second.now in
    let n = c.min-count.result in
    let a = ap length c.rest-a.ensures in
    let b = ap length c.rest-b.ensures in
    let k = c.min-count.ensures in
    differs xs ys more rest n (omega (arith, a, k)) (omega (arith, b, k)) p.same c.in-Some.place c.in_ok-sum_of.field-0
    (ap₂ (λ x y. first_difference (take n x) (take n y)) (sym c.rest-a.ensures) (sym c.rest-b.ensures)
    ∙ (sym c.difference.ensures ∙ c.in-Some.is))
    c.in_ok-sum_of.ensures

pub returns-clause-is : goal.returns-clause-is
returns-clause-is c more rest low high =
    let p = c.args.at.now in
    let v = c.args.first.now in
    let w = c.args.second.now in
    let xs = drop p.left.passed v in
    let ys = drop p.right.passed w in
    let n = c.min-count.result in
    let a = ap length c.rest-a.ensures in
    let b = ap length c.rest-b.ensures in
    let k = c.min-count.ensures in
    let sa = length-drop p.left.passed v in
    let sb = length-drop p.right.passed w in
    let none : first_difference (take n xs) (take n ys) ≡ None =
    ap₂ (λ x y. first_difference (take n x) (take n y)) (sym c.rest-a.ensures) (sym c.rest-b.ensures)
    ∙ (sym c.difference.ensures ∙ c.in_default.is) in
    record {
      count = n;
      left = c.moved-at.ensures.is v more refl low (omega (arith, a, k, sa));
      right = c.moved-at-2.ensures.is w rest refl high (omega (arith, b, k, sb));
      same = c.in_ok-at.ensures;
      on = goes_on xs ys more rest n (omega (arith, a, k)) (omega (arith, b, k)) none;
    }
