use Rattle.std.proofs.Common.{arith, length, refl}
use Rattle.chk_ctl_sum.proofs.LineWords.{below_both}
use Rattle.chk_ctl_audit_log.proofs.Logs.{agreed_front, agreed_more}
use Rattle.chk_ctl_audit_log.proofs.ahead.agreed.Goals as goal

pub loop-index-init : goal.loop-index-init
loop-index-init c = refl

pub are_same-requires-clause-one : goal.are_same-requires-clause-one
are_same-requires-clause-one c =
    (below_both (length c.args.one.now) (length c.args.other.now) c.min-count.result
    c.loop-index.index c.min-count.ensures c.loop-index-test.true).0

pub are_same-requires-clause-other : goal.are_same-requires-clause-other
are_same-requires-clause-other c =
    (below_both (length c.args.one.now) (length c.args.other.now) c.min-count.result
    c.loop-index.index c.min-count.ensures c.loop-index-test.true).1

pub loop-index-preserved : goal.loop-index-preserved
loop-index-preserved c =
    let l = c.loop-index in
    let low = below_both (length c.args.one.now) (length c.args.other.now) c.min-count.result
    l.index c.min-count.ensures c.loop-index-test.true in
    agreed_more c.args.one.now c.args.other.now l.index low.0 low.1
    (c.are_same.ensures.same c.if-not-are_same.false) l.invariant

pub returns-then-not-are_same : goal.returns-then-not-are_same
returns-then-not-are_same c =
    let l = c.loop-index in
    let low = below_both (length c.args.one.now) (length c.args.other.now) c.min-count.result
    l.index c.min-count.ensures c.loop-index-test.true in
    let one = low.0 in
    let other = low.1 in
    record {
      same = l.invariant;
      one = omega (arith, one);
      other = omega (arith, other);
      differ = λ a b. c.are_same.ensures.differ c.if-not-are_same.true;
    }

pub returns : goal.returns
returns c =
    let count = c.min-count.ensures in
    record {
      same = agreed_front c.args.one.now c.args.other.now c.min-count.result c.loop-index.index
          c.loop-index-test.false c.loop-index.invariant;
      one = omega (arith, count);
      other = omega (arith, count);
      differ = λ a b same. omega (arith, a, b, count);
    }
