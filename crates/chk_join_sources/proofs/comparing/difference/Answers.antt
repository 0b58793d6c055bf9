use Rattle.std.proofs.Common.{ap, sym, ◌∙◌, ◌≤◌, arith, length}
use Rattle.std.specs.Prelude.{min}
use Rattle.chk_world.proofs.Ends.{bytes_same}
use Rattle.chk_join_sources.specs.Differences.{first_difference, further}
use Rattle.chk_join_sources.proofs.Differences.{none_same, passed_all}
use Rattle.chk_join_sources.proofs.comparing.difference.Goals as goal

pub returns-then-eq : goal.returns-then-eq
returns-then-eq c =
    let a = c.args.a.now in
    let same = bytes_same a c.args.b.now (sym c.eq.ensures ∙ c.if-eq.true) in
    sym (ap (first_difference a) (sym same) ∙ none_same a)

pub returns : goal.returns
returns c =
    let a = c.args.a.now in
    let b = c.args.b.now in
    let i = c.loop-i.i in
    let past = c.loop-i-test.false in
    let count = c.min-count.ensures in
    let low : min (length a) (length b) ≤ i = omega (arith, past, count) in
    sym (c.loop-i.invariant ∙ ap (further i) (passed_all i a b low))
