use Rattle.std.proofs.Common.{◌≤◌, ◌∙◌, ◌+◌, ap, arith, drop, length, rules, sym}
use Rattle.std.proofs.lemmas.Iterator.Consumers.{YieldsList-end, YieldsList-turn}
use Rattle.std.proofs.lemmas.Iterator.Splits.{YieldsList-from_lines}
use Rattle.std.proofs.lemmas.List.{at_drop_all, length_push}
use Rattle.std.specs.Str.Lines.{lines}
use Rattle.chk_ctl_machine.specs.Locks.{process_in, process_or}
use Rattle.chk_ctl_machine.proofs.Causes.{line_next}
use Rattle.chk_ctl_machine.proofs.locks.process_in.Goals as goal

pub returns-in-Some-holder_in : goal.returns-in-Some-holder_in
returns-in-Some-holder_in c =
    let all = lines c.args.held.now in
    let place = c.args.place.now in
    let n = length c.loop-line.yielded in
    let given =
    YieldsList-from_lines {s = c.into_iter-line-iterator.result} c.args.held.now (search rules) in
    let t = YieldsList-turn given c.loop-line.yielded _ c.loop-line.yielded_by _ _ c.in-Some.line
    c.in-Some.is c.next.ensures.steps in
    sym (sym c.loop-line.invariant ∙ (line_next place all n c.in-Some.line.now t.0 t.1
    ∙ ap (λ o. process_or o (process_in place (drop (n + 1) all)))
    (sym c.in-Some-holder_in.ensures)))

pub loop-line-preserved : goal.loop-line-preserved
loop-line-preserved c =
    let all = lines c.args.held.now in
    let place = c.args.place.now in
    let n = length c.loop-line.yielded in
    let given =
    YieldsList-from_lines {s = c.into_iter-line-iterator.result} c.args.held.now (search rules) in
    let t = YieldsList-turn given c.loop-line.yielded _ c.loop-line.yielded_by _ _ c.in-Some.line
    c.in-Some.is c.next.ensures.steps in
    ap (λ k. process_in place (drop k all)) (length_push c.loop-line.yielded c.in-Some.line)
    ∙ (sym (line_next place all n c.in-Some.line.now t.0 t.1
    ∙ ap (λ o. process_or o (process_in place (drop (n + 1) all))) (sym c.in_default.ensures))
    ∙ c.loop-line.invariant)

pub returns : goal.returns
returns c =
    let all = lines c.args.held.now in
    let n = length c.loop-line.yielded in
    let given =
    YieldsList-from_lines {s = c.into_iter-line-iterator.result} c.args.held.now (search rules) in
    let t = YieldsList-end given c.loop-line.yielded _ c.loop-line.yielded_by _ _ c.in-None.is
    c.next.ensures.steps in
    let whole : length all ≤ n = omega (arith, t.1) in
    sym (at_drop_all (process_in c.args.place.now) all n whole) ∙ c.loop-line.invariant
