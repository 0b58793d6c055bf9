use Rattle.std.proofs.Common.{◌-◌, ◌∙◌, sym, arith}
use Rattle.chk_tee.proofs.MessageGrammar.{teeds_next, teeds_stop}
use Rattle.chk_tee.proofs.messages.check_teeds.Goals as goal

pub loop-done-preserved : goal.loop-done-preserved
loop-done-preserved c =
    let found = c.in-Ok.ensures.teed in
    teeds_next (c.args.count - c.loop-done._done) c.loop-done.at _ _ c.args.bytes.now
    (λ e. omega arith) found.fine (omega arith) found.behind
    ∙ c.loop-done.invariant

pub returns-in-Err-clause-fault : goal.returns-in-Err-clause-fault
returns-in-Err-clause-fault c =
    let l = c.loop-done in
    sym l.invariant
    ∙ teeds_stop (c.args.count - l._done) l.at c.args.bytes.now c.in-Err.fault (λ e. omega arith) c.in-Err.ensures.fault
