use Rattle.std.proofs.Common.{inl, Ok, Option, arith}
use Rattle.std.proofs.lemmas.Result.{err_from_is_err_and}
use Rattle.chk_site.specs.declared.acts.Call.TheVariants.{Take}
use Rattle.chk_site.specs.declared.suffixes.Taking.{Taking}
use Rattle.chk_collector_run.proofs.Counts.{risen_then, sink_after}
use Rattle.chk_collector.proofs.PutLoop.{same_then as start_then}
use Rattle.chk_collector_run.proofs.Serving.{taken_told, untaken_told, serving_begins, serving_goes_on, serving_none, serving_untaken, serving_unanswered, serving_over, served_on}
use Rattle.chk_collector_run.proofs.Turning.{ends_outside, taken_last}
use Rattle.chk_collector_run.proofs.turn.serve.Goals as goal

pub loop-message-init : goal.loop-message-init
loop-message-init g c =
    serving_begins c.args.who.now c.args.door.now c.args.most c.args.collector.now c.args.tees.now
    (g.S.Site.told c.args.site.now) (g.S.Site.fault_count c.args.site.now) c.requires.started

pub loop-message-preserved : goal.loop-message-preserved
loop-message-preserved g c =
    let far = c.loop-message.invariant in
    rw c.wait_behind-wait.ensures
    (serving_goes_on far c.in-Some.taking c.in_ok-size.size c.handle.new.collector c.handle.new.tees
    (g.S.Site.fault_count c.handle.new.site) (rw c.in-Some.is at c.in_ok-taken.ensures.call)
    c.in_ok-size.ensures.script
    (λ stamped. taken_told stamped c.loop-message.collector c.args.who.now far.who_is
    c.requires.named c.args.door.now c.loop-message.wait c.in-Some.taking c.handle.new.collector
    (rw c.in-Some.is at c.in_ok-taken.ensures.call) (c.handle.ensures.told stamped))
    c.handle.ensures.same
    (risen_then _ _ _ (inl c.in_ok-taken.ensures.cause) c.handle.ensures.count))

-- ---- the taking ended it

pub returns-in_err-taken-clause-script : goal.returns-in_err-taken-clause-script
returns-in_err-taken-clause-script g c =
    let p = err_from_is_err_and c.from_residual.result c.from_residual.ensures.1 in
    rw (p.1, p.2)
    (serving_untaken c.loop-message.invariant (omega arith) c.in_err-taken.field-0.0
    c.in_err-taken.ensures.call.0 c.in_err-taken.ensures.call.1 c.in_err-taken.ensures.call.2)

pub returns-in_err-taken-clause-told : goal.returns-in_err-taken-clause-told
returns-in_err-taken-clause-told g c stamped =
    let far = c.loop-message.invariant in
    served_on far stamped
    (untaken_told stamped c.loop-message.collector c.args.who.now far.who_is c.requires.named
    c.args.door.now c.loop-message.wait c.in_err-taken.ensures.call.0
    c.in_err-taken.ensures.call.2)

pub returns-in_err-taken-clause-only : goal.returns-in_err-taken-clause-only
returns-in_err-taken-clause-only g c =
    let p = err_from_is_err_and c.from_residual.result c.from_residual.ensures.1 in
    rw (p.1, p.2)
    (ends_outside Take c.in_err-taken.ensures.call.0 c.in_err-taken.field-0.0
    c.in_err-taken.ensures.call.1)

pub returns-in_err-taken-clause-last : goal.returns-in_err-taken-clause-last
returns-in_err-taken-clause-last g c = taken_last (returns-in_err-taken-clause-script g c)

pub returns-in_err-taken-clause-cause : goal.returns-in_err-taken-clause-cause
returns-in_err-taken-clause-cause g c =
    let p = err_from_is_err_and c.from_residual.result c.from_residual.ensures.1 in
    rw (p.1, p.2)
    (sink_after (Option Taking) _ _ _ c.in_err-taken.field-0.0 c.loop-message.invariant.risen
    c.in_err-taken.ensures.cause)

-- ---- none was taken

pub returns-in_default-clause-script : goal.returns-in_default-clause-script
returns-in_default-clause-script g c =
    serving_none c.loop-message.invariant (omega arith)
    (rw c.in_default.is at c.in_ok-taken.ensures.call)

pub returns-in_default-clause-told : goal.returns-in_default-clause-told
returns-in_default-clause-told g c stamped =
    let far = c.loop-message.invariant in
    served_on far stamped
    (untaken_told stamped c.loop-message.collector c.args.who.now far.who_is c.requires.named
    c.args.door.now c.loop-message.wait (Ok c.in_ok-taken.taken) c.in_ok-taken.ensures.call)

pub returns-in_default-clause-last : goal.returns-in_default-clause-last
returns-in_default-clause-last g c = taken_last (returns-in_default-clause-script g c)

pub returns-in_default-clause-cause : goal.returns-in_default-clause-cause
returns-in_default-clause-cause g c =
    risen_then _ _ _ c.loop-message.invariant.risen (inl c.in_ok-taken.ensures.cause)

-- ---- there was no memory for a message

pub returns-in_err-size-clause-script : goal.returns-in_err-size-clause-script
returns-in_err-size-clause-script g c =
    let p = err_from_is_err_and c.from_residual-in_err-size.result
    c.from_residual-in_err-size.ensures.1 in
    rw (p.1, p.2)
    (serving_unanswered c.loop-message.invariant (omega arith) c.in-Some.taking
    c.in_err-size.field-0.0 c.handle.new.collector c.handle.new.tees
    (rw c.in-Some.is at c.in_ok-taken.ensures.call) c.in_err-size.ensures.script)

pub returns-in_err-size-clause-told : goal.returns-in_err-size-clause-told
returns-in_err-size-clause-told g c stamped =
    let far = c.loop-message.invariant in
    served_on far stamped
    (taken_told stamped c.loop-message.collector c.args.who.now far.who_is c.requires.named
    c.args.door.now c.loop-message.wait c.in-Some.taking c.handle.new.collector
    (rw c.in-Some.is at c.in_ok-taken.ensures.call) (c.handle.ensures.told stamped))

pub returns-in_err-size-clause-same : goal.returns-in_err-size-clause-same
returns-in_err-size-clause-same g c =
    start_then _ _ _ c.loop-message.invariant.same c.handle.ensures.same

pub returns-in_err-size-clause-last : goal.returns-in_err-size-clause-last
returns-in_err-size-clause-last g c = taken_last (returns-in_err-size-clause-script g c)

pub returns-in_err-size-clause-cause : goal.returns-in_err-size-clause-cause
returns-in_err-size-clause-cause g c =
    let p = err_from_is_err_and c.from_residual-in_err-size.result
    c.from_residual-in_err-size.ensures.1 in
    rw (p.1, p.2)
    (risen_then _ _ _ c.loop-message.invariant.risen
    (risen_then _ _ _ (inl c.in_ok-taken.ensures.cause) c.handle.ensures.count))

-- ---- so many as may be were taken

pub returns-clause-script : goal.returns-clause-script
returns-clause-script g c = serving_over c.loop-message.invariant (omega arith)

pub returns-clause-last : goal.returns-clause-last
returns-clause-last g c = taken_last (returns-clause-script g c)
