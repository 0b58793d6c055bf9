use Rattle.chk_sink.proofs.Owning.{made_as, fails_of, refused_by}
use Rattle.chk_world.proofs.Working.{works_then}
use Rattle.chk_sink.proofs.Refusing.{ok_fine}
use Rattle.std.proofs.Common.{ap, ◌∙◌, inl}
use Rattle.chk_sink.specs.States.{ticked_state}
use Rattle.chk_sink.proofs.JoinedCauses.{cause_then}
use Rattle.chk_sink.proofs.Owned.{close_writes, writes_unlisted}
use Rattle.chk_collector.proofs.FinishTold.{finish_as, finish_leaves, finish_works, finish_closes, idle_tick, none_ticked}
use Rattle.chk_collector.proofs.collector.Collector.finish.Goals as goal

pub returns-clause-told : goal.returns-clause-told
returns-clause-told g c stamped =
    finish_as stamped c.args.self.now c.tick.new.self c.close.new.self c.close.result (c.in_ok-tick.ensures.ok ∙ ap (ticked_state 0) c.self.view_is)
    c.close.ensures.ok c.close.ensures.only (rw c.self.view_is at (c.in_ok-tick.ensures.told stamped)) (λ none. (c.close.ensures.idle none).uncalled) (c.close.ensures.told stamped)

pub returns-clause-damaged : goal.returns-clause-damaged
returns-clause-damaged g c =
    cause_then c.tick.result _ c.close.result c.in_ok-tick.was c.tick.ensures.damaged c.close.ensures.damaged

pub returns-in_err-tick-clause-refused : goal.returns-in_err-tick-clause-refused
returns-in_err-tick-clause-refused g c =
    rw (refused_by c.from_residual.ensures.1)
    (inl (rw c.self.view_is at c.in_err-tick.ensures.refused))

pub returns-clause-refused : goal.returns-clause-refused
returns-clause-refused g c =
    finish_leaves c.args.self.now c.tick.new.self c.close.new.self c.close.result _ _ (c.in_ok-tick.ensures.ok ∙ ap (ticked_state 0) c.self.view_is)
    c.close.ensures.only c.close.ensures.err

pub returns-in_err-tick-clause-own : goal.returns-in_err-tick-clause-own
returns-in_err-tick-clause-own g c =
    made_as c.tick.result c.from_residual.result _ c.in_err-tick.was (refused_by c.from_residual.ensures.1)
    (rw c.self.view_is at c.tick.ensures.own)

pub returns-clause-own : goal.returns-clause-own
returns-clause-own g c =
    works_then (rw c.self.view_is at c.in_ok-tick.ensures.own)
    (finish_works c.args.self.now c.tick.new.self (c.in_ok-tick.ensures.ok ∙ ap (ticked_state 0) c.self.view_is) c.close.ensures.own)

pub returns-clause-fine : goal.returns-clause-fine
returns-clause-fine g c = ok_fine c.close.result (returns-clause-own g c)

pub returns-in_err-tick-clause-last : goal.returns-in_err-tick-clause-last
returns-in_err-tick-clause-last g c = fails_of _ (returns-in_err-tick-clause-own g c)

pub returns-clause-last : goal.returns-clause-last
returns-clause-last g c = fails_of _ (returns-clause-own g c)

pub returns-in_err-tick-clause-closes : goal.returns-in_err-tick-clause-closes
returns-in_err-tick-clause-closes g c none =
    made_as c.tick.result c.from_residual.result _ c.in_err-tick.was (refused_by c.from_residual.ensures.1)
    ((rw c.self.view_is at c.tick.ensures.closes) none)

pub returns-clause-closes : goal.returns-clause-closes
returns-clause-closes g c none =
    works_then ((rw c.self.view_is at c.in_ok-tick.ensures.closes) none)
    (finish_closes c.args.self.now c.tick.new.self (c.in_ok-tick.ensures.ok ∙ ap (ticked_state 0) c.self.view_is) c.close.ensures.own)

pub returns-in_err-tick-clause-lists : goal.returns-in_err-tick-clause-lists
returns-in_err-tick-clause-lists g c none = writes_unlisted (close_writes c.args.self.now) (returns-in_err-tick-clause-closes g c none)

pub returns-clause-lists : goal.returns-clause-lists
returns-clause-lists g c none = writes_unlisted (close_writes c.args.self.now) (returns-clause-closes g c none)

pub returns-in_err-tick-clause-idle : goal.returns-in_err-tick-clause-idle
returns-in_err-tick-clause-idle g c end =
    let done = ((rw c.self.view_is at c.in_err-tick.ensures.idle) (idle_tick c.args.self.now end)).done in
    absurd (cc)

pub returns-clause-idle : goal.returns-clause-idle
returns-clause-idle g c end =
    let s = c.args.self.now in
    let tick = (rw c.self.view_is at c.in_ok-tick.ensures.idle) (idle_tick s end) in
    let close = c.close.ensures.idle (none_ticked s c.tick.new.self end (c.in_ok-tick.ensures.ok ∙ ap (ticked_state 0) c.self.view_is)) in
    record { done = close.done; uncalled = close.uncalled ∙ tick.uncalled }
