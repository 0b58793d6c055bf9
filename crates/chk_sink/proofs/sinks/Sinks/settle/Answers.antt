use Rattle.chk_world.specs.Works.{rests}
use Rattle.std.proofs.Common.{ap, refl, Ok}
use Rattle.chk_sink.specs.States.{settled_state}
use Rattle.chk_sink.proofs.Owning.{refused_by}
use Rattle.chk_sink.proofs.Settled.{settling_as, settled_whole, settled_refused}
use Rattle.chk_sink.proofs.sinks.Sinks.settle.Goals as goal

pub returns-in_err-settle_left-clause-told : goal.returns-in_err-settle_left-clause-told
returns-in_err-settle_left-clause-told g c stamped =
    let s = c.args.self.now in
    settled_refused stamped s s c.from_residual.result c.settle_left.result _ c.in_err-settle_left.was (refused_by c.from_residual.ensures.1) refl
    (c.settle_left.ensures.told stamped s (settling_as c.self.inside s c.self.view_is c.self.invariant c.if-not-self.false) c.kept_stem-kept.ensures)

pub returns-clause-told : goal.returns-clause-told
returns-clause-told g c stamped =
    let s = c.args.self.now in
    settled_whole stamped s _ (Ok tt) c.settle_left.result _ c.in_ok-settle_left.was refl (ap settled_state c.self.view_is)
    (c.settle_left.ensures.told stamped s (settling_as c.self.inside s c.self.view_is c.self.invariant c.if-not-self.false) c.kept_stem-kept.ensures)

pub returns-then-not-self-clause-own : goal.returns-then-not-self-clause-own
returns-then-not-self-clause-own g c = rests
