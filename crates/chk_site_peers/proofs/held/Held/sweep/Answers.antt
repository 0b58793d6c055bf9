use Rattle.std.proofs.Common.{sym, ◌∙◌}
use Rattle.chk_site_peers.proofs.Going.{swept_all, swept_more}
use Rattle.chk_site_peers.proofs.held.Held.sweep.Goals as goal

pub loop-place-preserved-in-Some : goal.loop-place-preserved-in-Some
loop-place-preserved-in-Some g c =
    swept_more _ _ _ _ _ _ c.in-Some.place (sym c.first_gone.ensures ∙ c.in-Some.is)
    c.take-gone.ensures.stages c.take-gone.ensures.callers c.loop-place.invariant

pub loop-place-preserved : goal.loop-place-preserved
loop-place-preserved g c =
    swept_more _ _ _ _ _ _ c.in-Some.place (sym c.first_gone.ensures ∙ c.in-Some.is)
    c.take-gone.ensures.stages c.take-gone.ensures.callers c.loop-place.invariant

pub returns-clause-stages : goal.returns-clause-stages
returns-clause-stages g c =
    (swept_all _ _ c.loop-place.self.callers.items _ c.first_gone.result c.first_gone.ensures c.in_default.not-Some c.loop-place.invariant).0

pub returns-clause-callers : goal.returns-clause-callers
returns-clause-callers g c =
    (swept_all _ _ c.loop-place.self.callers.items _ c.first_gone.result c.first_gone.ensures c.in_default.not-Some c.loop-place.invariant).1
