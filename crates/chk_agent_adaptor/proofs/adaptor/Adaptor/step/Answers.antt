use Rattle.std.proofs.Common.{Ok, Err, subst}
use Rattle.std.specs.Prelude.{IsTrue}
use Rattle.std.proofs.lemmas.Result.{err_from_is_err_and}
use Rattle.chk_world.specs.Checkpoints.{is_after_text}
use Rattle.chk_agent_adaptor.specs.declared.adaptor.Adaptor.TheInside.{Inside}
use Rattle.chk_agent_adaptor.specs.Adaptors.{Adaptor}
use Rattle.chk_agent_adaptor.specs.Fields.{adaptor_view}
use Rattle.chk_agent_adaptor.proofs.Fields.{placed, read_named, refused, went_on}
use Rattle.chk_agent_adaptor.proofs.Told.{step_told}
use Rattle.chk_agent_adaptor.proofs.adaptor.Adaptor.step.Goals as goal

pub returns-in_err-step-clause-told : goal.returns-in_err-step-clause-told
returns-in_err-step-clause-told g c =
    let p = err_from_is_err_and c.from_residual.result c.from_residual.ensures.1 in
    let i : Inside = c.self.inside in
    let fault = c.in_err-step.field-0.0 in
    rw (p.1, p.2, ← c.self.view_is)
    (λ stamped source cluster lines saved.
    step_told stamped c.args.who.now source cluster lines saved (adaptor_view i)
    (adaptor_view (record i { reader = c.step.new.self })) (Err fault)
    (read_named i c.self.invariant) (placed i c.self.invariant.reader.rising)
    (placed (record i { reader = c.step.new.self }) c.step.ensures.sound.rising)
    (refused c.args.who.now i c.step.new.self fault c.self.invariant
    c.in_err-step.ensures.told))

pub returns-in_err-step-clause-named : goal.returns-in_err-step-clause-named
returns-in_err-step-clause-named g c =
    subst (λ (a : Adaptor). IsTrue (is_after_text a.read.after)) c.self.view_is
    (read_named c.self.inside c.self.invariant)

pub returns-clause-told : goal.returns-clause-told
returns-clause-told g c =
    let i : Inside = c.self.inside in
    let step = c.in_ok-step.step in
    let phase = c.phase_after-self-inside.result in
    let new : Inside = record i { phase = phase; reader = c.step.new.self } in
    rw (← c.self.view_is)
    (λ stamped source cluster lines saved.
    step_told stamped c.args.who.now source cluster lines saved (adaptor_view i)
    (adaptor_view new) (Ok step)
    (read_named i c.self.invariant) (placed i c.self.invariant.reader.rising)
    (placed new c.step.ensures.sound.rising)
    (went_on c.args.who.now i c.step.new.self step phase c.read_end.result c.self.invariant
    c.in_ok-step.ensures.told c.read_end.ensures c.phase_after-self-inside.ensures))

pub returns-clause-named : goal.returns-clause-named
returns-clause-named g c =
    subst (λ (a : Adaptor). IsTrue (is_after_text a.read.after)) c.self.view_is
    (read_named c.self.inside c.self.invariant)
