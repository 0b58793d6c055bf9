use Rattle.std.proofs.Common.{Bool, [], ◌+◌, length, Ok, Err, ap, sym, ◌∙◌, refl, arith}
use Rattle.std.proofs.lemmas.Result.{err_from_is_err_and}
use Rattle.chk_agent_run.specs.Faults.{fault_of}
use Rattle.chk_agent_run.proofs.Carried.{carried_by, carried_then, ends_with}
use Rattle.chk_agent_run.proofs.RunFaults.{run_last, run_cause, no_checkpoint}
use Rattle.chk_agent.proofs.Alike.{nothing_last}
use Rattle.chk_agent_run.proofs.InitialLines.{added_none, added_all, failed_one, bad_one, added_one}
use Rattle.chk_agent_run.proofs.initial.add_lines.Goals as goal

pub loop-at-init : goal.loop-at-init
loop-at-init g c = record {
  added = added_none c.args.text.now c.args.agent.now (g.S.Site.told c.args.site.now);
  count = omega arith;
  within = omega arith;
}

pub add_line-requires : goal.add_line-requires
add_line-requires g c = record { ready = c.loop-at.invariant.added.carried.same.ready ∙ c.requires.ready }

pub returns-in_err-add_line-clause-script : goal.returns-in_err-add_line-clause-script
returns-in_err-add_line-clause-script g c =
    let p = err_from_is_err_and c.from_residual.result c.from_residual.ensures.1 in
    rw (p.1, p.2)
    (failed_one _ _ _ _ _ _ c.loop-at.invariant.added _ c.line_at-line.ensures.lines _ _ c.in_err-add_line.field-0.0
    c.in_err-add_line.ensures.script)

pub returns-in_err-add_line-clause-told : goal.returns-in_err-add_line-clause-told
returns-in_err-add_line-clause-told g c =
    ends_with c.args.agent.now c.loop-at.agent c.add_line.new.agent c.loop-at.invariant.added.carried c.add_line.ensures.told

pub returns-in_err-add_line-clause-source : goal.returns-in_err-add_line-clause-source
returns-in_err-add_line-clause-source g c = c.add_line.ensures.source ∙ c.loop-at.invariant.added.carried.same.source

pub returns-in_err-add_line-clause-undamaged : goal.returns-in_err-add_line-clause-undamaged
returns-in_err-add_line-clause-undamaged g c =
    let p = err_from_is_err_and c.from_residual.result c.from_residual.ensures.1 in
    no_checkpoint Bool c.in_err-add_line.field-0.0 c.from_residual.result (p.1 ∙ ap Err p.2) c.in_err-add_line.ensures.undamaged

pub returns-in_err-add_line-clause-last : goal.returns-in_err-add_line-clause-last
returns-in_err-add_line-clause-last g c =
    let p = err_from_is_err_and c.from_residual.result c.from_residual.ensures.1 in
    run_last Bool c.in_err-add_line.field-0.0 c.from_residual.result (p.1 ∙ ap Err p.2)
    (c.loop-at.invariant.added.carried.talks []) c.in_err-add_line.ensures.last

pub returns-in_err-add_line-clause-cause : goal.returns-in_err-add_line-clause-cause
returns-in_err-add_line-clause-cause g c =
    let p = err_from_is_err_and c.from_residual.result c.from_residual.ensures.1 in
    run_cause Bool _ _ _ c.in_err-add_line.field-0.0 c.from_residual.result (p.1 ∙ ap Err p.2)
    c.loop-at.invariant.count c.in_err-add_line.ensures.cause

pub returns-then-not-branch-clause-script : goal.returns-then-not-branch-clause-script
returns-then-not-branch-clause-script g c =
    bad_one _ _ _ _ _ _ c.loop-at.invariant.added _ c.line_at-line.ensures.lines _ _
    (rw c.if-not-branch.true at c.in_ok-add_line.ensures.script)

pub returns-then-not-branch-clause-told : goal.returns-then-not-branch-clause-told
returns-then-not-branch-clause-told g c =
    ends_with c.args.agent.now c.loop-at.agent c.add_line.new.agent c.loop-at.invariant.added.carried c.add_line.ensures.told

pub returns-then-not-branch-clause-source : goal.returns-then-not-branch-clause-source
returns-then-not-branch-clause-source g c = c.add_line.ensures.source ∙ c.loop-at.invariant.added.carried.same.source

pub returns-then-not-branch-clause-last : goal.returns-then-not-branch-clause-last
returns-then-not-branch-clause-last g c = nothing_last (returns-then-not-branch-clause-told g c [])

pub loop-at-preserved : goal.loop-at-preserved
loop-at-preserved g c = record {
  added = added_one _ _ _ _ _ _ c.loop-at.invariant.added _ c.line_at-line.ensures.lines _ _
      (c.loop-at.at + (length c.line_at-line.result.now + 1))
      (rw c.if-not-branch.false at c.in_ok-add_line.ensures.script) (omega arith)
      (carried_then _ _ _ c.loop-at.invariant.added.carried
      (carried_by _ _ c.add_line.ensures.source
      (c.loop-at.invariant.added.carried.same.ready ∙ c.requires.ready) c.in_ok-add_line.ensures.ready c.add_line.ensures.told));
  count = (let so_far = c.loop-at.invariant.count in let more = c.in_ok-add_line.ensures.cause in omega (arith, so_far, more));
  within = (let here = c.line_at-line.ensures.within in omega (arith, here));
}

pub loop-at-smaller : goal.loop-at-smaller
loop-at-smaller g c =
    let here = c.line_at-line.ensures.within in let test = c.loop-at-test.true in omega (arith, here, test)

pub returns-clause-script : goal.returns-clause-script
returns-clause-script g c =
    added_all _ _ _ _ _ _ c.loop-at.invariant.added (let past = c.loop-at-test.false in omega (arith, past))

pub returns-clause-told : goal.returns-clause-told
returns-clause-told g c = c.loop-at.invariant.added.carried.talks

pub returns-clause-source : goal.returns-clause-source
returns-clause-source g c = c.loop-at.invariant.added.carried.same.source

pub returns-clause-ready : goal.returns-clause-ready
returns-clause-ready g c = c.loop-at.invariant.added.carried.same.ready ∙ c.requires.ready

pub returns-clause-last : goal.returns-clause-last
returns-clause-last g c = nothing_last (c.loop-at.invariant.added.carried.talks [])
