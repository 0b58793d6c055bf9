use Rattle.std.proofs.Common.{[], Err, ap, sym, ◌∙◌, refl}
use Rattle.std.proofs.lemmas.Result.{err_from_is_err_and}
use Rattle.chk_agent.specs.declared.answers.Reply.{Reply}
use Rattle.chk_agent.proofs.TurningFaults.{last_same, last_ok}
use Rattle.chk_agent_run.specs.Initial.{skipped, failed}
use Rattle.chk_agent_run.proofs.Carried.{carried_none, quietly}
use Rattle.chk_agent_run.proofs.Commanded.{command_same, command_source}
use Rattle.chk_agent_run.proofs.LineAdded.{met_is, adds_is, line_run}
use Rattle.chk_agent_run.proofs.initial.add_stream.Goals as goal

pub returns-then-is_live-clause-script : goal.returns-then-is_live-clause-script
returns-then-is_live-clause-script g c =
    skipped (met_is c.args.line.now c.args.kind.now c.args.path.now c.args.agent.now c.requires.wants
    ∙ (sym c.is_live.ensures ∙ c.if-is_live.true))

pub returns-then-is_live-clause-told : goal.returns-then-is_live-clause-told
returns-then-is_live-clause-told g c = (carried_none c.args.agent.now (g.S.Site.told c.args.site.now)).talks

pub returns-then-is_live-clause-last : goal.returns-then-is_live-clause-last
returns-then-is_live-clause-last g c = last_ok (tt {0}) (returns-then-is_live-clause-told g c [])

pub returns-in_err-command-clause-script : goal.returns-in_err-command-clause-script
returns-in_err-command-clause-script g c =
    let p = err_from_is_err_and c.from_residual.result c.from_residual.ensures.1 in
    rw (p.1, p.2)
    (failed c.in_err-command.field-0.0
    (met_is c.args.line.now c.args.kind.now c.args.path.now c.args.agent.now c.requires.wants
    ∙ (sym c.is_live.ensures ∙ c.if-is_live.false))
    (adds_is c.args.line.now c.args.kind.now c.args.path.now c.requires.wants) c.in_err-command.ensures.state)

pub returns-in_err-command-clause-told : goal.returns-in_err-command-clause-told
returns-in_err-command-clause-told g c = quietly c.args.agent.now c.command.new.self c.command.ensures.told

pub returns-in_err-command-clause-source : goal.returns-in_err-command-clause-source
returns-in_err-command-clause-source g c = command_source c.in_err-command.ensures.state

pub returns-in_err-command-clause-last : goal.returns-in_err-command-clause-last
returns-in_err-command-clause-last g c =
    let p = err_from_is_err_and c.from_residual.result c.from_residual.ensures.1 in
    last_same Reply c.from_residual.result c.in_err-command.field-0.0 (p.1 ∙ ap Err p.2) c.in_err-command.ensures.last

pub returns-clause-script : goal.returns-clause-script
returns-clause-script g c =
    line_run
    (met_is c.args.line.now c.args.kind.now c.args.path.now c.args.agent.now c.requires.wants
    ∙ (sym c.is_live.ensures ∙ c.if-is_live.false))
    (adds_is c.args.line.now c.args.kind.now c.args.path.now c.requires.wants) c.in_ok-command.ensures.state c.is_live-2.result
    (c.is_live-2.ensures
    ∙ sym (met_is c.args.line.now c.args.kind.now c.args.path.now c.command.new.self c.requires.wants))

pub returns-clause-told : goal.returns-clause-told
returns-clause-told g c = quietly c.args.agent.now c.command.new.self c.command.ensures.told

pub returns-clause-source : goal.returns-clause-source
returns-clause-source g c = command_source c.in_ok-command.ensures.state

pub returns-clause-ready : goal.returns-clause-ready
returns-clause-ready g c = (command_same c.in_ok-command.ensures.state).ready ∙ c.requires.ready

pub returns-clause-last : goal.returns-clause-last
returns-clause-last g c = last_ok (tt {0}) (returns-clause-told g c [])
