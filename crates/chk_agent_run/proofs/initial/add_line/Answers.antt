use Rattle.std.proofs.Common.{ap, subst}
use Rattle.std.proofs.lemmas.Result.{err_from_is_err_and}
use Rattle.chk_control.specs.Lines.{meaning_of}
use Rattle.chk_agent_run.specs.Initial.{is_met, Wants, skipped, no_add, wanting}
use Rattle.chk_agent_run.proofs.LineAdded.{other_met}
use Rattle.chk_agent_run.proofs.initial.add_line.Goals as goal

pub returns-in_err-wanted_by-clause-script : goal.returns-in_err-wanted_by-clause-script
returns-in_err-wanted_by-clause-script g c =
    let p = err_from_is_err_and c.from_residual.result c.from_residual.ensures.1 in rw (p.1, p.2) wanting

pub returns-in-Nothing-clause-script : goal.returns-in-Nothing-clause-script
returns-in-Nothing-clause-script g c =
    skipped (ap (is_met c.args.agent.now)
    (subst (Wants (meaning_of c.args.line.now)) c.in-Nothing.is c.in_ok-wanted_by.ensures))

pub returns-in-Other-clause-script : goal.returns-in-Other-clause-script
returns-in-Other-clause-script g c =
    let w = subst (Wants (meaning_of c.args.line.now)) c.in-Other.is c.in_ok-wanted_by.ensures in
    no_add (other_met c.args.agent.now (meaning_of c.args.line.now) w.0 w.1) w.0
