use Rattle.std.proofs.Common.{sym, ◌∙◌}
use Rattle.chk_agent_run.proofs.LineLemmas.{slice_rest, line_of_rest, last_of_rest}
use Rattle.chk_agent_run.proofs.lines.line_at.Goals as goal

pub returns-in-Some-clause-lines : goal.returns-in-Some-clause-lines
returns-in-Some-clause-lines c =
    line_of_rest c.args.at c.args.text.now _ c.in-Some.size (slice_rest c.args.at c.args.text.now) c.requires
    (sym c.line_size.ensures ∙ c.in-Some.is)

pub returns-in-None-clause-lines : goal.returns-in-None-clause-lines
returns-in-None-clause-lines c =
    last_of_rest c.args.at c.args.text.now _ (slice_rest c.args.at c.args.text.now) c.requires
    (sym c.line_size.ensures ∙ c.in-None.is)
