use Rattle.std.proofs.Common.{List, ℕ, map, subst, ap, ◌∙◌}
use Rattle.std.proofs.lemmas.Result.{err_from_is_err_and}
use Rattle.chk_book.specs.Views.{end_view}
use Rattle.chk_book.specs.declared.lists.End.{End}
use Rattle.chk_cmd_output.specs.Printing.{PrintsInTurn}
use Rattle.chk_cmd_output.proofs.Printed.{prints_then, prints_ended}
use Rattle.chk_archive.specs.Reporting.{report_view}
use Rattle.chk_cmd_archive.specs.Telling.{stream_line}
use Rattle.chk_cmd_archive.proofs.Lines.{same_lines}
use Rattle.chk_cmd_archive.proofs.telling.tell.Goals as goal

pub returns-in_err-tell_run-clause-told : goal.returns-in_err-tell_run-clause-told
returns-in_err-tell_run-clause-told g c =
    let p = err_from_is_err_and c.from_residual.result c.from_residual.ensures.1 in
    rw (p.1, p.2) (prints_ended (map stream_line (report_view c.args.report.now).ends) c.in_err-tell_run.ensures.told)

pub returns-clause-told : goal.returns-clause-told
returns-clause-told g c =
    prints_then c.in_ok-tell_run.ensures.told
    (subst (λ (lines : List (List ℕ)). PrintsInTurn c.args.who.now lines c.tell_ends.result (g.S.Site.told c.tell_run.new.site) (g.S.Site.told c.tell_ends.new.site))
    (ap (λ (ends : List End). map {A = End} {B = List ℕ} (λ e. stream_line (end_view e)) ends) c.as_slice.ensures ∙ same_lines c.args.report.now.ends) c.tell_ends.ensures.told)
