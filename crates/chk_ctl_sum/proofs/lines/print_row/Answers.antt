use Rattle.std.proofs.lemmas.Result.{err_from_is_err_and}
use Rattle.chk_cmd_output.specs.Printing.{unprinted}
use Rattle.chk_ctl_sum.proofs.lines.print_row.Goals as goal

pub returns-in_err-line-clause-told : goal.returns-in_err-line-clause-told
returns-in_err-line-clause-told g c =
    let p = err_from_is_err_and c.from_residual.result c.from_residual.ensures.1 in
    rw (p.1, p.2) unprinted
