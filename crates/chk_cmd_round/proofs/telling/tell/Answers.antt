use Rattle.std.proofs.lemmas.Result.{err_from_is_err_and}
use Rattle.chk_cmd_round.specs.Telling.{cut, told}
use Rattle.chk_cmd_round.proofs.telling.tell.Goals as goal

pub returns-in_err-tell_streams-clause-told : goal.returns-in_err-tell_streams-clause-told
returns-in_err-tell_streams-clause-told g c =
    let p = err_from_is_err_and c.from_residual.result c.from_residual.ensures.1 in
    rw (p.1, p.2) (cut c.in_err-tell_streams.ensures.told)

pub returns-clause-told : goal.returns-clause-told
returns-clause-told g c = told c.in_ok-tell_streams.ensures.told c.tell_run.ensures.told
