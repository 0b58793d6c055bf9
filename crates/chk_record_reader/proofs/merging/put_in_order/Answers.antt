use Rattle.std.proofs.Common.{[]}
use Rattle.std.proofs.lemmas.Result.{err_from_is_err_and}
use Rattle.chk_record_reader.proofs.merging.put_in_order.Goals as goal

pub returns-in_err-sort-clause-err : goal.returns-in_err-sort-clause-err
returns-in_err-sort-clause-err c =
    let r = c.from_residual-in_err-sort in
    let p = err_from_is_err_and r.result r.ensures.1 in
    rw (p.1, p.2) (record { source = []; kind = []; name = [] }, tt)
