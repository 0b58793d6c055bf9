use Rattle.std.proofs.lemmas.Result.{err_from_is_err_and}
use Rattle.chk_site.specs.Runs.{went_on, ended}
use Rattle.chk_replace.proofs.OldAndNew.{last_call}
use Rattle.chk_book.proofs.files.finish_file.Goals as goal

pub returns-in_err-done-clause-told : goal.returns-in_err-done-clause-told
returns-in_err-done-clause-told g c =
    let p = err_from_is_err_and c.from_residual.result c.from_residual.ensures.1 in
    rw (p.1, p.2) (ended _ c.in_err-done.ensures c.append-appended.ensures.told)

pub returns-clause-told : goal.returns-clause-told
returns-clause-told g c =
    went_on _ c.in_ok-done.ensures c.append-appended.ensures.told
    (last_call c.done-2.result c.sync-synced.result c.done-2.ensures c.sync-synced.ensures.told)
