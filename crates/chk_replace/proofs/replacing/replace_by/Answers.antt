use Rattle.std.proofs.lemmas.Result.{err_from_is_err_and}
use Rattle.chk_site.specs.Runs.{finished, went_on, ended}
use Rattle.chk_replace.proofs.OldAndNew.{by_name, last_call}
use Rattle.chk_replace.proofs.Unmade.{unmade_before, unmade_by}
use Rattle.chk_replace.proofs.replacing.replace_by.Goals as goal

pub returns-in_err-done-clause-told : goal.returns-in_err-done-clause-told
returns-in_err-done-clause-told g c =
    let p = err_from_is_err_and c.from_residual.result c.from_residual.ensures.1 in
    rw (p.1, p.2)
    (by_name c.requires.next
    (ended _ c.in_err-done.ensures c.remove-removed.ensures.told))

pub returns-in_err-done-2-clause-told : goal.returns-in_err-done-2-clause-told
returns-in_err-done-2-clause-told g c =
    let p = err_from_is_err_and c.from_residual-in_err-done-2.result c.from_residual-in_err-done-2.ensures.1 in
    rw (p.1, p.2)
    (by_name c.requires.next
    (went_on _ c.in_ok-done.ensures c.remove-removed.ensures.told
    (ended _ c.in_err-done-2.ensures c.create-created.ensures.told)))

pub returns-in_err-done-3-clause-told : goal.returns-in_err-done-3-clause-told
returns-in_err-done-3-clause-told g c =
    let p = err_from_is_err_and c.from_residual-in_err-done-3.result c.from_residual-in_err-done-3.ensures.1 in
    rw (p.1, p.2)
    (by_name c.requires.next
    (went_on _ c.in_ok-done.ensures c.remove-removed.ensures.told
    (went_on _ c.in_ok-done-2.ensures c.create-created.ensures.told
    (ended _ c.in_err-done-3.ensures c.append-appended.ensures.told))))

pub returns-in_err-done-4-clause-told : goal.returns-in_err-done-4-clause-told
returns-in_err-done-4-clause-told g c =
    let p = err_from_is_err_and c.from_residual-in_err-done-4.result c.from_residual-in_err-done-4.ensures.1 in
    rw (p.1, p.2)
    (by_name c.requires.next
    (went_on _ c.in_ok-done.ensures c.remove-removed.ensures.told
    (went_on _ c.in_ok-done-2.ensures c.create-created.ensures.told
    (went_on _ c.in_ok-done-3.ensures c.append-appended.ensures.told
    (ended _ c.in_err-done-4.ensures c.sync-synced.ensures.told)))))

pub returns-clause-told : goal.returns-clause-told
returns-clause-told g c =
    by_name c.requires.next
    (went_on _ c.in_ok-done.ensures c.remove-removed.ensures.told
    (went_on _ c.in_ok-done-2.ensures c.create-created.ensures.told
    (went_on _ c.in_ok-done-3.ensures c.append-appended.ensures.told
    (went_on _ c.in_ok-done-4.ensures c.sync-synced.ensures.told
    (last_call c.done-5.result c.rename-renamed.result c.done-5.ensures c.rename-renamed.ensures.told)))))

pub returns-in_err-done-clause-unmade : goal.returns-in_err-done-clause-unmade
returns-in_err-done-clause-unmade g c =
    let p = err_from_is_err_and c.from_residual.result c.from_residual.ensures.1 in
    rw (p.1, p.2)
    (unmade_before c.args.who.now c.args.name.now c.args.bytes.now c.requires.next
    (ended _ c.in_err-done.ensures c.remove-removed.ensures.told))

pub returns-in_err-done-2-clause-unmade : goal.returns-in_err-done-2-clause-unmade
returns-in_err-done-2-clause-unmade g c =
    let p = err_from_is_err_and c.from_residual-in_err-done-2.result c.from_residual-in_err-done-2.ensures.1 in
    rw (p.1, p.2)
    (unmade_before c.args.who.now c.args.name.now c.args.bytes.now c.requires.next
    (went_on _ c.in_ok-done.ensures c.remove-removed.ensures.told
    (ended _ c.in_err-done-2.ensures c.create-created.ensures.told)))

pub returns-in_err-done-3-clause-unmade : goal.returns-in_err-done-3-clause-unmade
returns-in_err-done-3-clause-unmade g c =
    let p = err_from_is_err_and c.from_residual-in_err-done-3.result c.from_residual-in_err-done-3.ensures.1 in
    rw (p.1, p.2)
    (unmade_before c.args.who.now c.args.name.now c.args.bytes.now c.requires.next
    (went_on _ c.in_ok-done.ensures c.remove-removed.ensures.told
    (went_on _ c.in_ok-done-2.ensures c.create-created.ensures.told
    (ended _ c.in_err-done-3.ensures c.append-appended.ensures.told))))

pub returns-in_err-done-4-clause-unmade : goal.returns-in_err-done-4-clause-unmade
returns-in_err-done-4-clause-unmade g c =
    let p = err_from_is_err_and c.from_residual-in_err-done-4.result c.from_residual-in_err-done-4.ensures.1 in
    rw (p.1, p.2)
    (unmade_before c.args.who.now c.args.name.now c.args.bytes.now c.requires.next
    (went_on _ c.in_ok-done.ensures c.remove-removed.ensures.told
    (went_on _ c.in_ok-done-2.ensures c.create-created.ensures.told
    (went_on _ c.in_ok-done-3.ensures c.append-appended.ensures.told
    (ended _ c.in_err-done-4.ensures c.sync-synced.ensures.told)))))

pub returns-clause-unmade : goal.returns-clause-unmade
returns-clause-unmade g c =
    unmade_by c.args.who.now c.args.name.now c.args.bytes.now c.done-5.result c.rename-renamed.result c.requires.next
    (went_on _ c.in_ok-done.ensures c.remove-removed.ensures.told
    (went_on _ c.in_ok-done-2.ensures c.create-created.ensures.told
    (went_on _ c.in_ok-done-3.ensures c.append-appended.ensures.told
    (went_on _ c.in_ok-done-4.ensures c.sync-synced.ensures.told finished))))
    c.done-5.ensures c.rename-renamed.ensures.told
