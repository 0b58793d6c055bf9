use Rattle.std.proofs.Common.{refl}
use Rattle.chk_site.specs.Logs.{log_turned}
use Rattle.chk_site_mem_store.proofs.LogLemmas.{log_changed_on_ok, log_kept_on_err}
use Rattle.chk_site_mem_store.proofs.logs.turn.Goals as goal

pub returns-clause-ok : goal.returns-clause-ok
returns-clause-ok c =
    rw (← c.in-Ok.ensures.text)
    (log_changed_on_ok c.turn.result c.args.path.now c.slot.new.logs.items c.args.logs.now.items c.in_ok-at.at
    c.index_mut-entry.result.now _ (log_turned c.in-Ok.suffix) c.in_ok-at.ensures.found c.index_mut-entry.ensures.value refl
    c.in_ok-at.ensures.same c.turn.ensures.ok)

pub returns-clause-err : goal.returns-clause-err
returns-clause-err c =
    log_kept_on_err c.turn.result c.args.path.now c.slot.new.logs.items c.args.logs.now.items c.in_ok-at.at
    c.index_mut-entry.result.now _ c.in_ok-at.ensures.found c.index_mut-entry.ensures.value refl
    c.in_ok-at.ensures.same c.turn.ensures.err
