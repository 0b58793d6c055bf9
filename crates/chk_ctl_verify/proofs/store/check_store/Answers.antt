use Rattle.std.proofs.Common.{Bool, Err, ◌∙◌}
use Rattle.chk_ctl_verify.specs.Stores.{both, not_first, only_first}
use Rattle.chk_ctl_verify.specs.declared.store.Store.{Store}
use Rattle.chk_ctl_verify.proofs.Causes.{cause_then, err_cause}
use Rattle.chk_ctl_verify.proofs.Steps.{then_own}
use Rattle.chk_ctl_verify.proofs.store.check_store.Goals as goal

pub returns-in-Ok-check_books : goal.returns-in-Ok-check_books
returns-in-Ok-check_books g c =
    rw c.either.ensures
    (record {
      told = both c.in-Ok.ensures.told c.in-Ok-check_books.ensures.told;
      own = then_own c.in-Ok.ensures.own c.in-Ok-check_books.ensures.own;
      cause = c.in-Ok-check_books.ensures.cause ∙ c.in-Ok.ensures.cause;
    })

pub returns-in-Err-check_books : goal.returns-in-Err-check_books
returns-in-Err-check_books g c = record {
  told = only_first c.in-Ok.ensures.told c.in-Err-check_books.ensures.told;
  own = then_own c.in-Ok.ensures.own c.in-Err-check_books.ensures.own;
  cause = cause_then {A = Store} (Err c.in-Err-check_books.fault) (g.S.Site.fault_count
      c.args.site.now)
      (g.S.Site.fault_count c.check_place.new.site) (g.S.Site.fault_count c.check_books.new.site)
      c.in-Ok.ensures.cause
      (err_cause Store Store c.in-Err-check_books.fault (g.S.Site.fault_count
      c.check_place.new.site)
      (g.S.Site.fault_count c.check_books.new.site) c.in-Err-check_books.ensures.cause);
}

pub returns-in-Err : goal.returns-in-Err
returns-in-Err g c = record {
  told = not_first c.in-Err.ensures.told;
  own = c.in-Err.ensures.own;
  cause = err_cause Bool Store c.in-Err.fault (g.S.Site.fault_count c.args.site.now)
      (g.S.Site.fault_count c.check_place.new.site) c.in-Err.ensures.cause;
}
