use Rattle.std.proofs.Common.{Bool, Err, ◌∙◌}
use Rattle.chk_ctl_verify.specs.Stores.{both, not_first, only_first}
use Rattle.chk_ctl_verify.proofs.Causes.{cause_then, err_cause}
use Rattle.chk_ctl_verify.proofs.Steps.{then_own}
use Rattle.chk_ctl_verify.proofs.store.check_sinks.Goals as goal

pub returns-in-Ok-check_place : goal.returns-in-Ok-check_place
returns-in-Ok-check_place g c =
    rw c.either.ensures
    (record {
      told = both c.in-Ok.ensures.told c.in-Ok-check_place.ensures.told;
      own = then_own c.in-Ok.ensures.own c.in-Ok-check_place.ensures.own;
      cause = c.in-Ok-check_place.ensures.cause ∙ c.in-Ok.ensures.cause;
    })

pub returns-in-Err-check_place : goal.returns-in-Err-check_place
returns-in-Err-check_place g c = record {
  told = only_first c.in-Ok.ensures.told c.in-Err-check_place.ensures.told;
  own = then_own c.in-Ok.ensures.own c.in-Err-check_place.ensures.own;
  cause = cause_then {A = Bool} (Err c.in-Err-check_place.fault) (g.S.Site.fault_count
      c.args.site.now)
      (g.S.Site.fault_count c.check_place.new.site) (g.S.Site.fault_count
      c.check_place-in-Ok.new.site) c.in-Ok.ensures.cause
      (err_cause Bool Bool c.in-Err-check_place.fault (g.S.Site.fault_count c.check_place.new.site)
      (g.S.Site.fault_count c.check_place-in-Ok.new.site) c.in-Err-check_place.ensures.cause);
}

pub returns-in-Err : goal.returns-in-Err
returns-in-Err g c = record {
  told = not_first c.in-Err.ensures.told;
  own = c.in-Err.ensures.own;
  cause = err_cause Bool Bool c.in-Err.fault (g.S.Site.fault_count c.args.site.now)
      (g.S.Site.fault_count c.check_place.new.site) c.in-Err.ensures.cause;
}
