use Rattle.std.proofs.Common.{Bool, Err, ◌∙◌}
use Rattle.chk_ctl_verify.specs.Books.{told_all, told_some, untold}
use Rattle.chk_ctl_verify.specs.declared.books.Folder.{Folder}
use Rattle.chk_ctl_verify.proofs.Causes.{cause_then, err_cause}
use Rattle.chk_ctl_verify.proofs.Steps.{then_own}
use Rattle.chk_ctl_verify.proofs.books.check_damaged.Goals as goal

pub returns-in-Ok-check_left : goal.returns-in-Ok-check_left
returns-in-Ok-check_left g c = record {
  told = told_all c.in-Ok.ensures.told c.in-Ok-check_left.ensures.told;
  own = then_own c.in-Ok.ensures.own c.in-Ok-check_left.ensures.own;
  cause = c.in-Ok-check_left.ensures.cause ∙ c.in-Ok.ensures.cause;
}

pub returns-in-Err-check_left : goal.returns-in-Err-check_left
returns-in-Err-check_left g c = record {
  told = told_some c.in-Ok.ensures.told c.in-Err-check_left.ensures.told;
  own = then_own c.in-Ok.ensures.own c.in-Err-check_left.ensures.own;
  cause = cause_then {A = Folder} (Err c.in-Err-check_left.fault) (g.S.Site.fault_count
      c.args.site.now)
      (g.S.Site.fault_count c.tell_damage.new.site) (g.S.Site.fault_count c.check_left.new.site)
      c.in-Ok.ensures.cause
      (err_cause Bool Folder c.in-Err-check_left.fault (g.S.Site.fault_count c.tell_damage.new.site)
      (g.S.Site.fault_count c.check_left.new.site) c.in-Err-check_left.ensures.cause);
}

pub returns-in-Err : goal.returns-in-Err
returns-in-Err g c = record {
  told = untold c.in-Err.ensures.told;
  own = c.in-Err.ensures.own;
  cause = err_cause Bool Folder c.in-Err.fault (g.S.Site.fault_count c.args.site.now)
      (g.S.Site.fault_count c.tell_damage.new.site) c.in-Err.ensures.cause;
}
