use Rattle.std.proofs.Common.{Bool, List, Option, subst, ℕ, ◌∙◌}
use Rattle.chk_ctl_verify.specs.Telling.{ToldIf}
use Rattle.chk_ctl_verify.specs.Walks.{looked, unlooked}
use Rattle.chk_ctl_verify.proofs.Causes.{cause_then, err_cause}
use Rattle.chk_ctl_verify.proofs.Steps.{quiet_own, then_own}
use Rattle.chk_ctl_verify.proofs.folders.check_at.Goals as goal

pub returns-in-Ok : goal.returns-in-Ok
returns-in-Ok g c = record {
  told = looked c.in-Ok.found c.in-Ok.ensures.own
      (rw c.as_bytes.ensures.value at c.in-Ok.ensures.told)
      (subst (λ (n : List ℕ). ToldIf n c.in-Ok.found c.tell_found.result (g.S.Site.told
      c.find_in.new.site)
      (g.S.Site.told c.tell_found.new.site)) (c.as_str.ensures.text ∙ c.requires.path)
      c.tell_found.ensures.told);
  own = then_own (quiet_own c.in-Ok.ensures.own) c.tell_found.ensures.own;
  cause = cause_then c.tell_found.result (g.S.Site.fault_count c.args.site.now)
      (g.S.Site.fault_count c.find_in.new.site) (g.S.Site.fault_count c.tell_found.new.site)
      c.in-Ok.ensures.cause c.tell_found.ensures.cause;
}

pub returns-in-Err : goal.returns-in-Err
returns-in-Err g c = record {
  told = unlooked c.in-Err.fault c.in-Err.ensures.own;
  own = quiet_own c.in-Err.ensures.own;
  cause = err_cause (Option ℕ) Bool c.in-Err.fault (g.S.Site.fault_count c.args.site.now)
      (g.S.Site.fault_count c.find_in.new.site) c.in-Err.ensures.cause;
}
