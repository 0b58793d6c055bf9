use Rattle.std.proofs.Common.{Bool, List, Option, subst, sym, ℕ, ◌∙◌}
use Rattle.chk_world.proofs.Ends.{bytes_same}
use Rattle.chk_ctl_verify.specs.Books.{looked, told_before, unlooked}
use Rattle.chk_ctl_verify.specs.Telling.{ToldIf}
use Rattle.chk_ctl_verify.proofs.Causes.{cause_then, err_cause}
use Rattle.chk_ctl_verify.proofs.Steps.{quiet_own, then_own}
use Rattle.chk_ctl_verify.proofs.books.check_unless.Goals as goal

pub returns-then-eq-clause-told : goal.returns-then-eq-clause-told
returns-then-eq-clause-told g c =
    told_before (sym c.requires.name
    ∙ bytes_same c.args.name.now c.args.told.now (sym c.eq.ensures ∙ c.if-eq.true))

pub returns-in-Ok : goal.returns-in-Ok
returns-in-Ok g c = record {
  told = looked c.in-Ok.found c.in-Ok.ensures.own c.in-Ok.ensures.told
      (subst (λ (n : List ℕ). ToldIf n c.in-Ok.found c.tell_found.result (g.S.Site.told
      c.find_segment.new.site)
      (g.S.Site.told c.tell_found.new.site)) c.requires.name c.tell_found.ensures.told);
  own = then_own (quiet_own c.in-Ok.ensures.own) c.tell_found.ensures.own;
  cause = cause_then c.tell_found.result (g.S.Site.fault_count c.args.site.now)
      (g.S.Site.fault_count c.find_segment.new.site) (g.S.Site.fault_count c.tell_found.new.site)
      c.in-Ok.ensures.cause c.tell_found.ensures.cause;
}

pub returns-in-Err : goal.returns-in-Err
returns-in-Err g c = record {
  told = unlooked c.in-Err.fault c.in-Err.ensures.own;
  own = quiet_own c.in-Err.ensures.own;
  cause = err_cause (Option ℕ) Bool c.in-Err.fault (g.S.Site.fault_count c.args.site.now)
      (g.S.Site.fault_count c.find_segment.new.site) c.in-Err.ensures.cause;
}
