use Rattle.std.proofs.Common.{Bool, List, Ok, Err, refl, subst, ℕ, ◌∙◌}
use Rattle.std.proofs.lemmas.List.{take_all}
use Rattle.chk_ctl_verify.specs.Walks.{EachChecked, FileChecked, none_yet}
use Rattle.chk_ctl_verify.proofs.Causes.{cause_then}
use Rattle.chk_ctl_verify.proofs.Turns.{each_next, each_stopped}
use Rattle.chk_ctl_verify.proofs.Steps.{no_call, then_own}
use Rattle.chk_ctl_verify.proofs.folders.check_names.Goals as goal

pub loop-name-init : goal.loop-name-init
loop-name-init g c =
    record { told = none_yet; own = no_call (g.S.Site.told c.args.site.now); count = refl }

pub loop-name-preserved : goal.loop-name-preserved
loop-name-preserved g c =
    let l = c.loop-name in
    record {
      told = each_next c.args.names.now l.name-index c.name-item.result c.name-item.result
          l.damaged c.in-Ok.wrong
          c.either-damaged.result c.loop-name-test.true c.name-item.is c.either-damaged.ensures
          l.invariant.told
          (subst (λ (n : List ℕ). FileChecked c.args.place n (Ok c.in-Ok.wrong) (g.S.Site.told
          l.site)
          (g.S.Site.told c.check_file.new.site)) c.as_str.ensures.text c.in-Ok.ensures.told);
      own = then_own l.invariant.own c.in-Ok.ensures.own;
      count = c.in-Ok.ensures.cause ∙ l.invariant.count;
    }

pub returns-in-Err : goal.returns-in-Err
returns-in-Err g c =
    let l = c.loop-name in
    record {
      told = each_stopped c.args.names.now l.name-index c.name-item.result c.name-item.result
          l.damaged
          c.in-Err.fault c.loop-name-test.true c.name-item.is l.invariant.told
          (subst (λ (n : List ℕ). FileChecked c.args.place n (Err c.in-Err.fault) (g.S.Site.told
          l.site)
          (g.S.Site.told c.check_file.new.site)) c.as_str.ensures.text c.in-Err.ensures.told);
      own = then_own l.invariant.own c.in-Err.ensures.own;
      cause = cause_then {A = Bool} (Err c.in-Err.fault) (g.S.Site.fault_count c.args.site.now)
          (g.S.Site.fault_count l.site) (g.S.Site.fault_count c.check_file.new.site)
          l.invariant.count
          c.in-Err.ensures.cause;
    }

pub returns : goal.returns
returns g c =
    let l = c.loop-name in
    record {
      told = subst (λ ys. EachChecked (FileChecked c.args.place) ys (Ok l.damaged) (g.S.Site.told
          c.args.site.now)
          (g.S.Site.told l.site)) (take_all l.name-index c.args.names.now c.loop-name-test.false)
          l.invariant.told;
      own = l.invariant.own;
      cause = l.invariant.count;
    }
