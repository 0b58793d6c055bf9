use Rattle.std.proofs.Common.{Bool, Ok, Err, refl, subst, ◌∙◌}
use Rattle.std.proofs.lemmas.List.{take_all}
use Rattle.chk_ctl_verify.specs.Books.{SegmentChecked}
use Rattle.chk_ctl_verify.specs.Walks.{EachChecked, none_yet}
use Rattle.chk_ctl_verify.proofs.Causes.{cause_then}
use Rattle.chk_ctl_verify.proofs.Turns.{each_next, each_stopped}
use Rattle.chk_ctl_verify.proofs.Steps.{no_call, then_own}
use Rattle.chk_ctl_verify.proofs.books.check_numbers.Goals as goal

pub loop-number-init : goal.loop-number-init
loop-number-init g c =
    record { told = none_yet; own = no_call (g.S.Site.told c.args.site.now); count = refl }

pub loop-number-preserved : goal.loop-number-preserved
loop-number-preserved g c =
    let l = c.loop-number in
    record {
      told = each_next c.args.numbers.now l.number-index 0 _ l.damaged c.in-Ok.wrong
          c.either-damaged.result c.loop-number-test.true refl c.either-damaged.ensures
          l.invariant.told
          c.in-Ok.ensures.told;
      own = then_own l.invariant.own c.in-Ok.ensures.own;
      count = c.in-Ok.ensures.cause ∙ l.invariant.count;
    }

pub returns-in-Err : goal.returns-in-Err
returns-in-Err g c =
    let l = c.loop-number in
    record {
      told = each_stopped c.args.numbers.now l.number-index 0 _ l.damaged
          c.in-Err.fault c.loop-number-test.true refl l.invariant.told
          c.in-Err.ensures.told;
      own = then_own l.invariant.own c.in-Err.ensures.own;
      cause = cause_then {A = Bool} (Err c.in-Err.fault) (g.S.Site.fault_count c.args.site.now)
          (g.S.Site.fault_count l.site) (g.S.Site.fault_count c.check_segment.new.site)
          l.invariant.count
          c.in-Err.ensures.cause;
    }

pub returns : goal.returns
returns g c =
    let l = c.loop-number in
    record {
      told = subst (λ ys. EachChecked (SegmentChecked c.args.folder.now c.args.told.now) ys (Ok
          l.damaged) (g.S.Site.told c.args.site.now)
          (g.S.Site.told l.site)) (take_all l.number-index c.args.numbers.now
          c.loop-number-test.false)
          l.invariant.told;
      own = l.invariant.own;
      cause = l.invariant.count;
    }
