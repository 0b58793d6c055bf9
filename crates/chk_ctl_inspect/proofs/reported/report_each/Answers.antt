use Rattle.std.proofs.Common.{◌∙◌, Err, refl}
use Rattle.chk_ctl_status_rows.proofs.SinksOwn.{cause_after}
use Rattle.chk_ctl_inspect.specs.Reporting.{all_told}
use Rattle.chk_ctl_inspect.proofs.Told.{tells_end, tells_more}
use Rattle.chk_ctl_inspect.proofs.reported.report_each.Goals as goal

pub loop-item-init : goal.loop-item-init
loop-item-init g c = (all_told, refl)

pub loop-item-preserved : goal.loop-item-preserved
loop-item-preserved g c =
    let l = c.loop-item in (
      tells_more (g.R.Reported.texts c.args.in_tables c.args.books.now) c.args.items.now l.item-index
          c.item-item.result c.loop-item-test.true l.invariant.0
          (rw c.item-item.is at c.in-Ok.ensures.told),
      c.in-Ok.ensures.cause ∙ l.invariant.1,
    )

pub returns-in-Err-clause-told : goal.returns-in-Err-clause-told
returns-in-Err-clause-told g c =
    let l = c.loop-item in
    tells_end (g.R.Reported.texts c.args.in_tables c.args.books.now) c.args.items.now l.item-index
    c.item-item.result {new = g.S.Site.told c.report.new.site} c.loop-item-test.true l.invariant.0
    (rw c.item-item.is at c.in-Err.ensures.told)

pub returns-in-Err-clause-cause : goal.returns-in-Err-clause-cause
returns-in-Err-clause-cause g c =
    cause_after {T = Unit {0}} (Err c.in-Err.fault) _ _ _ c.loop-item.invariant.1 c.in-Err.ensures.cause
