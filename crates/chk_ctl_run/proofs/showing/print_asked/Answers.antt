use Rattle.std.proofs.Common.{refl}
use Rattle.chk_ctl_run.proofs.Shown.{shown_cause}
use Rattle.chk_ctl_run.proofs.showing.print_asked.Goals as goal

pub returns : goal.returns
returns g c =
    let given = c.show_from-given.result in
    rw c.shown_as.ensures
    (record {
      told = record { given = given; shown = c.show_from-given.ensures.told; is = refl };
      own = c.show_from-given.ensures.own;
      cause = shown_cause given (g.S.Site.fault_count c.args.site.now)
          (g.S.Site.fault_count c.show_from-given.new.site)
          c.show_from-given.ensures.cause;
    })
