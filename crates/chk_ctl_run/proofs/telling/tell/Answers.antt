use Rattle.std.proofs.Common.{refl}
use Rattle.chk_ctl_streams.proofs.Again.{looks_again}
use Rattle.chk_ctl_streams.proofs.Listed.{prints_own}
use Rattle.chk_ctl_run.proofs.Shown.{told_by, told_cause}
use Rattle.chk_ctl_run.proofs.telling.tell.Goals as goal

pub returns : goal.returns
returns g c =
    let given = c.print_line-given.result in
    let told = c.print_line-given.ensures.told in
    rw c.told_as.ensures
    (record {
      told = record {
        given = given;
        printed = told_by c.requires.job c.as_bytes.ensures.value
            told;
        is = refl;
      };
      own = looks_again (prints_own c.requires.job told);
      cause = told_cause given (g.S.Site.fault_count c.args.site.now)
          (g.S.Site.fault_count c.print_line-given.new.site)
          c.print_line-given.ensures.cause;
    })
