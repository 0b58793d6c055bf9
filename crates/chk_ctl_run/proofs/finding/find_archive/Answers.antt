use Rattle.std.proofs.Common.{refl}
use Rattle.chk_ctl_run.proofs.Found.{found_cause}
use Rattle.chk_ctl_run.proofs.finding.find_archive.Goals as goal

pub returns : goal.returns
returns g c =
    let given = c.find_file-given.result in
    rw c.found_as.ensures
    (record {
      told = record { given = given; found = c.find_file-given.ensures.told; is = refl };
      cause = found_cause given (g.S.Site.fault_count c.args.site.now)
          (g.S.Site.fault_count c.find_file-given.new.site)
          c.find_file-given.ensures.cause;
    })
