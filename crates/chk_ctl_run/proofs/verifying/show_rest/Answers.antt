use Rattle.chk_ctl_run.specs.Verifying.{no_records, records, unfound}
use Rattle.chk_ctl_run.proofs.Found.{found_own, found_then, cause_then, sought_cause}
use Rattle.chk_ctl_run.proofs.verifying.show_rest.Goals as goal

pub returns-in-Ok-true : goal.returns-in-Ok-true
returns-in-Ok-true g c =
    let found = rw c.in-Ok-true.field-0-test at c.in-Ok-true.ensures.told in
    record {
      told = records found c.show_sound.ensures.told;
      own = found_then found.quiet c.show_sound.ensures.own;
      cause = cause_then c.show_sound.result (g.S.Site.fault_count c.args.site.now)
          (g.S.Site.fault_count c.find_file.new.site)
          (g.S.Site.fault_count c.show_sound.new.site)
          c.in-Ok-true.ensures.cause c.show_sound.ensures.cause;
    }

pub returns-in-Ok-false : goal.returns-in-Ok-false
returns-in-Ok-false g c =
    let found = rw c.in-Ok-false.field-0-test at c.in-Ok-false.ensures.told in
    record {
      told = no_records found c.show_alone.ensures.told;
      own = found_then found.quiet c.show_alone.ensures.own;
      cause = cause_then c.show_alone.result (g.S.Site.fault_count c.args.site.now)
          (g.S.Site.fault_count c.find_file.new.site) (g.S.Site.fault_count c.show_alone.new.site)
          c.in-Ok-false.ensures.cause c.show_alone.ensures.cause;
    }

pub returns-in-Err : goal.returns-in-Err
returns-in-Err g c =
    rw c.told_as.ensures
    (record {
      told = unfound c.in-Err.fault c.in-Err.ensures.told;
      own = found_own c.in-Err.ensures.told.quiet;
      cause = sought_cause c.in-Err.fault (g.S.Site.fault_count c.args.site.now)
          (g.S.Site.fault_count c.find_file.new.site) c.in-Err.ensures.cause;
    })
