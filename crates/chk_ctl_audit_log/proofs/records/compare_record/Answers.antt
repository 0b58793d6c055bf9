use Rattle.std.proofs.Common.{◌∙◌, ℕ, List, Ok, Err, drop, refl, subst}
use Rattle.chk_record_index.proofs.Gathering.{every_then}
use Rattle.chk_record_index.specs.declared.fault.JobFault.{JobFault}
use Rattle.chk_record_index.specs.Faults.{job_fault}
use Rattle.chk_world.specs.JobSteps.{IsOf}
use Rattle.chk_ctl_audit_log.specs.declared.comparing.Met.{Met}
use Rattle.chk_ctl_audit_log.specs.Records.{ReadsBeside, RecordMet}
use Rattle.chk_ctl_audit_log.proofs.Causes.{call_cause, job_as, job_then, of_call}
use Rattle.chk_ctl_audit_log.proofs.Blocks.{fetched_then, files_beside, log_beside, log_fails}
use Rattle.chk_ctl_audit_log.proofs.Blocks.{logs_beside, unfetched}
use Rattle.chk_ctl_audit_log.proofs.records.compare_record.Goals as goal

pub returns-in-Ok-compare_value : goal.returns-in-Ok-compare_value
returns-in-Ok-compare_value g c =
    let path = c.args.log.now.reader.path in
    let s = c.args.side.now in
    record {
      told = λ from skip taken before is at.
          subst (λ (v : List ℕ). RecordMet {F = JobFault} c.args.who.now from skip taken v
          c.compare_value.new.log c.compare_value.new.left before (Ok c.in-Ok-compare_value.met)
          (g.S.Site.told c.compare_value.new.site)) c.value.ensures
          (c.in-Ok-compare_value.ensures.told from skip taken before is
          (log_beside c.args.who.now from (drop skip taken) c.args.log.now at
          c.in-Ok.ensures.own));
      raw = λ most all held few settled side.
          fetched_then all held s c.args.index path c.args.reader.now c.fetch.new.reader
          c.in-Ok-compare_value.met settled c.in-Ok.ensures.own
          (λ windows. c.in-Ok.ensures.raw most all held few settled side.among side.known windows)
          c.in-Ok-compare_value.ensures.own;
      own = every_then (IsOf (ReadsBeside path)) (files_beside path c.in-Ok.ensures.own)
          (logs_beside path c.in-Ok-compare_value.ensures.own);
      path = c.in-Ok-compare_value.ensures.path;
      only = tt;
      cause = c.in-Ok-compare_value.ensures.cause ∙ c.in-Ok.ensures.cause;
    }

pub returns-in-Err-compare_value : goal.returns-in-Err-compare_value
returns-in-Err-compare_value g c =
    let path = c.args.log.now.reader.path in
    let s = c.args.side.now in
    let f = c.in-Err-compare_value.fault in
    rw c.from.ensures
    (record {
      told = λ from skip taken before is at. tt;
      raw = λ most all held few settled side.
          log_fails all held s c.args.index c.args.reader.now c.fetch.new.reader f
          (every_then (IsOf (ReadsBeside path)) (files_beside path c.in-Ok.ensures.own)
          (logs_beside path c.in-Err-compare_value.ensures.own));
      own = every_then (IsOf (ReadsBeside path)) (files_beside path c.in-Ok.ensures.own)
          (logs_beside path c.in-Err-compare_value.ensures.own);
      path = c.in-Err-compare_value.ensures.path;
      only = of_call f;
      cause = job_then {T = Met} (Err (job_fault f)) (g.S.Site.fault_count c.args.site.now)
          (g.S.Site.fault_count c.fetch.new.site) (g.S.Site.fault_count c.compare_value.new.site)
          c.in-Ok.ensures.cause
          (call_cause Met Met f (g.S.Site.fault_count c.fetch.new.site)
          (g.S.Site.fault_count c.compare_value.new.site) c.in-Err-compare_value.ensures.cause);
    })

pub returns-in-Err : goal.returns-in-Err
returns-in-Err g c =
    let path = c.args.log.now.reader.path in
    let f = c.in-Err.fault in
    record {
      told = λ from skip taken before is at. tt;
      raw = λ most all held few settled side.
          unfetched all held c.args.side.now c.args.index c.args.reader.now c.fetch.new.reader f
          c.in-Err.ensures.own
          (λ windows. c.in-Err.ensures.raw most all held few settled side.among side.known windows);
      own = files_beside path c.in-Err.ensures.own;
      path = refl;
      only = c.in-Err.ensures.only;
      cause = job_as (Unit {0}) Met f (g.S.Site.fault_count c.args.site.now)
          (g.S.Site.fault_count c.fetch.new.site) c.in-Err.ensures.cause;
    }
