use Rattle.std.proofs.Common.{◌++◌, inl, inr, Ok, Err, refl}
use Rattle.chk_site.specs.History.{Every}
use Rattle.chk_site.proofs.Runs.{adds_as, adds_then, every_join}
use Rattle.chk_replace.specs.Load.{IsLook}
use Rattle.chk_world.specs.JobSteps.{IsOf}
use Rattle.chk_checkpoint.specs.declared.Checkpoint.{Checkpoint}
use Rattle.chk_ctl_passed.specs.declared.judging.Verdict.{Verdict}
use Rattle.chk_ctl_passed.specs.Oldest.{LooksAtLog}
use Rattle.chk_ctl_passed.specs.Passing.{check_name, Looks}
use Rattle.chk_ctl_passed.proofs.Joined.{check_cause_as, check_cause_then, every_as, fails_as}
use Rattle.chk_ctl_passed.proofs.Joined.{fails_then}
use Rattle.chk_ctl_passed.proofs.passing.has_passed.Goals as goal

pub returns-in-Ok : goal.returns-in-Ok
returns-in-Ok g c =
    let agent = c.args.agent.now in
    let path = c.args.path.now in
    let result = c.weigh.result in
    let looks = IsLook agent (check_name agent) in
    record {
      told = record {
        given = Ok c.in-Ok.check;
        middle = g.S.Site.told c.load_checkpoint.new.site;
        loaded = c.in-Ok.ensures.whole;
        reads = c.in-Ok.ensures.reads;
        followed = c.weigh.ensures.told;
      };
      own =
          adds_then (Every (Looks agent path)) c.in-Ok.ensures.reads c.weigh.ensures.told.own
          (λ a b h x y.
          every_join (Looks agent path) b a h
          (every_as looks (Looks agent path) (λ before step z. inl z) a h x)
          (every_as (IsOf (LooksAtLog path)) (Looks agent path) (λ before step z. inr z) b
          (a ++ h) y));
      last = fails_then result c.in-Ok.ensures.reads c.weigh.ensures.last;
      cause = check_cause_then result (g.S.Site.fault_count c.args.site.now)
          (g.S.Site.fault_count c.load_checkpoint.new.site)
          (g.S.Site.fault_count c.weigh.new.site) c.in-Ok.ensures.cause c.weigh.ensures.cause;
    }

pub returns-in-Err : goal.returns-in-Err
returns-in-Err g c =
    let agent = c.args.agent.now in
    let path = c.args.path.now in
    record {
      told = record {
        given = Err c.in-Err.fault;
        middle = g.S.Site.told c.load_checkpoint.new.site;
        loaded = c.in-Err.ensures.whole;
        reads = c.in-Err.ensures.reads;
        followed = (refl, refl);
      };
      own =
          adds_as (Every (Looks agent path)) c.in-Err.ensures.reads
          (λ a h x.
          every_as (IsLook agent (check_name agent)) (Looks agent path)
          (λ before step z. inl z) a h x);
      last = fails_as Checkpoint Verdict c.in-Err.fault c.in-Err.ensures.last;
      cause = check_cause_as Checkpoint Verdict c.in-Err.fault
          (g.S.Site.fault_count c.args.site.now)
          (g.S.Site.fault_count c.load_checkpoint.new.site) c.in-Err.ensures.cause;
    }
