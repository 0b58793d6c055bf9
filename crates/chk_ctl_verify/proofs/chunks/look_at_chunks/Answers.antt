use Rattle.chk_record_index.specs.Gathered.{HasHeads}
use Rattle.chk_record_index.specs.Shown.{Shown}
use Rattle.chk_ctl_verify.proofs.Causes.{job_cause}
use Rattle.chk_ctl_verify.proofs.Seen.{damage_seen}
use Rattle.chk_site.proofs.Runs.{adds_as}
use Rattle.std.proofs.Common.{[], ℕ}
use Rattle.chk_ctl_verify.proofs.chunks.look_at_chunks.Goals as goal

pub returns-in-Ok : goal.returns-in-Ok
returns-in-Ok g c =
    record {
      told = (
        c.in-Ok.ensures.shown.0,
        adds_as (Shown c.args.name.now (HasHeads c.args.most 0 []
            c.in-Ok.ensures.shown.0)) c.in-Ok.ensures.shown.1 (λ added history x. x),
      );
      own = c.in-Ok.ensures.own;
      cause = c.in-Ok.ensures.cause;
    }

pub returns-in-Err : goal.returns-in-Err
returns-in-Err g c =
    rw c.damage_of.ensures (record {
      told = damage_seen c.args.most c.args.name.now [] c.in-Err.ensures.shown.0 c.in-Err.fault
          c.in-Err.ensures.shown.1;
      own = c.in-Err.ensures.own;
      cause = job_cause ℕ c.in-Err.fault (g.S.Site.fault_count c.args.site.now)
          (g.S.Site.fault_count c.gather.new.site) c.in-Err.ensures.cause;
    })
