use Rattle.chk_ctl_verify.proofs.Causes.{cause_then}
use Rattle.chk_ctl_verify.proofs.Seen.{ok_as}
use Rattle.chk_ctl_verify.proofs.Steps.{then_quiet}
use Rattle.chk_ctl_verify.specs.Files.{damaged, sound}
use Rattle.chk_ctl_verify.proofs.chunks.look_at_sink.Goals as goal

pub returns-in-Ok-Some : goal.returns-in-Ok-Some
returns-in-Ok-Some g c =
    record {
      told = ok_as c.still_there.result (λ found x. damaged c.in-Ok-Some.at (rw
          c.in-Ok-Some.field-0-is at c.in-Ok-Some.ensures.told) x) c.still_there.ensures.told;
      own = then_quiet c.in-Ok-Some.ensures.own c.still_there.ensures.own;
      cause = cause_then c.still_there.result (g.S.Site.fault_count c.args.site.now)
          (g.S.Site.fault_count c.look_at_chunks.new.site) (g.S.Site.fault_count
          c.still_there.new.site) c.in-Ok-Some.ensures.cause c.still_there.ensures.cause;
    }

pub returns-in-Ok-None : goal.returns-in-Ok-None
returns-in-Ok-None g c =
    record {
      told = sound (rw c.in-Ok-None.field-0-is at c.in-Ok-None.ensures.told);
      own = c.in-Ok-None.ensures.own;
      cause = c.in-Ok-None.ensures.cause;
    }

pub returns-in-Err : goal.returns-in-Err
returns-in-Err g c =
    record {
      told = tt;
      own = c.in-Err.ensures.own;
      cause = c.in-Err.ensures.cause;
    }
