use Rattle.chk_ctl_verify.proofs.Causes.{check_cause}
use Rattle.chk_ctl_verify.proofs.Seen.{check_seen}
use Rattle.chk_ctl_verify.proofs.Steps.{look_own}
use Rattle.std.proofs.Common.{refl}
use Rattle.chk_ctl_verify.proofs.checks.look_as.Goals as goal

pub returns : goal.returns
returns g c =
    rw c.check_found.ensures (record {
      told = check_seen c.args.who.now.name c.load_checkpoint-given.result _ refl
          c.load_checkpoint-given.ensures.whole;
      own = look_own c.args.who.now _ c.load_checkpoint-given.ensures.reads;
      cause = check_cause c.load_checkpoint-given.result (g.S.Site.fault_count c.args.site.now)
          (g.S.Site.fault_count c.load_checkpoint-given.new.site)
          c.load_checkpoint-given.ensures.cause;
    })
