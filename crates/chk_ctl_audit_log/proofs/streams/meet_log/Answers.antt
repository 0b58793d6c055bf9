use Rattle.std.proofs.Common.{ap, refl}
use Rattle.chk_site.specs.History.{Every}
use Rattle.chk_site.proofs.Runs.{adds_none}
use Rattle.chk_rotate.specs.Readers.{Reader}
use Rattle.chk_world.specs.JobSteps.{IsOf}
use Rattle.chk_ctl_audit_log.specs.Records.{ReadsBeside}
use Rattle.chk_ctl_audit_log.specs.Streams.{log_of}
use Rattle.chk_ctl_audit_log.proofs.Blocks.{beside_own, log_begun, stream_met}
use Rattle.chk_ctl_audit_log.proofs.streams.meet_log.Goals as goal

pub returns-in-Ok : goal.returns-in-Ok
returns-in-Ok g c =
    let r = c.args.rest.now in
    let who = c.args.who.now in
    let b = c.in-Ok.ensures in
    record {
      told = stream_met who c.args.side.now r c.block_of-block.result c.new-reader.result
          c.skip.result c.compare_block.new.log c.compare_block.result
          (g.S.Site.told c.args.site.now) (g.S.Site.told c.compare_block.new.site)
          c.block_of-block.ensures.within c.block_of-block.ensures.all
          c.block_of-block.ensures.holds c.skip.ensures c.new-reader.ensures
          (c.compare_block.ensures.told (log_of r)
          (log_begun who r c.in-Ok.log (g.S.Site.told c.args.site.now) b));
      own = beside_own (ap (λ (x : Reader). x.path) b.0) c.compare_block.ensures.own;
      only = c.compare_block.ensures.only;
      cause = c.compare_block.ensures.cause;
    }

pub returns-in-Err : goal.returns-in-Err
returns-in-Err g c = record {
  told = tt;
  own = adds_none (g.S.Site.told c.args.site.now)
      (Every (IsOf (ReadsBeside c.args.rest.now.end.now.name))) (λ history. tt);
  only = tt;
  cause = refl;
}
