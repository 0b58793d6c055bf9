use Rattle.std.proofs.Common.{◌≡◌, ◌≤◌, []}
use Rattle.chk_site.specs.History.{Every}
use Rattle.chk_site.specs.Site.{Adds}
use Rattle.chk_rotate.specs.Readers.{Reader}
use Rattle.chk_world.specs.JobSteps.{IsOf}
use Rattle.chk_ctl_audit_log.specs.Ahead.{LogAt}
use Rattle.chk_ctl_audit_log.specs.Records.{ReadsBeside}
use Rattle.chk_ctl_audit_log.proofs.Blocks.{SoFar}
use Rattle.chk_ctl_audit_log.proofs.records.compare_block.Given as goal

abbrev pub invariant-loop-index : goal.invariant-loop-index
invariant-loop-index g l = record {
  so : (from : Reader)
      → LogAt l.who from [] l.fn.log (g.S.Site.told l.fn.site) (g.S.Site.told l.fn.site)
      → SoFar l.who l.side l.fn.reader l.reader from l.skip l.fn.block.first l.index l.left l.log
      (g.S.Site.told l.fn.site) (g.S.Site.told l.site);
  own : Adds (g.S.Site.told l.fn.site) (g.S.Site.told l.site)
      (Every (IsOf (ReadsBeside l.fn.log.reader.path)));
  path : l.log.reader.path ≡ l.fn.log.reader.path;
  count : g.S.Site.fault_count l.site ≡ g.S.Site.fault_count l.fn.site;
  low : l.fn.block.first ≤ l.index;
  high : l.index ≤ l.fn.block.end;
}
