use Rattle.std.proofs.Common.{◌≡◌}
use Rattle.chk_cmd_load.proofs.Progress.{WroteLogs}
use Rattle.chk_cmd_load.proofs.pieces.append_lines.Given as goal

abbrev pub invariant-loop-log : goal.invariant-loop-log
invariant-loop-log g l = record {
  wrote : WroteLogs l.writer l.lines l.log l.bytes (g.S.Site.told l.fn.site) (g.S.Site.told l.site);
  count : g.S.Site.fault_count l.site ≡ g.S.Site.fault_count l.fn.site;
}
