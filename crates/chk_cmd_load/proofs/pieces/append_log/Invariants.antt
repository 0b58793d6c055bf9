use Rattle.std.proofs.Common.{◌≡◌, ◌<◌, length}
use Rattle.std.specs.Prelude.{IsTrue}
use Rattle.chk_cmd_load.specs.Lines.{ends_lines}
use Rattle.chk_cmd_load.proofs.Progress.{Wrote}
use Rattle.chk_cmd_load.proofs.pieces.append_log.Given as goal

abbrev pub invariant-loop-line : goal.invariant-loop-line
invariant-loop-line g l = record {
  lines_are : l.source.lines ≡ l.lines;
  line_is : l.source.line ≡ l.line;
  wrote : Wrote l.writer l.lines l.log l.line l.piece l.bytes (g.S.Site.told l.fn.site) (g.S.Site.told l.site);
  room : length l.piece < 65506;
  ends : IsTrue (ends_lines l.piece);
  count : g.S.Site.fault_count l.site ≡ g.S.Site.fault_count l.fn.site;
}
