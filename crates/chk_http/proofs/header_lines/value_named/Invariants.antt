use Rattle.std.proofs.Common.{take}
use Rattle.chk_http.specs.HeaderLines.{values_at, AreNamed}
use Rattle.chk_http.proofs.header_lines.value_named.Given as goal

abbrev pub invariant-loop-header : goal.invariant-loop-header
invariant-loop-header l = AreNamed (values_at l.name l.bytes (take l.header-index l.headers)) l.found
