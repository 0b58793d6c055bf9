use Rattle.std.proofs.Common.{◌≡◌, ◌++◌, map, take}
use Rattle.chk_bytes.specs.Words.{joined_at}
use Rattle.chk_cmd_line.specs.Lines.{part_text}
use Rattle.chk_cmd_line.proofs.lines.push_line.Given as goal

abbrev pub invariant-loop-i : goal.invariant-loop-i
invariant-loop-i l = l.out ≡ l.initial.out ++ joined_at 32 (map part_text (take l.i l.parts))
