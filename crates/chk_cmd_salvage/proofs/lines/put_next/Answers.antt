use Rattle.std.proofs.Common.{refl, ◌∙◌, arith}
use Rattle.chk_salvage.specs.Front.{Skipped}
use Rattle.chk_cmd_salvage.specs.Lines.{skipped_line}
use Rattle.chk_cmd_salvage.proofs.LineSizes.{skipped_short}
use Rattle.chk_cmd_salvage.proofs.lines.put_next.Goals as goal

pub returns-in_ok-put_skipped-in-Damaged-clause-line : goal.returns-in_ok-put_skipped-in-Damaged-clause-line
returns-in_ok-put_skipped-in-Damaged-clause-line c =
    let begin = c.skip.result.begin in
    let end = c.skip.result.end in
    record {
      item = Skipped begin end;
      line = skipped_line begin end;
      is = refl;
      first = c.in-Damaged.ensures.items ∙ c.skip.ensures.items;
      behind = c.in_ok-put_skipped-in-Damaged.ensures.line;
      short = skipped_short begin end (omega arith) (omega arith);
    }
