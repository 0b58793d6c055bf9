use Rattle.std.proofs.Common.{◌∙◌}
use Rattle.chk_control.proofs.WordTests.{utf8_tested}
use Rattle.chk_control.proofs.lines.is_utf8.Goals as goal

pub returns : goal.returns
returns c = c.is_ok.ensures.value
    ∙ utf8_tested _ _ c.args.bytes.now c.from_utf8.result c.from_utf8.ensures.cases
