use Rattle.std.proofs.Common.{◌∙◌}
use Rattle.chk_ctl_passed.proofs.agents.file_name.Goals as goal

pub returns-in-Ok : goal.returns-in-Ok
returns-in-Ok c = c.in-Ok.ensures.text ∙ (c.as_bytes.ensures.value ∙ c.in_ok-text.ensures)
