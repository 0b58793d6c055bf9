use Rattle.std.proofs.Common.{◌∙◌}
use Rattle.chk_world.specs.Names.{spell}
use Rattle.chk_ctl_machine.proofs.agents.check_name.Goals as goal

pub returns-in-Ok-new : goal.returns-in-Ok-new
unfolding spell
returns-in-Ok-new c =
    c.in-Ok-new.ensures.text ∙ (c.as_bytes.ensures.value ∙ c.in-Ok.ensures.ok)
