use Rattle.std.proofs.Common.{refl}
use Rattle.chk_world.specs.Names.{spell}
use Rattle.chk_ctl_passed.proofs.agents.file_text.Goals as goal

pub returns : goal.returns
unfolding spell
returns c = rw (c.in_ok-format.ensures.ok) refl
