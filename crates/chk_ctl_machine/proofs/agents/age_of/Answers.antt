use Rattle.std.proofs.Common.{◌∙◌}
use Rattle.chk_world.specs.Names.{spell}
use Rattle.chk_ctl_machine.specs.Ages.{unasked}
use Rattle.chk_ctl_machine.proofs.Causes.{asked_of}
use Rattle.chk_ctl_machine.proofs.agents.age_of.Goals as goal

pub returns-in-Ok : goal.returns-in-Ok
unfolding spell
returns-in-Ok g c =
    asked_of _ c.as_str.result.now c.age_of.result _ _
    (c.as_str.ensures.value ∙ c.in-Ok.ensures.ok) c.age_of.ensures

pub returns-in-Err : goal.returns-in-Err
returns-in-Err g c = unasked
