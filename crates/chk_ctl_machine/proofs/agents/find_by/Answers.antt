use Rattle.chk_ctl_machine.specs.Agents.{unbegun}
use Rattle.chk_ctl_machine.proofs.agents.find_by.Goals as goal

pub returns-in-Err-clause-told : goal.returns-in-Err-clause-told
returns-in-Err-clause-told g c = unbegun
