use Rattle.std.proofs.Common.{◌∙◌}
use Rattle.chk_ctl_check.proofs.SilentLines.{silent_one, silent_spelled}
use Rattle.chk_ctl_check.proofs.collectors.silent_line.Goals as goal

pub returns-clause-line : goal.returns-clause-line
returns-clause-line c = c.in_ok-text.ensures.ok ∙ silent_spelled c.args.address.now

pub returns-clause-one : goal.returns-clause-one
returns-clause-one c = silent_one c.args.address.now c.requires.word

pub returns-in_err-text-clause-one : goal.returns-in_err-text-clause-one
returns-in_err-text-clause-one c = silent_one c.args.address.now c.requires.word
