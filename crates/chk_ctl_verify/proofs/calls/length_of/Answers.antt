use Rattle.chk_ctl_verify.proofs.Steps.{size_own, size_told}
use Rattle.chk_ctl_verify.proofs.calls.length_of.Goals as goal

pub returns-clause-told : goal.returns-clause-told
returns-clause-told g c =
    size_told c.args.who.now c.args.name.now c.size_of.result c.requires.job c.size_of.ensures.told

pub returns-clause-own : goal.returns-clause-own
returns-clause-own g c =
    size_own c.args.who.now c.args.name.now c.size_of.result c.size_of.ensures.told
