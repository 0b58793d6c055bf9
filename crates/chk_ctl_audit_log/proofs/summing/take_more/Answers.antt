use Rattle.chk_ctl_audit_log.proofs.Owned.{stepped_own}
use Rattle.chk_ctl_audit_log.proofs.summing.take_more.Goals as goal

pub returns-in-Ok-Bytes-clause-own : goal.returns-in-Ok-Bytes-clause-own
returns-in-Ok-Bytes-clause-own g c =
    stepped_own c.args.who.now c.args.reader.now c.step.new.self c.step.result c.requires.job
    c.step.ensures.told

pub returns-in-Ok-clause-own : goal.returns-in-Ok-clause-own
returns-in-Ok-clause-own g c =
    stepped_own c.args.who.now c.args.reader.now c.step.new.self c.step.result c.requires.job
    c.step.ensures.told

pub returns-in-Err-clause-own : goal.returns-in-Err-clause-own
returns-in-Err-clause-own g c =
    stepped_own c.args.who.now c.args.reader.now c.step.new.self c.step.result c.requires.job
    c.step.ensures.told
