use Rattle.std.specs.Option.{option_copied}
use Rattle.chk_ctl_audit_log.proofs.Placed.{passed_by}
use Rattle.chk_ctl_audit_log.proofs.placing.pass_next.Goals as goal

pub returns-in-Ok-Rotated-clause-told : goal.returns-in-Ok-Rotated-clause-told
returns-in-Ok-Rotated-clause-told g c =
    passed_by c.args.who.now c.args.path.now c.args.last.now (option_copied c.args.after)
    c.args.bytes c.in-Ok-Rotated.suffix c.in-Ok-Rotated.size c.further.result
    (rw c.in-Ok-Rotated.field-0-is at c.in-Ok-Rotated.ensures.told) c.further.ensures
