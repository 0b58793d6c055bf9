use Rattle.std.proofs.Common.{List, ℕ, drop, subst}
use Rattle.chk_ctl_audit_log.specs.Meeting.{RestMet}
use Rattle.chk_ctl_audit_log.proofs.Blocks.{value_result}
use Rattle.chk_ctl_audit_log.proofs.records.compare_value.Goals as goal

pub returns-clause-told : goal.returns-clause-told
returns-clause-told g c from skip taken before is at =
    let now = g.S.Site.told c.compare_rest.new.site in
    value_result c.args.who.now from skip c.args.left.now c.saturating_sub.result taken
    c.args.value.now c.compare_rest.new.log c.compare_rest.result before now is
    c.saturating_sub.ensures
    (subst (λ (b : List ℕ). RestMet c.args.who.now from (drop skip taken) b
    c.compare_rest.new.log before c.compare_rest.result now) c.behind-rest.ensures
    (c.compare_rest.ensures.told from (drop skip taken) before at))
