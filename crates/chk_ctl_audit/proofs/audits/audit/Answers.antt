use Rattle.std.proofs.Common.{subst}
use Rattle.chk_ctl_audit.specs.Audits.{again, HasDamage, once}
use Rattle.chk_ctl_audit.proofs.Owned.{again_own}
use Rattle.chk_ctl_audit.proofs.Steps.{damage_same, job_then}
use Rattle.chk_ctl_audit.proofs.audits.audit.Goals as goal

-- the first look is the last one
pub returns-then-not-is_damaged : goal.returns-then-not-is_damaged
returns-then-not-is_damaged g c =
    let told = once (subst (λ b. HasDamage b c.audit_folder-given.result)
    c.if-not-is_damaged.true c.is_damaged.ensures) c.audit_folder-given.ensures.told in
    record {
      told = told;
      own = again_own c.args.folder.now c.audit_folder-given.result told;
      only = c.audit_folder-given.ensures.only;
      cause = c.audit_folder-given.ensures.cause;
    }

-- there is a second one
pub returns : goal.returns
returns g c =
    let given = c.audit_folder-given.result in
    let result = c.audit_folder.result in
    let has = subst (λ b. HasDamage b given) c.if-not-is_damaged.false c.is_damaged.ensures in
    let before = g.S.Site.fault_count c.args.site.now in
    let middle = g.S.Site.fault_count c.audit_folder-given.new.site in
    let told = again has c.audit_folder-given.ensures.told c.audit_folder.ensures.told in
    record {
      told = told;
      own = again_own c.args.folder.now result told;
      only = c.audit_folder.ensures.only;
      cause = job_then result before middle (g.S.Site.fault_count c.audit_folder.new.site)
          (damage_same given before middle has c.audit_folder-given.ensures.cause)
          c.audit_folder.ensures.cause;
    }
