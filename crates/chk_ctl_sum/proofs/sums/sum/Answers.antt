use Rattle.std.proofs.Common.{subst}
use Rattle.chk_world.specs.JobSteps.{IsOf, ReadsFile}
use Rattle.chk_record_index.proofs.Gathering.{every_then}
use Rattle.chk_book.proofs.Added.{cause_then, fails_later}
use Rattle.chk_ctl_sum.specs.Sums.{HasDamage, once, again}
use Rattle.chk_ctl_sum.proofs.Later.{damage_same}
use Rattle.chk_ctl_sum.proofs.sums.sum.Goals as goal

-- the first look is the last one
pub returns-then-not-is_damaged : goal.returns-then-not-is_damaged
returns-then-not-is_damaged g c = record {
  told = once (subst (λ b. HasDamage b c.sum_folder-given.result) c.if-not-is_damaged.true
      c.is_damaged.ensures) c.sum_folder-given.ensures.told;
  own = c.sum_folder-given.ensures.own;
  only = c.sum_folder-given.ensures.only;
  last = c.sum_folder-given.ensures.last;
  cause = c.sum_folder-given.ensures.cause;
}

-- there is a second one
pub returns : goal.returns
returns g c =
    let given = c.sum_folder-given.result in
    let result = c.sum_folder.result in
    let has = subst (λ b. HasDamage b given) c.if-not-is_damaged.false c.is_damaged.ensures in
    let before = g.S.Site.fault_count c.args.site.now in
    let middle = g.S.Site.fault_count c.sum_folder-given.new.site in
    let after = g.S.Site.fault_count c.sum_folder.new.site in
    record {
      told = again has c.sum_folder-given.ensures.told c.sum_folder.ensures.told;
      own = every_then (IsOf ReadsFile) c.sum_folder-given.ensures.own c.sum_folder.ensures.own;
      only = c.sum_folder.ensures.only;
      last = fails_later result c.sum_folder-given.ensures.own c.sum_folder.ensures.last;
      cause = cause_then result before middle after
          (damage_same given before middle has c.sum_folder-given.ensures.cause)
          c.sum_folder.ensures.cause;
    }
