use Rattle.std.proofs.Common.{subst}
use Rattle.chk_world.specs.JobSteps.{IsOf, ReadsFile}
use Rattle.chk_record_index.proofs.Gathering.{every_then}
use Rattle.chk_book.proofs.Added.{cause_then, fails_later}
use Rattle.chk_ctl_held.specs.Finding.{HasDamage, once, again}
use Rattle.chk_ctl_held.proofs.Later.{damage_same}
use Rattle.chk_ctl_held.proofs.finding.find_waiting.Goals as goal

-- the first look is the last one
pub returns-then-not-is_damaged : goal.returns-then-not-is_damaged
returns-then-not-is_damaged g c = record {
  told = once (subst (λ b. HasDamage b c.find_once-given.result) c.if-not-is_damaged.true
      c.is_damaged.ensures) c.find_once-given.ensures.told;
  own = c.find_once-given.ensures.own;
  only = c.find_once-given.ensures.only;
  last = c.find_once-given.ensures.last;
  order = c.find_once-given.ensures.order;
  cause = c.find_once-given.ensures.cause;
}

-- there is a second one
pub returns : goal.returns
returns g c =
    let given = c.find_once-given.result in
    let result = c.find_once.result in
    let has = subst (λ b. HasDamage b given) c.if-not-is_damaged.false c.is_damaged.ensures in
    let before = g.S.Site.fault_count c.args.site.now in
    let middle = g.S.Site.fault_count c.find_once-given.new.site in
    let after = g.S.Site.fault_count c.find_once.new.site in
    record {
      told = again has c.find_once-given.ensures.told c.find_once.ensures.told;
      own = every_then (IsOf ReadsFile) c.find_once-given.ensures.own c.find_once.ensures.own;
      only = c.find_once.ensures.only;
      last = fails_later result c.find_once-given.ensures.own c.find_once.ensures.last;
      order = c.find_once.ensures.order;
      cause = cause_then result before middle after
          (damage_same given before middle has c.find_once-given.ensures.cause)
          c.find_once.ensures.cause;
    }
