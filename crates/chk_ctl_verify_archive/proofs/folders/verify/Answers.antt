use Rattle.std.proofs.Common.{◌≡◌, ◌+◌, ℕ, subst, arith}
use Rattle.chk_world.specs.JobSteps.{IsOf, ReadsFile}
use Rattle.chk_record_index.proofs.Gathering.{every_then}
use Rattle.chk_book.proofs.Added.{cause_then, fails_later}
use Rattle.chk_ctl_cat.specs.Loading.{HasDamage}
use Rattle.chk_ctl_verify_archive.specs.Verifying.{IsSame, LooksOn, first, next, settled}
use Rattle.chk_ctl_verify_archive.proofs.Later.{damage_same, found_twice, none_left}
use Rattle.chk_ctl_verify_archive.proofs.folders.verify.Goals as goal

pub loop-left-init : goal.loop-left-init
loop-left-init g c = record {
  more = 0;
  sum = omega arith;
  so = first c.verify_folder-given.ensures.told;
  own = c.verify_folder-given.ensures.own;
  only = c.verify_folder-given.ensures.only;
  last = c.verify_folder-given.ensures.last;
  cause = c.verify_folder-given.ensures.cause;
}

-- no damage was found
pub returns-then-not-is_damaged-clause-told : goal.returns-then-not-is_damaged-clause-told
returns-then-not-is_damaged-clause-told g c =
    let l = c.loop-left in
    settled l.invariant.more (omega (arith, l.invariant.sum)) l.invariant.so
    (subst (λ b. HasDamage b l.given) c.if-not-is_damaged.true c.is_damaged.ensures)

-- the same one is found again
pub returns-then-is_same-clause-told : goal.returns-then-is_same-clause-told
returns-then-is_same-clause-told g c =
    let l = c.loop-left in
    let again = c.verify_folder-again in
    found_twice c.args.folder.now 64 l.invariant.more l.given again.result
    (omega (arith, l.invariant.sum, c.loop-left-test.true))
    (subst (λ b. IsSame b l.given again.result) c.if-is_same.true c.is_same.ensures) l.invariant.so
    (subst (λ b. HasDamage b l.given) c.if-not-is_damaged.false c.is_damaged.ensures)
    again.ensures.told

pub returns-then-is_same-clause-own : goal.returns-then-is_same-clause-own
returns-then-is_same-clause-own g c =
    every_then (IsOf ReadsFile) c.loop-left.invariant.own c.verify_folder-again.ensures.own

pub returns-then-is_same-clause-last : goal.returns-then-is_same-clause-last
returns-then-is_same-clause-last g c =
    fails_later c.verify_folder-again.result c.loop-left.invariant.own
    c.verify_folder-again.ensures.last

pub returns-then-is_same-clause-cause : goal.returns-then-is_same-clause-cause
returns-then-is_same-clause-cause g c =
    let l = c.loop-left in
    let before = g.S.Site.fault_count c.args.site.now in
    let middle = g.S.Site.fault_count l.site in
    cause_then c.verify_folder-again.result before middle
    (g.S.Site.fault_count c.verify_folder-again.new.site)
    (damage_same l.given before middle
    (subst (λ b. HasDamage b l.given) c.if-not-is_damaged.false c.is_damaged.ensures)
    l.invariant.cause)
    c.verify_folder-again.ensures.cause

-- another one is, or none
pub loop-left-preserved : goal.loop-left-preserved
loop-left-preserved g c =
    let l = c.loop-left in
    let again = c.verify_folder-again in
    let has = subst (λ b. HasDamage b l.given) c.if-not-is_damaged.false c.is_damaged.ensures in
    let before = g.S.Site.fault_count c.args.site.now in
    let middle = g.S.Site.fault_count l.site in
    record {
      more = l.invariant.more + 1;
      sum = omega (arith, l.invariant.sum, c.loop-left-test.true);
      so = next l.invariant.so has again.ensures.told
          (subst (λ b. IsSame b l.given again.result) c.if-is_same.false c.is_same.ensures);
      own = every_then (IsOf ReadsFile) l.invariant.own again.ensures.own;
      only = again.ensures.only;
      last = fails_later again.result l.invariant.own again.ensures.last;
      cause = cause_then again.result before middle (g.S.Site.fault_count again.new.site)
          (damage_same l.given before middle has l.invariant.cause) again.ensures.cause;
    }

-- no look is left
pub returns-clause-told : goal.returns-clause-told
returns-clause-told g c =
    let l = c.loop-left in
    let all : l.invariant.more ≡ 64 = omega (arith, l.invariant.sum, c.loop-left-test.false) in
    none_left c.args.folder.now 64 l.given
    (subst (λ (n : ℕ). LooksOn c.args.folder.now n l.given (g.S.Site.told c.args.site.now)
    (g.S.Site.told l.site)) all
    l.invariant.so)
