use Rattle.std.proofs.Common.{◌≡◌, ◌+◌, ℕ, subst, arith}
use Rattle.chk_site.specs.History.{Every}
use Rattle.chk_site.proofs.Runs.{adds_then, every_join}
use Rattle.chk_world.specs.JobSteps.{IsOf}
use Rattle.chk_ctl_cat.specs.declared.stream.Came.{Came}
use Rattle.chk_ctl_cat.specs.Looking.{LooksOrSays}
use Rattle.chk_ctl_cat.proofs.StreamLemmas.{done_last, done_cause}
use Rattle.chk_ctl_streams.specs.Going.{Goes, HasGone, IsSameLoss, first, next, came}
use Rattle.chk_ctl_streams.proofs.Gone.{gone_same, none_left, lost_twice}
use Rattle.chk_ctl_streams.proofs.going.print_on.Goals as goal

pub loop-left-init : goal.loop-left-init
loop-left-init g c = record {
  more = 0;
  sum = omega arith;
  so = first c.print_stream-given.ensures.told;
  own = c.print_stream-given.ensures.own;
  last = c.print_stream-given.ensures.last;
  cause = c.print_stream-given.ensures.cause;
}

-- no segment went
pub returns-then-not-is_gone-clause-told : goal.returns-then-not-is_gone-clause-told
returns-then-not-is_gone-clause-told g c =
    let l = c.loop-left in
    came l.invariant.more (omega (arith, l.invariant.sum)) l.invariant.so
    (subst (λ b. HasGone b l.given) c.if-not-is_gone.true c.is_gone.ensures)

-- the same one isn't there
pub returns-then-is_same_loss-clause-told : goal.returns-then-is_same_loss-clause-told
returns-then-is_same_loss-clause-told g c =
    let l = c.loop-left in
    let again = c.print_stream-again in
    lost_twice c.args.folder.now c.args.most c.args.books c.args.course.now l.invariant.more
    l.course again.new.course
    l.given again.result (omega (arith, l.invariant.sum, c.loop-left-test.true))
    (subst (λ b. IsSameLoss b l.given again.result) c.if-is_same_loss.true
    c.is_same_loss.ensures) l.invariant.so
    (subst (λ b. HasGone b l.given) c.if-not-is_gone.false c.is_gone.ensures)
    (rw c.go_on.ensures at again.ensures.told)

pub returns-then-is_same_loss-clause-own : goal.returns-then-is_same_loss-clause-own
returns-then-is_same_loss-clause-own g c =
    adds_then (Every (IsOf LooksOrSays)) c.loop-left.invariant.own c.print_stream-again.ensures.own
    (λ a b history p q. every_join (IsOf LooksOrSays) b a history p q)

pub returns-then-is_same_loss-clause-last : goal.returns-then-is_same_loss-clause-last
returns-then-is_same_loss-clause-last g c =
    done_last Came c.print_stream-again.result c.loop-left.invariant.own
    c.print_stream-again.ensures.last

pub returns-then-is_same_loss-clause-cause : goal.returns-then-is_same_loss-clause-cause
returns-then-is_same_loss-clause-cause g c =
    let l = c.loop-left in
    let before = g.S.Site.fault_count c.args.site.now in
    let middle = g.S.Site.fault_count l.site in
    done_cause Came c.print_stream-again.result before middle
    (g.S.Site.fault_count c.print_stream-again.new.site)
    (gone_same l.given before middle (subst (λ b. HasGone b l.given) c.if-not-is_gone.false
    c.is_gone.ensures)
    l.invariant.cause) c.print_stream-again.ensures.cause

-- another one isn't
pub loop-left-preserved : goal.loop-left-preserved
loop-left-preserved g c =
    let l = c.loop-left in
    let again = c.print_stream-again in
    let has = subst (λ b. HasGone b l.given) c.if-not-is_gone.false c.is_gone.ensures in
    let before = g.S.Site.fault_count c.args.site.now in
    let middle = g.S.Site.fault_count l.site in
    record {
      more = l.invariant.more + 1;
      sum = omega (arith, l.invariant.sum, c.loop-left-test.true);
      so = next l.invariant.so has (rw c.go_on.ensures at again.ensures.told)
          (subst (λ b. IsSameLoss b l.given again.result) c.if-is_same_loss.false
          c.is_same_loss.ensures);
      own = adds_then (Every (IsOf LooksOrSays)) l.invariant.own again.ensures.own
          (λ a b history p q. every_join (IsOf LooksOrSays) b a history p q);
      last = done_last Came again.result l.invariant.own again.ensures.last;
      cause = done_cause Came again.result before middle (g.S.Site.fault_count again.new.site)
          (gone_same l.given before middle has l.invariant.cause) again.ensures.cause;
    }

-- no book is left
pub returns-clause-told : goal.returns-clause-told
returns-clause-told g c =
    let l = c.loop-left in
    let all : l.invariant.more ≡ c.args.books = omega
    (arith, l.invariant.sum, c.loop-left-test.false) in
    none_left c.args.folder.now c.args.most c.args.books c.args.course.now l.course l.given
    (subst (λ (n : ℕ). Goes c.args.folder.now c.args.most n c.args.course.now l.course l.given
    (g.S.Site.told c.args.site.now)
    (g.S.Site.told l.site)) all l.invariant.so)
