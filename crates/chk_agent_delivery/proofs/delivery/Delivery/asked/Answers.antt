use Rattle.std.proofs.Common.{ap, sym, ◌∙◌, arith}
use Rattle.chk_agent_delivery.specs.States.{State}
use Rattle.chk_agent_delivery.specs.Turns.{asked_stems}
use Rattle.chk_agent_delivery.proofs.Asking.{asked_begin, asked_again, asked_first, asked_end, one_fits, at_waiting, none_waiting, all_looked}
use Rattle.chk_agent_delivery.proofs.delivery.Delivery.asked.Goals as goal
use Rattle.chk_agent_delivery.proofs.delivery.Delivery.asked.Goals.{then-not-is_one_of+else-as_slice-eq-MOST_STEMS+in_ok-push, else-not-is_one_of}

pub loop-skip-init : goal.loop-skip-init
loop-skip-init c = asked_begin c.self.inside.acks.rows c.in_ok-stems.stems.items c.in_ok-stems.ensures.items

pub returns-in_default-clause-stems : goal.returns-in_default-clause-stems
returns-in_default-clause-stems c =
    let rows = c.self.inside.acks.rows in
    asked_end c.self.inside.acks c.loop-skip.skip c.loop-skip.stems.items c.loop-skip.invariant
    (none_waiting rows c.loop-skip.skip (sym c.in_default.ensures))
    ∙ ap (λ (s : State). asked_stems s.table) c.self.view_is

pub returns-clause-stems : goal.returns-clause-stems
returns-clause-stems c =
    let rows = c.self.inside.acks.rows in
    asked_end c.self.inside.acks c.loop-skip.skip c.loop-skip.stems.items c.loop-skip.invariant
    (all_looked rows c.loop-skip.skip
    (let most = c.self.invariant.most in let last = c.loop-skip-test.false in let free = c.free.ensures.free in omega (arith, most, last, free)))
    ∙ ap (λ (s : State). asked_stems s.table) c.self.view_is

pub loop-skip-preserved : goal.loop-skip-preserved
loop-skip-preserved c =
    let l = c.loop-skip in
    let rows = c.self.inside.acks.rows in
    elim c.if-not-is_one_of.branch [
      | then-not-is_one_of+else-as_slice-eq-MOST_STEMS+in_ok-push w ↦
          rw (w.stems-is, w.in_ok-push.ensures.items)
          (asked_first rows l.skip l.stems.items _ l.invariant (at_waiting rows l.skip _ _ (sym c.in-Some.ensures))
          (sym (rw c.as_slice.ensures.value at w.if-not-is_one_of.ensures))
          (one_fits l.stems.items w.as_slice-then-not-is_one_of.result.now w.as_slice-then-not-is_one_of.ensures.value l.invariant.few
          w.if-as_slice-eq-MOST_STEMS.false))
      | else-not-is_one_of w ↦
          rw w.stems-is
          (asked_again rows l.skip l.stems.items _ l.invariant (at_waiting rows l.skip _ _ (sym c.in-Some.ensures))
          (sym (rw c.as_slice.ensures.value at w.if-not-is_one_of.ensures)))
    ]
