use Rattle.std.proofs.Common.{length, ap, sym, subst, ◌∙◌}
use Rattle.std.proofs.lemmas.Bool.{eqb-true}
use Rattle.std.proofs.lemmas.List.{nil_from_length}
use Rattle.std.proofs.lemmas.Result.{err_from_is_err_and}
use Rattle.chk_chunk.specs.Lent.{AreValid}
use Rattle.chk_agent_delivery.specs.States.{State}
use Rattle.chk_agent_delivery.specs.Turns.{asked_stems}
use Rattle.chk_agent_delivery.specs.Scripts.{none, unsent}
use Rattle.chk_agent_delivery.proofs.PollTold.{poll_leads}
use Rattle.chk_agent_delivery.proofs.delivery.Delivery.poll.Goals as goal

pub returns-in_err-stems-clause-state : goal.returns-in_err-stems-clause-state
returns-in_err-stems-clause-state g c =
    let p = err_from_is_err_and c.from_residual.result c.from_residual.ensures.1 in
    rw p.1 (unsent p.0)

pub returns-then-is_empty-clause-state : goal.returns-then-is_empty-clause-state
returns-then-is_empty-clause-state g c =
    let are = c.in_ok-stems.ensures.stems ∙ ap (λ (t : State). asked_stems t.table) (sym c.self.view_is) in
    rw (← c.self.view_is) (none (sym are ∙ nil_from_length c.in_ok-stems.stems.items
    (ap length (sym c.as_slice.ensures.value) ∙ eqb-true (length c.as_slice.result.now) 0 (sym c.if-is_empty.ensures))))

pub returns-then-is_empty-clause-told : goal.returns-then-is_empty-clause-told
returns-then-is_empty-clause-told g c stamped b is known fits =
    poll_leads stamped b c.args.who.now c.args.self.now (subst (λ (t : State). AreValid t.queue.chunks) c.self.view_is c.self.invariant.valid)
    is known fits (returns-then-is_empty-clause-state g c)

pub returns-clause-told : goal.returns-clause-told
returns-clause-told g c stamped b is known fits =
    poll_leads stamped b c.args.who.now c.args.self.now (subst (λ (t : State). AreValid t.queue.chunks) c.self.view_is c.self.invariant.valid)
    is known fits c.send_poll.ensures.state
