use Rattle.std.proofs.Common.{true, false, ap, sym, ◌∙◌}
use Rattle.std.specs.Prelude.{is_some}
use Rattle.chk_agent_delivery.specs.States.{State}
use Rattle.chk_agent_delivery.specs.Turns.{is_due, is_long_ago}
use Rattle.chk_agent_delivery.specs.Fields.{delivery_view}
use Rattle.chk_agent_delivery.proofs.Due.{due_where}
use Rattle.chk_agent_delivery.proofs.delivery.Delivery.is_due.Goals as goal

pub returns-then-is_some : goal.returns-then-is_some
returns-then-is_some c =
    c.is_long_ago.ensures
    ∙ (ap (λ (s : State). is_long_ago c.args.now s) (sym c.self.view_is)
    ∙ (sym (due_where c.args.now (delivery_view c.self.inside) true (c.if-is_some.ensures ∙ ap is_some c.waiting.ensures))
    ∙ ap (λ (s : State). is_due c.args.now s) c.self.view_is))

pub returns-else-is_some : goal.returns-else-is_some
returns-else-is_some c =
    c.if-is_some.false
    ∙ (sym (due_where c.args.now (delivery_view c.self.inside) false (c.if-is_some.ensures ∙ ap is_some c.waiting.ensures))
    ∙ ap (λ (s : State). is_due c.args.now s) c.self.view_is)
