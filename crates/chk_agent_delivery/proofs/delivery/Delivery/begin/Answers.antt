use Rattle.std.proofs.Common.{◌≡◌, false, sym, subst}
use Rattle.std.specs.List.{list_any}
use Rattle.std.specs.Prelude.{◌==◌}
use Rattle.chk_agent_delivery.specs.States.{State}
use Rattle.chk_agent_delivery.specs.Fields.{delivery_view}
use Rattle.chk_agent_delivery.proofs.Due.{begun_sound}
use Rattle.chk_agent_delivery.proofs.delivery.Delivery.begin.Goals as goal

pub invariant_of-self : goal.invariant_of-self
invariant_of-self c =
    rw c.begin.ensures.table
    (begun_sound (delivery_view c.self.inside) c.args.adaptor c.args.at
    (subst (λ (s : State). list_any (λ j. j == c.args.adaptor) s.owners ≡ false) (sym c.self.view_is) c.requires.none) c.self.invariant)
