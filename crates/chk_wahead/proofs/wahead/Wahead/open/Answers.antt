use Rattle.std.proofs.Common.{◌∙◌, ◌≤◌, sym, subst}
use Rattle.chk_wahead.specs.declared.found.Plan.{Plan}
use Rattle.chk_wahead.specs.States.{last_number}
use Rattle.chk_wahead.specs.Starting.{number_in}
use Rattle.chk_wahead.proofs.Joining.{refused_by}
use Rattle.chk_wahead.proofs.Fields.{seen_as}
use Rattle.chk_wahead.proofs.Starts.{found_low, open_failed, open_done}
use Rattle.chk_wahead.proofs.wahead.Wahead.open.Goals as goal

pub look-requires-clause-next : goal.look-requires-clause-next
look-requires-clause-next g c = c.as_str.ensures.value ∙ c.self.invariant.next

pub look-requires-clause-mark : goal.look-requires-clause-mark
look-requires-clause-mark g c = c.as_str-2.ensures.value ∙ c.self.invariant.mark

pub look-requires-clause-buffer : goal.look-requires-clause-buffer
look-requires-clause-buffer g c = c.as_str-3.ensures.value ∙ c.self.invariant.buffer

pub settle-requires-clause-number : goal.settle-requires-clause-number
settle-requires-clause-number g c =
    subst (λ (p : Plan). number_in p ≤ last_number) (sym c.plan.ensures) (found_low c.self.inside.who c.in_ok-found.found c.in_ok-found.ensures.told)

pub returns-in_err-found-clause-told : goal.returns-in_err-found-clause-told
returns-in_err-found-clause-told g c =
    open_failed c.self.inside.who c.args.self.now.who c.args.self.now c.in_err-found.field-0.0
    (seen_as c.self.inside c.args.self.now c.self.view_is c.self.invariant).who c.in_err-found.ensures.told (refused_by c.from_residual.ensures.1)

pub returns-clause-told : goal.returns-clause-told
returns-clause-told g c =
    open_done c.self.inside.who c.args.self.now.who c.args.self.now c.settle.new.self c.in_ok-found.found c.plan.result
    (seen_as c.self.inside c.args.self.now c.self.view_is c.self.invariant).who c.requires.first c.in_ok-found.ensures.told c.plan.ensures
    c.settle.ensures.told
