use Rattle.std.proofs.Common.{◌<◌, ◌+◌, ◌≡◌, length, sym, subst}
use Rattle.std.specs.Prelude.{slice_index}
use Rattle.chk_agent_delivery.specs.States.{State}
use Rattle.chk_agent_delivery.specs.Sound.{next_begins}
use Rattle.chk_agent_delivery.specs.Fields.{delivery_view}
use Rattle.chk_agent_delivery.proofs.Putting.{any_sound, put_ok, put_err}
use Rattle.chk_agent_delivery.proofs.delivery.Delivery.put.Goals as goal

pub invariant_of-self : goal.invariant_of-self
invariant_of-self c =
    let put = c.put_behind.ensures in
    any_sound (delivery_view c.self.inside) c.args.adaptor c.args.chunk c.put_behind.result c.put_behind.new.owners.items c.put_behind.new.queue
    c.self.invariant c.requires.valid
    (subst (λ (t : State). c.args.adaptor < length (next_begins t)) (sym c.self.view_is) c.requires.known)
    (subst (λ (t : State). c.args.chunk.seq ≡ slice_index (next_begins t) c.args.adaptor + length c.args.chunk.body) (sym c.self.view_is) c.requires.next)
    put.owned put.queued put.no_owner put.no_chunk

pub returns-clause-ok : goal.returns-clause-ok
returns-clause-ok c =
    put_ok (delivery_view c.self.inside) c.args.self.now c.args.adaptor c.args.chunk c.put_behind.result c.put_behind.new.owners.items
    c.put_behind.new.queue c.self.view_is c.put_behind.ensures.owned c.put_behind.ensures.queued

pub returns-clause-err : goal.returns-clause-err
returns-clause-err c =
    put_err (delivery_view c.self.inside) c.args.self.now c.put_behind.result c.put_behind.new.owners.items
    c.put_behind.new.queue c.self.view_is c.put_behind.ensures.no_owner c.put_behind.ensures.no_chunk
