use Rattle.std.proofs.Common.{sym, ◌∙◌, refl}
use Rattle.chk_agent_delivery.specs.Fields.{delivery_view}
use Rattle.chk_agent_delivery.proofs.Fronts.{front_out, taken_sound}
use Rattle.chk_agent_delivery.proofs.delivery.Delivery.take_lines.Goals as goal

pub add_rows-requires-clause-as_many : goal.add_rows-requires-clause-as_many
add_rows-requires-clause-as_many c =
    let f = front_out (delivery_view c.self.inside) c.args.self.now c.args.count c.front-front.result.now c.self.view_is c.self.invariant
    c.requires.out c.front-front.ensures in
    c.requires.as_many ∙ sym f.may.size

pub add_rows-requires-clause-owned : goal.add_rows-requires-clause-owned
add_rows-requires-clause-owned c =
    (front_out (delivery_view c.self.inside) c.args.self.now c.args.count c.front-front.result.now c.self.view_is c.self.invariant
    c.requires.out c.front-front.ensures).may.owned

pub add_rows-requires-clause-turn : goal.add_rows-requires-clause-turn
add_rows-requires-clause-turn c =
    (front_out (delivery_view c.self.inside) c.args.self.now c.args.count c.front-front.result.now c.self.view_is c.self.invariant
    c.requires.out c.front-front.ensures).may.turn

pub add_rows-requires-clause-room : goal.add_rows-requires-clause-room
add_rows-requires-clause-room c =
    (front_out (delivery_view c.self.inside) c.args.self.now c.args.count c.front-front.result.now c.self.view_is c.self.invariant
    c.requires.out c.front-front.ensures).may.room

pub drop_front-requires : goal.drop_front-requires
drop_front-requires c =
    (front_out (delivery_view c.self.inside) c.args.self.now c.args.count c.front-front.result.now c.self.view_is c.self.invariant
    c.requires.out c.front-front.ensures).may.there

pub returns : goal.returns
returns c =
    let f = front_out (delivery_view c.self.inside) c.args.self.now c.args.count c.front-front.result.now c.self.view_is c.self.invariant
    c.requires.out c.front-front.ensures in
    rw (← c.self.view_is, c.add_rows.ensures, c.drop_front.ensures, c.drop_owners.ensures, c.good.ensures, f.is) refl

pub invariant_of-self : goal.invariant_of-self
invariant_of-self c =
    let s = delivery_view c.self.inside in
    let f = front_out s c.args.self.now c.args.count c.front-front.result.now c.self.view_is c.self.invariant c.requires.out c.front-front.ensures in
    rw (c.add_rows.ensures, c.drop_front.ensures, c.drop_owners.ensures, c.good.ensures, f.is)
    (taken_sound s c.args.now c.args.count c.args.lines c.self.invariant f.may.there c.requires.as_many)
