use Rattle.std.proofs.Common.{◌≡◌, ◌≤◌, ◌∙◌, ap, sym, subst, refl, map, length, List, arith}
use Rattle.std.specs.Prelude.{Some, slice_get}
use Rattle.chk_checkpoint.specs.declared.CheckLine.{CheckLine}
use Rattle.chk_checkpoint.specs.Lines.{shown, lines_of}
use Rattle.chk_world.specs.Checkpoints.{Line}
use Rattle.chk_agent_delivery.specs.States.{State as Delivery}
use Rattle.chk_agent_adaptor.specs.Adaptors.{adaptor_of}
use Rattle.chk_agent_delivery.specs.declared.delivery.Rules.{Rules}
use Rattle.chk_agent_delivery.specs.Fields.{delivery_view}
use Rattle.chk_agent.specs.States.{State}
use Rattle.chk_agent.specs.Fits.{IsEnough}
use Rattle.chk_agent.specs.Starts.{IsFresh, begun_state}
use Rattle.chk_agent.proofs.Soundness.{size_map}
use Rattle.chk_agent.proofs.SteppingExits.{if_ok}
use Rattle.chk_agent.proofs.StartingSound.{IsMade, are_good, is_made, made_lines, made_sound}
use Rattle.chk_agent.proofs.starting.new_agent.Goals as goal

pub begun_delivery-requires : goal.begun_delivery-requires
begun_delivery-requires c =
    let few = (are_good (lines_of c.args.check) c.requires.lines).few in
    let same = size_map shown c.args.check.lines.items in
    let many : length c.args.check.lines.items ≤ 10000 = omega (arith, few, same) in
    record {
      few = subst (λ (ls : List CheckLine). length ls ≤ 10000) (sym c.deref.ensures.value)
          many;
    }

pub adaptors_of-requires-clause-lines : goal.adaptors_of-requires-clause-lines
adaptors_of-requires-clause-lines c = (are_good (lines_of c.args.check) c.requires.lines).each

pub agent_with-requires-clause-sound : goal.agent_with-requires-clause-sound
agent_with-requires-clause-sound c =
    let made : IsMade (lines_of c.args.check) c.in_ok-adaptors.adaptors.items
    c.in_ok-delivery.delivery =
    is_made c.args.ring _ c.args.check.lines.items c.deref.result.now
    c.in_ok-adaptors.adaptors.items
    c.in_ok-delivery.ensures.0 c.in_ok-delivery.delivery (delivery_view c.delivery.inside)
    c.requires.lines
    c.deref.ensures.value c.in_ok-delivery.ensures.1 c.in_ok-delivery.ensures.2
    c.in_ok-adaptors.ensures
    c.delivery.invariant c.delivery.view_is in
    let xs = c.in_ok-adaptors.adaptors.items in
    let d = c.in_ok-delivery.delivery in
    made_sound (begun_state c.args.who.now.name c.args.rules.cluster xs d) c.requires.name
    (subst IsEnough (sym (ap (λ (d : Delivery). d.rules) c.in_ok-delivery.ensures.2.rest
    ∙ c.in_ok-delivery.ensures.1.rules_are))
    (record { some_rows = c.requires.some_rows; a_piece = c.requires.a_piece }))
    (subst (λ ls. IsMade ls xs d) (sym (made_lines (lines_of c.args.check) xs d made)) made)

pub returns-clause-saved : goal.returns-clause-saved
returns-clause-saved c =
    let made : IsMade (lines_of c.args.check) c.in_ok-adaptors.adaptors.items
    c.in_ok-delivery.delivery =
    is_made c.args.ring _ c.args.check.lines.items c.deref.result.now
    c.in_ok-adaptors.adaptors.items
    c.in_ok-delivery.ensures.0 c.in_ok-delivery.delivery (delivery_view c.delivery.inside)
    c.requires.lines
    c.deref.ensures.value c.in_ok-delivery.ensures.1 c.in_ok-delivery.ensures.2
    c.in_ok-adaptors.ensures
    c.delivery.invariant c.delivery.view_is in
    let xs = c.in_ok-adaptors.adaptors.items in
    let d = c.in_ok-delivery.delivery in
    if_ok c.agent_with.result (λ t. t ≡ begun_state c.args.who.now.name c.args.rules.cluster xs d)
    (λ t. t.saved ≡ lines_of c.args.check)
    (λ t e. ap (λ (t : State). t.saved) e ∙ made_lines (lines_of c.args.check) xs d made)
    c.agent_with.ensures

pub returns-clause-fresh : goal.returns-clause-fresh
returns-clause-fresh c =
    let made : IsMade (lines_of c.args.check) c.in_ok-adaptors.adaptors.items
    c.in_ok-delivery.delivery =
    is_made c.args.ring _ c.args.check.lines.items c.deref.result.now
    c.in_ok-adaptors.adaptors.items
    c.in_ok-delivery.ensures.0 c.in_ok-delivery.delivery (delivery_view c.delivery.inside)
    c.requires.lines
    c.deref.ensures.value c.in_ok-delivery.ensures.1 c.in_ok-delivery.ensures.2
    c.in_ok-adaptors.ensures
    c.delivery.invariant c.delivery.view_is in
    let xs = c.in_ok-adaptors.adaptors.items in
    let d = c.in_ok-delivery.delivery in
    let saved = made_lines (lines_of c.args.check) xs d made in
    let empty = c.in_ok-delivery.ensures.1 in
    let begun = c.in_ok-delivery.ensures.2 in
    let t : State = begun_state c.args.who.now.name c.args.rules.cluster xs d in
    let fresh : IsFresh c.args.who.now c.args.ring c.args.rules t = record {
      source = refl;
      cluster = refl;
      adaptors = made.are ∙ ap (map adaptor_of) (sym saved);
      committed = λ i l at. (made.begun.begins i l
          (subst (λ (ls : List Line). slice_get ls i ≡ Some l) saved at)).committed;
      last = refl;
      ready = refl;
      queue_limit = ap (λ (d : Delivery). d.queue.limit) begun.rest ∙ empty.queue_limit;
      queue = made.begun.chunks;
      rows = begun.rows;
      room = begun.room ∙ empty.room;
      poll_every = ap (λ (d : Delivery). d.rules.poll) begun.rest ∙ ap (λ (r : Rules). r.poll)
          empty.rules_are;
      expire_after = ap (λ (d : Delivery). d.rules.expire) begun.rest ∙ ap (λ (r : Rules). r.expire)
          empty.rules_are;
      ring_is = ap (λ (d : Delivery). d.ring) begun.rest ∙ empty.ring_is;
      post = ap (λ (d : Delivery). d.post) begun.rest ∙ empty.post;
      poll = ap (λ (d : Delivery). d.poll) begun.rest ∙ empty.poll;
      polled = ap (λ (d : Delivery). d.polled) begun.rest ∙ empty.polled;
    } in
    if_ok c.agent_with.result (λ u. u ≡ t) (IsFresh c.args.who.now c.args.ring c.args.rules)
    (λ u e. subst (IsFresh c.args.who.now c.args.ring c.args.rules) (sym e) fresh)
    c.agent_with.ensures
