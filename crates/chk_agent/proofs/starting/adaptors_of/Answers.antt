use Rattle.std.specs.Vec.Iter.{into_iter_items}
use Rattle.chk_agent.proofs.StartingLists.{takes_line}
use Rattle.chk_agent.proofs.StartingTables.{next_is, taken_more}
use Rattle.chk_agent.proofs.starting.adaptors_of.Goals as goal

pub new-requires : goal.new-requires
new-requires c =
    (takes_line (into_iter_items c.loop-line.line-iterator) (into_iter_items c.next.new.self) c.in-Some.line c.in-Some.ensures.steps.0
    c.loop-line.invariant.2).first

pub push-requires-clause-few : goal.push-requires-clause-few
push-requires-clause-few c =
    let before = into_iter_items c.loop-line.line-iterator in
    let after = into_iter_items c.next.new.self in
    let next = next_is c.args.lines.items before after c.in-Some.line c.loop-line.adaptors.items
    c.in-Some.ensures.steps.0 c.loop-line.invariant.3 c.requires.good c.in_ok-new.field-0
    c.in_ok-new.ensures in
    next.few

pub push-requires-clause-stream : goal.push-requires-clause-stream
push-requires-clause-stream c =
    let before = into_iter_items c.loop-line.line-iterator in
    let after = into_iter_items c.next.new.self in
    let next = next_is c.args.lines.items before after c.in-Some.line c.loop-line.adaptors.items
    c.in-Some.ensures.steps.0 c.loop-line.invariant.3 c.requires.good c.in_ok-new.field-0
    c.in_ok-new.ensures in
    next.stream

pub push-requires-clause-name : goal.push-requires-clause-name
push-requires-clause-name c =
    let before = into_iter_items c.loop-line.line-iterator in
    let after = into_iter_items c.next.new.self in
    let next = next_is c.args.lines.items before after c.in-Some.line c.loop-line.adaptors.items
    c.in-Some.ensures.steps.0 c.loop-line.invariant.3 c.requires.good c.in_ok-new.field-0
    c.in_ok-new.ensures in
    next.name

pub loop-line-preserved : goal.loop-line-preserved
loop-line-preserved c =
    let h = c.loop-line.invariant in
    let before = into_iter_items c.loop-line.line-iterator in
    let after = into_iter_items c.next.new.self in
    let t = takes_line before after c.in-Some.line c.in-Some.ensures.steps.0 h.2 in (
      tt,
      tt,
      t.rest,
      taken_more c.args.lines.items before after c.in-Some.line c.loop-line.adaptors.items
          c.in-Some.ensures.steps.0 h.3 c.in_ok-new.field-0 c.in_ok-new.ensures
          c.push.new.self.items c.in_ok-push.ensures.ok,
    )
