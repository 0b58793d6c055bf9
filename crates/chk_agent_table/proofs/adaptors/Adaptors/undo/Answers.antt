use Rattle.std.proofs.Common.{ap, ◌∙◌}
use Rattle.std.proofs.lemmas.Option.{slice_get_within}
use Rattle.chk_agent_table.specs.Adaptors.{with_at}
use Rattle.chk_agent_table.proofs.Writes.{below, same_at, seen_written, undone_alike, writes}
use Rattle.chk_agent_table.proofs.adaptors.Adaptors.undo.Goals as goal

pub index_mut-requires : goal.index_mut-requires
index_mut-requires c =
    let r = c.requires in
    below c.self.inside c.args.number c.args.self.now c.self.view_is
    (slice_get_within c.args.self.now.items c.args.number r.0 r.1)

pub invariant_of-self : goal.invariant_of-self
invariant_of-self c =
    let r = c.requires in
    let w = r.2 in
    let x = c.index_mut.result.now in
    let same = same_at c.self.inside c.args.number c.args.self.now c.self.view_is x r.0
    c.index_mut.ensures.value r.1 in
    let is = same ∙ w.now_is in
    writes c.self.inside c.args.number x c.undo.new.self c.self.invariant c.index_mut.ensures.value
    (undone_alike w.marks w.next w.step x w.old c.undo.new.self is
    (c.undo.ensures w.old w.marks w.next w.step w.placed w.before_is is))

pub returns : goal.returns
returns c now was marks next step at placed stood is =
    let x = c.index_mut.result.now in
    let same = same_at c.self.inside c.args.number c.args.self.now c.self.view_is x now
    c.index_mut.ensures.value at in
    seen_written c.self.inside c.args.number c.args.self.now c.self.view_is c.undo.new.self
    ∙ ap (λ b. with_at c.args.number b c.args.self.now)
    (c.undo.ensures was marks next step placed stood (same ∙ is))
