use Rattle.std.proofs.Common.{sym, ap, ◌∙◌}
use Rattle.std.specs.Prelude.{slice_get}
use Rattle.chk_agent_table.specs.Adaptors.{Held}
use Rattle.chk_agent_adaptor.specs.Adaptors.{stopped}
use Rattle.chk_agent_table.proofs.Writes.{below, writes, one_changed, stopped_alike}
use Rattle.chk_agent_table.proofs.adaptors.Adaptors.stop.Goals as goal

pub index_mut-requires : goal.index_mut-requires
index_mut-requires c = below c.self.inside c.args.number c.args.self.now c.self.view_is
    c.requires.there

pub returns : goal.returns
returns c a at =
    one_changed c.self.inside c.args.number c.args.self.now c.self.view_is c.index_mut.result.now
    c.stop.new.self a
    (stopped c.args.committed) c.index_mut.ensures.value c.stop.ensures at

pub invariant_of-self : goal.invariant_of-self
invariant_of-self c =
    writes c.self.inside c.args.number c.index_mut.result.now c.stop.new.self c.self.invariant
    c.index_mut.ensures.value
    (stopped_alike c.args.committed c.index_mut.result.now c.stop.new.self c.stop.ensures)

pub stop-requires-clause-from : goal.stop-requires-clause-from
stop-requires-clause-from c =
    c.requires.from c.index_mut.result.now
    (sym (ap (λ (h : Held). slice_get h.items c.args.number) c.self.view_is) ∙
    c.index_mut.ensures.value)

pub stop-requires-clause-to : goal.stop-requires-clause-to
stop-requires-clause-to c =
    c.requires.to c.index_mut.result.now
    (sym (ap (λ (h : Held). slice_get h.items c.args.number) c.self.view_is) ∙
    c.index_mut.ensures.value)
