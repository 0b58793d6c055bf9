use Rattle.std.proofs.Common.{sym, ap, ◌∙◌}
use Rattle.std.specs.Prelude.{slice_get}
use Rattle.chk_agent_table.specs.Adaptors.{Held}
use Rattle.chk_agent_adaptor.specs.Adaptors.{sent_back}
use Rattle.chk_agent_table.proofs.Writes.{below, writes, one_changed, back_alike}
use Rattle.chk_agent_table.proofs.adaptors.Adaptors.back.Goals as goal

pub index_mut-requires : goal.index_mut-requires
index_mut-requires c = below c.self.inside c.args.number c.args.self.now c.self.view_is
    c.requires.there

pub returns : goal.returns
returns c a at =
    one_changed c.self.inside c.args.number c.args.self.now c.self.view_is c.index_mut.result.now
    c.back.new.self a
    (sent_back c.args.committed) c.index_mut.ensures.value c.back.ensures at

pub invariant_of-self : goal.invariant_of-self
invariant_of-self c =
    writes c.self.inside c.args.number c.index_mut.result.now c.back.new.self c.self.invariant
    c.index_mut.ensures.value
    (back_alike c.args.committed c.index_mut.result.now c.back.new.self c.back.ensures)

pub back-requires-clause-from : goal.back-requires-clause-from
back-requires-clause-from c =
    c.requires.from c.index_mut.result.now
    (sym (ap (λ (h : Held). slice_get h.items c.args.number) c.self.view_is) ∙
    c.index_mut.ensures.value)

pub back-requires-clause-to : goal.back-requires-clause-to
back-requires-clause-to c =
    c.requires.to c.index_mut.result.now
    (sym (ap (λ (h : Held). slice_get h.items c.args.number) c.self.view_is) ∙
    c.index_mut.ensures.value)
