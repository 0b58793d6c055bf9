use Rattle.chk_agent_adaptor.specs.Adaptors.{settled_one}
use Rattle.chk_agent_table.proofs.Writes.{below, writes, one_changed, settled_alike}
use Rattle.chk_agent_table.proofs.adaptors.Adaptors.settle.Goals as goal

pub index_mut-requires : goal.index_mut-requires
index_mut-requires c = below c.self.inside c.args.number c.args.self.now c.self.view_is
    c.requires.there

pub returns : goal.returns
returns c a at =
    one_changed c.self.inside c.args.number c.args.self.now c.self.view_is c.index_mut.result.now
    c.settle.new.self a
    (settled_one c.args.committed) c.index_mut.ensures.value c.settle.ensures at

pub invariant_of-self : goal.invariant_of-self
invariant_of-self c =
    writes c.self.inside c.args.number c.index_mut.result.now c.settle.new.self c.self.invariant
    c.index_mut.ensures.value
    (settled_alike c.args.committed c.index_mut.result.now c.settle.new.self c.settle.ensures)
