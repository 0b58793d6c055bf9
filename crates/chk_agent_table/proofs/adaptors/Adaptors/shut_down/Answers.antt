use Rattle.chk_agent_adaptor.specs.Adaptors.{shut_down}
use Rattle.chk_agent_table.proofs.Writes.{below, writes, one_changed, ending_alike}
use Rattle.chk_agent_table.proofs.adaptors.Adaptors.shut_down.Goals as goal

pub index_mut-requires : goal.index_mut-requires
index_mut-requires c = below c.self.inside c.args.number c.args.self.now c.self.view_is
    c.requires.there

pub returns : goal.returns
returns c a at =
    one_changed c.self.inside c.args.number c.args.self.now c.self.view_is c.index_mut.result.now
    c.shut_down.new.self a
    shut_down c.index_mut.ensures.value c.shut_down.ensures at

pub invariant_of-self : goal.invariant_of-self
invariant_of-self c =
    writes c.self.inside c.args.number c.index_mut.result.now c.shut_down.new.self c.self.invariant
    c.index_mut.ensures.value
    (ending_alike c.index_mut.result.now c.shut_down.new.self c.shut_down.ensures)
