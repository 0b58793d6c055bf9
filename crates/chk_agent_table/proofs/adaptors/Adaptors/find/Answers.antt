use Rattle.std.proofs.Common.{◌∙◌, sym, arith}
use Rattle.chk_agent_table.specs.Adaptors.{is_of}
use Rattle.chk_agent_table.proofs.Places.{position_below}
use Rattle.chk_agent_table.proofs.adaptors.Adaptors.find.Goals as goal

pub overflow_cast-result : goal.overflow_cast-result
overflow_cast-result c =
    let below = position_below (is_of c.args.kind.now c.args.path.now) c.args.self.now.items c.in-Some.place
    (sym c.place_of.ensures.place ∙ c.in-Some.is) in
    let few = c.place_of.ensures.few in
    omega (arith, below, few)
