use Rattle.std.proofs.Common.{◌∙◌}
use Rattle.chk_agent_table.proofs.Finding.{find_is}
use Rattle.chk_agent_table.proofs.adaptors.Adaptors.place_of.Goals as goal

pub returns-in-Ok-clause-place : goal.returns-in-Ok-clause-place
returns-in-Ok-clause-place c =
    c.get_index_of.ensures.index
    ∙ find_is c.self.inside c.args.self.now c.self.view_is c.self.invariant c.args.kind.now
    c.args.path.now c.as_str.result.now
    c.as_str-sound.ensures.word (c.as_str.ensures.value ∙ c.in-Ok.ensures)
