use Rattle.chk_agent_adaptor.proofs.Fields.{undone}
use Rattle.std.proofs.Common.{◌∙◌}
use Rattle.chk_agent_adaptor.proofs.adaptor.Adaptor.undo.Goals as goal

pub returns : goal.returns
returns c a marks next step placed stood is =
    undone c.self.inside c.rewind.new.self c.args.before a marks next step placed stood
    (c.self.view_is ∙ is) c.rewind.ensures.back
