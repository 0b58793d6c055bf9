use Rattle.std.proofs.Common.{◌∙◌}
use Rattle.std.specs.String.{string_eq}
use Rattle.indexmap.proofs.CallerLemmas.{insert_entry-new}
use Rattle.chk_agent_table.proofs.streams.put.Goals as goal

pub returns-clause-entries : goal.returns-clause-entries
returns-clause-entries c =
    c.in-Ok.ensures.entries
    ∙ insert_entry-new string_eq c.args.streams.now c.args.key c.args.adaptor c.requires.new
