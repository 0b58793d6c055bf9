use Rattle.std.specs.Prelude.{Some}
use Rattle.std.specs.String.{string_bytes}
use Rattle.std.proofs.lemmas.Map.Text.{hash_map_updates_text}
use Rattle.chk_agent_table.proofs.names.put.Goals as goal

pub returns-clause-found : goal.returns-clause-found
returns-clause-found c text =
    hash_map_updates_text (string_bytes c.args.name) c.args.names.now c.insert.new.self
    (Some c.args.number)
    c.in-Ok.ensures.updates text
