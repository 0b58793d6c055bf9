use Rattle.std.proofs.Common.{Some, None, ap, sym, ◌∙◌}
use Rattle.std.specs.HashMap.{get_by_text}
use Rattle.std.proofs.lemmas.Map.Text.{hash_map_updates_text}
use Rattle.chk_agent_table.proofs.Forgetting.{gone}
use Rattle.chk_agent_table.proofs.names.forget.Goals as goal

pub returns-then-at-number-clause-found : goal.returns-then-at-number-clause-found
returns-then-at-number-clause-found c text =
    let names = c.args.names.now in
    let left = c.swap_remove.new.self in
    gone (get_by_text names) c.args.name.now c.args.number (get_by_text left)
    (sym c.in-Some.ensures.value ∙ ap Some c.if-at-number.true)
    (hash_map_updates_text c.args.name.now names left None c.swap_remove.ensures.updates) text
