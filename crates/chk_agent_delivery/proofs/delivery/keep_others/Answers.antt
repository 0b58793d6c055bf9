use Rattle.std.proofs.Common.{rules}
use Rattle.std.proofs.lemmas.Fn.{filter_same}
use Rattle.chk_agent_delivery.specs.Marks.{is_left}
use Rattle.chk_agent_delivery.proofs.delivery.keep_others.Goals as goal

pub returns : goal.returns
returns c =
    filter_same _ (is_left c.args.marks.now) _ (λ x b f' k. search rules) _ _ c.retain.ensures.filtered
