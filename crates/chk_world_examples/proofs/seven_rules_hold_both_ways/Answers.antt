use Rattle.chk_world_examples.proofs.SevenRules.{seven}
use Rattle.chk_world_examples.proofs.seven_rules_hold_both_ways.Goals as goal

pub returns : goal.returns
returns c = seven
