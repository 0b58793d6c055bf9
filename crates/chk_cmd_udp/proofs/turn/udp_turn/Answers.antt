use Rattle.chk_cmd_udp.specs.Turns.{IsTurn}
use Rattle.chk_cmd_udp.proofs.Turning.{settles_on}
use Rattle.chk_cmd_udp.proofs.turn.udp_turn.Goals as goal

pub returns-in-Ok-true-clause-turn : goal.returns-in-Ok-true-clause-turn
returns-in-Ok-true-clause-turn g c =
    IsTurn.heard (rw c.in-Ok-true.field-0-test at c.in-Ok-true.ensures.script) c.settle.ensures.script

pub returns-in-Ok-true-clause-tidy : goal.returns-in-Ok-true-clause-tidy
returns-in-Ok-true-clause-tidy g c = settles_on c.settle.result c.settle.ensures.script

pub returns-in-Ok-false-clause-turn : goal.returns-in-Ok-false-clause-turn
returns-in-Ok-false-clause-turn g c =
    IsTurn.silent (rw c.in-Ok-false.field-0-test at c.in-Ok-false.ensures.script) c.close.ensures.told

pub returns-in-Err-clause-turn : goal.returns-in-Err-clause-turn
returns-in-Err-clause-turn g c = IsTurn.ungathered c.in-Err.fault c.in-Err.ensures.script
