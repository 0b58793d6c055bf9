use Rattle.std.proofs.Common.{◌≡◌, ◌++◌, drop}
use Rattle.chk_agent.specs.Commands.{live_from}
use Rattle.chk_cmd_drain.proofs.telling.live_numbers.Given as goal

abbrev pub invariant-loop-number : goal.invariant-loop-number
invariant-loop-number l = l.numbers.items ++ live_from l.number
    (drop l.number l.agent.adaptors) ≡ live_from 0 l.agent.adaptors
