use Rattle.std.proofs.Common.{◌≤◌, ◌-◌, length}
use Rattle.chk_agent_run.specs.Closing.{IsPassed}
use Rattle.chk_agent_run.proofs.message.pass_lines.Given as goal

abbrev pub invariant-loop-size : goal.invariant-loop-size
invariant-loop-size l = record {
  within : l.at ≤ length l.text;
  passed : IsPassed l.at l.text;
}

abbrev pub decreases-loop-size : goal.decreases-loop-size
decreases-loop-size l = length l.text - l.at
