use Rattle.std.proofs.Common.{◌≡◌, map, take}
use Rattle.chk_checkpoint.specs.Lines.{shown}
use Rattle.chk_agent.proofs.settling.are_same.Given as goal

abbrev pub invariant-loop-place : goal.invariant-loop-place
invariant-loop-place l = map shown (take l.place l.lines) ≡ map shown (take l.place l.others)
