use Rattle.std.proofs.Common.{◌≡◌, drop, length}
use Rattle.std.specs.Str.Lines.{lines}
use Rattle.chk_ctl_machine.specs.Locks.{process_in}
use Rattle.chk_ctl_machine.proofs.locks.process_in.Given as goal

abbrev pub invariant-loop-line : goal.invariant-loop-line
invariant-loop-line l =
    process_in l.place (drop (length l.yielded) (lines l.held)) ≡ process_in l.place (lines l.held)
