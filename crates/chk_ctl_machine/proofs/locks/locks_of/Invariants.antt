use Rattle.std.proofs.Common.{option_map, string_bytes, take}
use Rattle.chk_ctl_machine.specs.Locks.{FindsLock}
use Rattle.chk_ctl_machine.specs.Turns.{InTurn}
use Rattle.chk_ctl_machine.proofs.locks.locks_of.Given as goal

abbrev pub invariant-loop-name : goal.invariant-loop-name
invariant-loop-name g l =
    InTurn (FindsLock (option_map string_bytes l.held)) (take l.name-index l.names)
    l.locks.items (g.M.Machine.told l.fn.machine) (g.M.Machine.told l.machine)
