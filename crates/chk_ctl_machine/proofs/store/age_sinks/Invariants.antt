use Rattle.std.proofs.Common.{◌≡◌, drop, take}
use Rattle.chk_ctl_machine.specs.Stores.{AgesSink}
use Rattle.chk_ctl_machine.specs.Turns.{InTurn}
use Rattle.chk_ctl_machine.proofs.store.age_sinks.Given as goal

abbrev pub invariant-loop-sink : goal.invariant-loop-sink
invariant-loop-sink g l =
    InTurn AgesSink (take l.sink-index l.initial.sinks) (take l.sink-index l.sinks)
    (g.M.Machine.told l.fn.machine) (g.M.Machine.told l.machine)
    × (drop l.sink-index l.sinks ≡ drop l.sink-index l.initial.sinks)
