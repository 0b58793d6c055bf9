use Rattle.std.proofs.Common.{ℕ, ◌-◌, ◌^◌}
use Rattle.chk_ctl_line.specs.Status.{status_of}
use Rattle.chk_ctl_machine.specs.Deeds.{Told}
use Rattle.chk_ctl_inspect.specs.Statuses.{Repeats}
use Rattle.chk_ctl_inspect.proofs.status.inspect_again.Given as goal

abbrev pub invariant-loop : goal.invariant-loop
invariant-loop g l =
    (status : ℕ) → (new : Told)
    → Repeats (status_of l.asked) (2 ^ 64 - 1 - l.counter) status (g.M.Machine.told l.machine) new
    → Repeats (status_of l.asked) (2 ^ 64 - 1) status (g.M.Machine.told l.fn.machine) new
