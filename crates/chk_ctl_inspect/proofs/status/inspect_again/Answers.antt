use Rattle.std.proofs.Common.{◌≡◌, ◌+◌, ◌-◌, ◌^◌, ℕ, arith, subst, sym}
use Rattle.chk_ctl_line.specs.Status.{status_of}
use Rattle.chk_ctl_inspect.specs.Statuses.{again, last, spent, Repeats}
use Rattle.chk_ctl_inspect.proofs.status.inspect_again.Goals as goal

pub loop-init : goal.loop-init
loop-init g c = λ status new rest. rest

pub returns-then-stops : goal.returns-then-stops
returns-then-stops g c =
    c.loop.invariant _ _
    (last c.inspect_once-status.ensures
    (sym (rw c.seconds-seconds.ensures at c.if-stops.ensures)))

pub loop-preserved : goal.loop-preserved
loop-preserved g c =
    let left : 2 ^ 64 - 1 - c.loop.counter ≡ (2 ^ 64 - 1 - (c.loop.counter + 1)) + 1 =
    omega (arith, c.loop-test.true) in
    λ status new rest.
    c.loop.invariant status new
    (again left c.inspect_once-status.ensures
    (sym (rw c.seconds-seconds.ensures at c.if-stops.ensures))
    (rw c.seconds-seconds.ensures at c.sleep.ensures) rest)

pub returns : goal.returns
returns g c =
    let none : 0 ≡ 2 ^ 64 - 1 - c.loop.counter = omega (arith, c.loop-test.false) in
    let told = g.M.Machine.told c.loop.machine in
    c.loop.invariant 3 told
    (subst (λ (n : ℕ). Repeats (status_of c.args.asked.now) n 3 told told) none spent)
