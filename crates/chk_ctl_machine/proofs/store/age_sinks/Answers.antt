use Rattle.std.proofs.Common.{arith, refl}
use Rattle.chk_ctl_machine.specs.Stores.{AgesSink}
use Rattle.chk_ctl_machine.specs.Turns.{none_left}
use Rattle.chk_ctl_machine.proofs.Steps.{rest_in_place, turn_in_place}
use Rattle.chk_ctl_machine.proofs.store.age_sinks.Goals as goal

pub loop-sink-init : goal.loop-sink-init
loop-sink-init g c = (none_left, refl)

pub loop-sink-preserved : goal.loop-sink-preserved
loop-sink-preserved g c =
    let l = c.loop-sink in (
      turn_in_place AgesSink c.args.sinks.now l.sinks l.sink-index c.sink-item.result _ _ _ _
          (omega (arith, c.loop-sink-test.true, l.auto.sinks))
          (omega (arith, c.loop-sink-test.true, l.auto.sinks)) l.invariant.0 l.invariant.1
          (record { age = c.quiet_of-sink.result; is = refl; asked = c.quiet_of-sink.ensures }),
      rest_in_place c.args.sinks.now l.sinks l.sink-index _ l.invariant.1,
    )
