use Rattle.std.proofs.Common.{◌<◌, length, arith}
use Rattle.chk_cmd_drain.proofs.LiveOnes.{found_next, one_at}
use Rattle.chk_cmd_drain.proofs.telling.live_numbers.Goals as goal

pub loop-number-preserved : goal.loop-number-preserved
loop-number-preserved c =
    let xs = c.args.agent.now.adaptors in let n = c.loop-number.number in
    let test = c.loop-number-test.true in let size = c.adaptors-number-end.ensures in
    let below : n < length xs = omega (arith, test, size) in
    let one = one_at xs n below in
    found_next xs n one.adaptor c.loop-number.numbers.items c.push_live.new.numbers.items _ one.at
    below (c.in_ok-push_live.ensures one.adaptor one.at) c.loop-number.invariant
