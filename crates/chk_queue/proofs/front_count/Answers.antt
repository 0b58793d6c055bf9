use Rattle.std.proofs.Common.{arith}
use Rattle.chk_queue.proofs.QueueLemmas.{front_before_next, parts_more}
use Rattle.chk_queue.proofs.front_count.Goals as goal

pub returns-then-size-left-clause-longest : goal.returns-then-size-left-clause-longest
returns-then-size-left-clause-longest c =
    let l = c.loop-count in
    front_before_next c.args.waiting.now l.count c.args.most c.args.bytes l.left c.chunk_size-size.result
    c.index-waiting-count.result (omega arith) (omega arith) l.invariant c.chunk_size-size.ensures
    c.index-waiting-count.is c.if-size-left.true

pub loop-count-preserved : goal.loop-count-preserved
loop-count-preserved c =
    let l = c.loop-count in
    let more = parts_more c.args.waiting.now l.count c.index-waiting-count.result (omega arith) c.index-waiting-count.is in
    omega (arith, c.chunk_size-size.ensures)
