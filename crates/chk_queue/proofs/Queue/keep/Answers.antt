use Rattle.std.proofs.Common.{ap, ◌∙◌, arith}
use Rattle.chk_queue.specs.Queues.{data_size, marked}
use Rattle.chk_queue.proofs.QueueLemmas.{kept_size}
use Rattle.chk_queue.proofs.Queue.keep.Goals as goal

pub data_size-self-inside-requires : goal.data_size-self-inside-requires
data_size-self-inside-requires c =
    let q = c.self.inside in
    let kept = c.keep_marked.ensures ∙ ap (marked c.args.kept.now) c.drop_first.ensures in
    let less = kept_size c.args.kept.now q.chunks.items _ q.first q.used c.self.invariant.sum
    kept in
    omega (arith, ap data_size c.deref.ensures.value)

pub invariant_of-self : goal.invariant_of-self
invariant_of-self c =
    let q = c.self.inside in
    let kept = c.keep_marked.ensures ∙ ap (marked c.args.kept.now) c.drop_first.ensures in
    let less = kept_size c.args.kept.now q.chunks.items _ q.first q.used c.self.invariant.sum
    kept in
    let used = c.data_size-self-inside.ensures ∙ ap data_size c.deref.ensures.value in
    record {
      within = omega arith;
      sum = used;
      room = omega (arith, c.self.invariant.room);
    }
