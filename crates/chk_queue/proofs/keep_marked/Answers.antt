use Rattle.std.proofs.Common.{◌∙◌, ap, arith, length}
use Rattle.std.proofs.lemmas.List.Edits.{length-swap}
use Rattle.chk_queue.proofs.QueueLemmas.{kept_next, left_next}
use Rattle.chk_queue.proofs.keep_marked.Goals as goal
use Rattle.chk_queue.proofs.keep_marked.Goals.{then-keep, else-keep}

pub loop-place-preserved : goal.loop-place-preserved
loop-place-preserved c =
    let l = c.loop-place in
    let i = l.invariant in
    let first = c.args.chunks.now.items in
    elim c.if-keep.branch [
      | then-keep w ↦
          let new = w.swap.new.self.items in
          let next = kept_next c.args.kept.now first l.chunks.items l.count l.place
          c.loop-place-test.true c.requires
          i.size i.few i.rest i.front new w.if-keep.true w.swap.ensures.by_index in
          rw (w.chunks-is, w.count-is) (record {
            few = omega (arith, i.few);
            size = ap length w.swap.ensures.items ∙ length-swap l.chunks.items l.count l.place
                ∙ i.size;
            front = next.0;
            rest = next.1;
          })
      | else-keep w ↦
          let next = left_next c.args.kept.now first l.chunks.items l.count l.place
          c.loop-place-test.true c.requires
          i.size i.few i.rest i.front w.if-keep.false in
          rw (w.chunks-is, w.count-is) (record {
            few = omega (arith, i.few);
            size = i.size;
            front = next.0;
            rest = next.1;
          })
    ]
