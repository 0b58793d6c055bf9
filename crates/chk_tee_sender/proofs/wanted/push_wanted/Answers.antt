use Rattle.chk_chunk.specs.Lent.{lent_chunk}
use Rattle.chk_http_grammar.specs.Messages.{is_ack}
use Rattle.chk_tee_sender.specs.Offers.{is_placed}
use Rattle.chk_tee_sender.proofs.WantedLemmas.{push_next, all_first}
use Rattle.chk_tee_sender.proofs.wanted.push_wanted.Goals as goal

pub loop-chunk-preserved : goal.loop-chunk-preserved
loop-chunk-preserved c =
    let l = c.loop-chunk in
    let more = c.next-in-Some.new.self in
    let next = c.in-Some-next.ensures.item in
    record {
      so_far = push_next c.args.filter.now l.post.left c.next.new.self.left l.lines more (lent_chunk c.in-Some.chunk) _ l.out
          c.push_passing.new.out _ c.in-Some.ensures.first next l.invariant.so_far c.in_ok-push_passing.ensures;
      acks = (all_first is_ack l.lines more _ next l.invariant.acks).1;
      placed = (all_first is_placed l.lines more _ next l.invariant.placed).1;
    }
