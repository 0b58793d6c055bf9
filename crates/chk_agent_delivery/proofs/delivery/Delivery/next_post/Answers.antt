use Rattle.std.proofs.Common.{◌<◌, ◌∙◌, length, sym, subst, arith}
use Rattle.chk_chunk.specs.Lent.{chunks_of}
use Rattle.chk_chunk.specs.Posts.{written_post}
use Rattle.chk_agent_delivery.specs.Fields.{delivery_view}
use Rattle.chk_agent_delivery.specs.States.{State}
use Rattle.chk_agent_delivery.proofs.NextPost.{front_some, is_next}
use Rattle.chk_agent_delivery.proofs.delivery.Delivery.next_post.Goals as goal

pub returns : goal.returns
returns c =
    let s = delivery_view c.self.inside in
    let front = c.front-front.result.now in
    let some = subst (λ (t : State). 0 < length t.queue.chunks) (sym c.self.view_is) c.requires.some in
    let free = subst (λ (t : State). length t.table.rows < t.table.room) (sym c.self.view_is) c.requires.free in
    rw (← c.self.view_is)
    (is_next s front c.free.result c.min-most.result c.now.result.now c.as_str-address.result.now c.put_post.new.out
    c.self.invariant.valid c.free.ensures.free c.min-most.ensures c.front-front.ensures
    (front_some s.queue.chunks front c.min-most.result c.front-front.ensures some
    (omega (arith, free, c.free.ensures.free, c.min-most.ensures)) c.self.invariant.valid)
    c.now.ensures c.as_str-address.ensures.text (rw c.as_str-address.ensures.text c.as_str-address.ensures.word)
    (c.in_ok-put_post.ensures.ok ∙ c.in_ok-bytes.ensures.written (written_post (chunks_of front)) (sym c.post_size.ensures)))
