use Rattle.std.proofs.Common.{◌≡◌, ◌+◌, ◌-◌, length, take, drop, ap, ap₂, ◌∙◌, sym, arith}
use Rattle.std.proofs.lemmas.List.{length-drop}
use Rattle.chk_queue.specs.Queues.{Waiting, data_size}
use Rattle.chk_queue.proofs.QueueLemmas.{data_size-drop}
use Rattle.chk_queue.proofs.Queue.drop_front.Goals as goal

pub tidy-self-inside-requires : goal.tidy-self-inside-requires
tidy-self-inside-requires c =
    let q = c.self.inside in
    let waiting = ap (λ (w : Waiting). length w.chunks) c.self.view_is in
    omega (arith, c.give_up_data.ensures.size, length-drop q.first q.chunks.items, waiting, c.self.invariant.within)

pub invariant_of-self : goal.invariant_of-self
invariant_of-self c =
    let q = c.self.inside in
    let count : q.first + c.args.count - q.first ≡ c.args.count = omega arith in
    let front : c.data_size.result ≡ data_size (take c.args.count (drop q.first q.chunks.items)) =
    c.data_size.ensures ∙ ap₂ (λ n chunks. data_size (take n (drop q.first chunks))) count c.deref.ensures.value in
    let left = data_size-drop q.chunks.items q.first c.args.count q.used c.data_size.result c.self.invariant.sum front in
    record {
      within = c.tidy-self-inside.ensures.within;
      sum = left ∙ ap data_size (sym (c.tidy-self-inside.ensures.others ∙ c.give_up_data.ensures.later));
      room = omega (arith, c.self.invariant.room);
    }
