use Rattle.std.proofs.Common.{◌≡◌, ◌∙◌, ap, arith, rules}
use Rattle.std.specs.List.{filter}
use Rattle.std.proofs.lemmas.Fn.{filter_same}
use Rattle.chk_queue.specs.Queues.{Waiting, data_size, is_of_other}
use Rattle.chk_queue.proofs.QueueLemmas.{data_size-filter}
use Rattle.chk_queue.proofs.Queue.drop_stream.Goals as goal

pub data_size-self-inside-requires : goal.data_size-self-inside-requires
data_size-self-inside-requires c =
    let keeps = is_of_other c.args.kind.now c.args.name.now in
    let left : c.retain.new.self.items ≡ filter keeps c.drop_first.new.chunks.items =
    filter_same _ keeps _ (λ x b f' k. search rules) _ _ c.retain.ensures.filtered in
    let less = data_size-filter keeps c.drop_first.new.chunks.items in
    omega (
      arith,
      less,
      ap data_size c.deref.ensures.value,
      ap data_size left,
      ap data_size c.drop_first.ensures,
      c.self.invariant.sum,
    )

pub invariant_of-self : goal.invariant_of-self
invariant_of-self c =
    let keeps = is_of_other c.args.kind.now c.args.name.now in
    let left : c.retain.new.self.items ≡ filter keeps c.drop_first.new.chunks.items =
    filter_same _ keeps _ (λ x b f' k. search rules) _ _ c.retain.ensures.filtered in
    let less = data_size-filter keeps c.drop_first.new.chunks.items in
    let used = c.data_size-self-inside.ensures ∙ ap data_size c.deref.ensures.value in
    record {
      within = omega arith;
      sum = used;
      room = omega (
        arith,
        less,
        used,
        ap data_size left,
        ap data_size c.drop_first.ensures,
        c.self.invariant.sum,
        c.self.invariant.room,
      );
    }

pub returns : goal.returns
returns c =
    let keeps = is_of_other c.args.kind.now c.args.name.now in
    let left : c.retain.new.self.items ≡ filter keeps c.drop_first.new.chunks.items =
    filter_same _ keeps _ (λ x b f' k. search rules) _ _ c.retain.ensures.filtered in
    ap (λ chunks. record { limit = c.self.inside.limit; chunks = chunks })
    (left ∙ ap (filter keeps) c.drop_first.ensures)
    ∙ ap (λ (w : Waiting). record { limit = w.limit; chunks = filter keeps w.chunks }) c.self.view_is
