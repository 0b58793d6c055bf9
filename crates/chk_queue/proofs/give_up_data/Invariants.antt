use Rattle.std.proofs.Common.{◌≡◌, [], length, drop}
use Rattle.std.specs.List.{AllWithin}
use Rattle.chk_queue.proofs.give_up_data.Given as goal

abbrev pub invariant-loop-at : goal.invariant-loop-at
invariant-loop-at l = record {
  size : length l.chunks.items ≡ length l.initial.chunks.items;
  gone : AllWithin (λ chunk. chunk.body ≡ []) l.chunks.items l.from l.at;
  later : drop l.to l.chunks.items ≡ drop l.to l.initial.chunks.items;
}
