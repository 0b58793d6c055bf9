use Rattle.std.proofs.Common.{◌≡◌, ◌≤◌, length, take, drop}
use Rattle.chk_queue.specs.Queues.{marked}
use Rattle.chk_queue.proofs.keep_marked.Given as goal

abbrev pub invariant-loop-place : goal.invariant-loop-place
invariant-loop-place l = record {
  few : l.count ≤ l.place;
  size : length l.chunks.items ≡ length l.initial.chunks.items;
  front : take l.count l.chunks.items ≡ marked (take l.place l.kept) (take l.place l.initial.chunks.items);
  rest : drop l.place l.chunks.items ≡ drop l.place l.initial.chunks.items;
}
