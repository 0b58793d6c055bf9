use Rattle.std.proofs.Common.{◌≡◌, ℕ, take}
use Rattle.chk_site.specs.Honest.{is_sure}
use Rattle.chk_site.specs.Messages.{replies, taken}
use Rattle.chk_site_mem_store.specs.Reads.{text_at}
use Rattle.chk_site_mem_store.specs.Told.{told_of}
use Rattle.chk_site_mem_calls.specs.Replies.{oldest_where, taker_at, taker_of}
use Rattle.chk_site_mem_calls.proofs.replies.got.Given as goal

abbrev pub invariant-loop-act : goal.invariant-loop-act
invariant-loop-act l = record {
  takers : (t : ℕ) → taker_at l.takings t ≡ taker_of l.message (taken (told_of (take l.act-index l.keeper.kept)) t);
  sure : text_at l.sure ≡ oldest_where is_sure (replies (told_of (take l.act-index l.keeper.kept)) l.message);
  done : text_at l.done ≡ oldest_where (λ r. r.done) (replies (told_of (take l.act-index l.keeper.kept)) l.message);
}
