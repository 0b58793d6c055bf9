use Rattle.std.proofs.Common.{ℕ, ◌<◌}
use Rattle.std.specs.Prelude.{IsTrue}
use Rattle.chk_chunk.specs.Keys.{stream_lt}
use Rattle.chk_book.specs.Views.{end_view}
use Rattle.chk_join_sources.specs.Blocks.{stream_in}
use Rattle.chk_join_sources.proofs.blocks.place_of.Given as goal

abbrev pub invariant-loop-i : goal.invariant-loop-i
invariant-loop-i l = (k : ℕ) → k < l.i → IsTrue (stream_lt (stream_in l.heads k) (end_view l.end).stream)
