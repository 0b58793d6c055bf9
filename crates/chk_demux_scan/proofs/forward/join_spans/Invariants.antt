use Rattle.std.proofs.Common.{◌≡◌, ◌<◌, ◌≤◌, ℕ, length, get_or}
use Rattle.chk_demux_scan.specs.Forward.{no_span, JoinsSpan}
use Rattle.chk_demux_scan.proofs.forward.join_spans.Given as goal

abbrev pub invariant-loop-index : goal.invariant-loop-index
invariant-loop-index l = record {
  same : length l.begins.items ≡ length l.ends;
  joined : (k : ℕ) → k < l.index
      → JoinsSpan (get_or l.spans k no_span) (get_or l.fn.begins.items k 0)
      (get_or l.begins.items k 0);
  rest : (k : ℕ) → l.index ≤ k → get_or l.begins.items k 0 ≡ get_or l.fn.begins.items k 0;
}
