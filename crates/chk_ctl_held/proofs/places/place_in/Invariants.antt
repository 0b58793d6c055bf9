use Rattle.std.proofs.Common.{◌-◌, ◌<◌, ◌≤◌, length, ℕ}
use Rattle.std.specs.Prelude.{IsFalse, IsTrue}
use Rattle.chk_chunk.specs.Keys.{stream_lt}
use Rattle.chk_ctl_held.specs.Order.{stream_in}
use Rattle.chk_ctl_held.specs.Streams.{stream_of}
use Rattle.chk_ctl_held.proofs.places.place_in.Given as goal

abbrev pub invariant-loop-low : goal.invariant-loop-low
invariant-loop-low l = record {
  most : l.high ≤ length l.heads;
  fits : l.low ≤ l.high;
  before : (k : ℕ) → k < l.low → IsTrue (stream_lt (stream_in l.heads k) (stream_of l.stream));
  behind : (k : ℕ) → l.high ≤ k → k < length l.heads
      → IsFalse (stream_lt (stream_in l.heads k) (stream_of l.stream));
}

abbrev pub decreases-loop-low : goal.decreases-loop-low
decreases-loop-low l = l.high - l.low
