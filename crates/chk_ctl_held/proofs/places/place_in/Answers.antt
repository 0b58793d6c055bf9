use Rattle.std.proofs.Common.{◌≡◌, ◌∙◌, ℕ, ◌+◌, ◌-◌, ◌/◌, sym, arith, true, false}
use Rattle.chk_chunk.specs.Keys.{stream_lt}
use Rattle.chk_ctl_held.specs.Order.{stream_in}
use Rattle.chk_ctl_held.specs.Streams.{stream_of}
use Rattle.chk_ctl_held.proofs.HeadPlaces.{all_before, all_behind, middle_low}
use Rattle.chk_ctl_held.proofs.places.place_in.Goals as goal

pub loop-low-preserved-then-is_before : goal.loop-low-preserved-then-is_before
loop-low-preserved-then-is_before c =
    let l = c.loop-low in
    let heads = c.args.heads.now in
    let s = stream_of c.args.stream.now in
    let middle : ℕ = l.low + (l.high - l.low) / 2 in
    let m = middle_low l.low l.high c.loop-low-test.true in
    let most = l.invariant.most in
    let below : stream_lt (stream_in heads middle) s ≡ true =
    sym c.is_before.ensures ∙ c.if-is_before.true in
    record {
      most = most;
      fits = omega (arith, m);
      before = all_before heads s middle c.requires (omega (arith, m, most)) below;
      behind = l.invariant.behind;
    }

pub loop-low-preserved : goal.loop-low-preserved
loop-low-preserved c =
    let l = c.loop-low in
    let heads = c.args.heads.now in
    let s = stream_of c.args.stream.now in
    let middle : ℕ = l.low + (l.high - l.low) / 2 in
    let m = middle_low l.low l.high c.loop-low-test.true in
    let most = l.invariant.most in
    let there : stream_lt (stream_in heads middle) s ≡ false =
    sym c.is_before.ensures ∙ c.if-is_before.false in
    record {
      most = omega (arith, m, most);
      fits = omega arith;
      before = l.invariant.before;
      behind = all_behind heads s middle c.requires there;
    }
