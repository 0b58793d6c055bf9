use Rattle.std.proofs.Common.{◌≡◌, ◌∙◌, ℕ, ◌-◌, ◌<◌, List, length, map, ap, sym, arith, true}
use Rattle.std.specs.Prelude.{slice_index_or}
use Rattle.std.proofs.lemmas.List.{length-map}
use Rattle.chk_chunk.specs.Keys.{stream_lt}
use Rattle.chk_world.specs.Books.{End}
use Rattle.chk_book.specs.Views.{end_view}
use Rattle.chk_ctl_streams.proofs.InOrder.{shown, rise_step, last_rises}
use Rattle.chk_ctl_streams.proofs.recorded.do_rise.Goals as goal

pub loop-at-preserved : goal.loop-at-preserved
loop-at-preserved c =
    let xs = c.args.ends.now in
    let es : List End = map end_view xs in
    let at : ℕ = c.loop-at.at in
    let x = c.index-ends-at.result in
    let y = c.index-ends-at-in-loop-at.result in
    let size = length-map xs end_view in
    let low : at < length es = omega (arith, size, c.loop-at-test.true) in
    let before : stream_lt (slice_index_or es (at - 1) (end_view x)).stream
    (slice_index_or es at (end_view y)).stream ≡ true =
    ap (λ (e : End). stream_lt e.stream (slice_index_or es at (end_view y)).stream)
    (shown xs (at - 1) x c.index-ends-at.is)
    ∙ ap (λ (e : End). stream_lt (end_view x).stream e.stream) (shown xs at y c.index-ends-at-in-loop-at.is)
    ∙ (sym c.is_before.ensures ∙ c.if-not-is_before.false) in
    rise_step es at (end_view x) (end_view y) c.loop-at.auto.at low before c.loop-at.invariant

pub returns : goal.returns
returns c =
    λ so.
    let xs = c.args.ends.now in
    let at : ℕ = c.loop-at.at in
    let size = length-map xs end_view in
    c.loop-at.invariant (last_rises (map end_view xs) (at - 1) (omega (arith, size)))
