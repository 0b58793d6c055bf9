use Rattle.std.proofs.Common.{◌≡◌, ◌∙◌, ℕ, ◌<◌, List, length, map, ap, sym}
use Rattle.std.proofs.Common.{arith, true, false, if◌then◌else◌}
use Rattle.std.specs.Prelude.{slice_index_or}
use Rattle.std.proofs.lemmas.List.{length-map}
use Rattle.chk_chunk.specs.Keys.{same_stream, stream_lt}
use Rattle.chk_world.specs.Books.{End}
use Rattle.chk_book.specs.Views.{end_view}
use Rattle.chk_ctl_streams.proofs.InOrder.{shown, sorted, one_passed, stops_here}
use Rattle.chk_ctl_streams.proofs.recorded.recorded_end.Goals as goal

pub loop-at-preserved : goal.loop-at-preserved
loop-at-preserved c =
    let xs = c.args.ends.now in
    let es : List End = map end_view xs in
    let s = (end_view c.args.end.now).stream in
    let at : ℕ = c.loop-at.at in
    let x = c.index-ends-at.result in
    let high = c.loop-at-test.true in
    let size = length-map xs end_view in
    let low : at < length es = omega (arith, high, size) in
    let before : stream_lt (slice_index_or es at (end_view x)).stream s ≡ true =
    ap (λ (e : End). stream_lt e.stream s) (shown xs at x c.index-ends-at.is)
    ∙ (sym c.is_before.ensures ∙ c.if-not-is_before.false) in
    one_passed s es at (end_view x) low before ∙ c.loop-at.invariant

pub returns-then-not-is_before : goal.returns-then-not-is_before
returns-then-not-is_before c =
    let xs = c.args.ends.now in
    let es : List End = map end_view xs in
    let s = (end_view c.args.end.now).stream in
    let at : ℕ = c.loop-at.at in
    let x = c.index-ends-at.result in
    let high = c.loop-at-test.true in
    let size = length-map xs end_view in
    let low : at < length es = omega (arith, high, size) in
    let is = shown xs at x c.index-ends-at.is in
    let unlike : stream_lt (slice_index_or es at (end_view x)).stream s ≡ false =
    ap (λ (e : End). stream_lt e.stream s) is
    ∙ (sym c.is_before.ensures ∙ c.if-not-is_before.true) in
    c.end_if.ensures
    ∙ (ap (λ (e : End). if same_stream s e.stream then e.end else 0) (sym is)
    ∙ (sym (stops_here s es at (end_view x) (sorted es c.requires) low unlike)
    ∙ c.loop-at.invariant))
