use Rattle.std.proofs.Common.{◌≡◌, ◌∙◌, ℕ, suc, ◌-◌, ◌<◌, List, length, drop, map, ap, sym, arith, true}
use Rattle.std.specs.Prelude.{slice_index_or}
use Rattle.std.proofs.lemmas.List.{length-map}
use Rattle.chk_chunk.specs.Keys.{stream_lt}
use Rattle.chk_world.specs.Books.{End}
use Rattle.chk_book.specs.Books.{end_in}
use Rattle.chk_book.specs.Views.{end_view}
use Rattle.chk_archive_parts.proofs.EndsInOrder.{sorted}
use Rattle.chk_demux.proofs.RecordedEnds.{shown, all_passed}
use Rattle.chk_demux.proofs.recorded.begin_for.Goals as goal

pub returns-then-is_before-clause-passed : goal.returns-then-is_before-clause-passed
returns-then-is_before-clause-passed c rises =
    let xs = c.args.ends.now in
    let es : List End = map end_view xs in
    let s = (end_view c.args.end.now).stream in
    let i : ℕ = c.args.near - 1 in
    let x = c.index-ends-near.result in
    let some = c.if-near-gt0.true in
    let most = c.if-near-ends.true in
    let size = length-map xs end_view in
    let low : i < length es = omega (arith, some, most, size) in
    let before : stream_lt (slice_index_or es i (end_view x)).stream s ≡ true =
    ap (λ (e : End). stream_lt e.stream s) (shown xs i x c.index-ends-near.is)
    ∙ (sym c.is_before.ensures ∙ c.if-is_before.true) in
    ap (λ n. end_in 0 (drop n es) s) (let z : c.args.near ≡ suc i = omega (arith, some) in z)
    ∙ all_passed s es i (end_view x) (sorted es rises) low before
