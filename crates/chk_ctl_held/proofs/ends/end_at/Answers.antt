use Rattle.std.proofs.Common.{◌≡◌, ◌∙◌, ◌<◌, ℕ, Some, ap, sym, arith, length, true}
use Rattle.std.proofs.lemmas.List.{get_or_default}
use Rattle.chk_chunk.specs.Keys.{same_stream}
use Rattle.chk_book.specs.Views.{end_view}
use Rattle.chk_book.specs.declared.lists.End.{End}
use Rattle.chk_ctl_held.specs.Streams.{stream_of}
use Rattle.chk_ctl_held.proofs.EndPlaces.{absent_at, found_at, stream_at}
use Rattle.chk_ctl_held.proofs.ends.end_at.Goals.{else-at-ends-via-then-at-ends+else-is_of}
use Rattle.chk_ctl_held.proofs.ends.end_at.Goals.{else-at-ends-via-else-at-ends}
use Rattle.chk_ctl_held.proofs.ends.end_at.Goals as goal

pub returns-then-is_of : goal.returns-then-is_of
returns-then-is_of c =
    let s = stream_of c.args.stream.now in
    let ends = c.args.ends.now in
    let at : ℕ = c.args.at in
    let x = c.index-ends-at-then-is_of.result in
    let y = c.index-ends-at.result in
    let low : at < length ends = c.if-at-ends.true in
    let same : same_stream s (stream_at ends at y) ≡ true =
    ap (λ (e : End). same_stream s (end_view e).stream) (sym c.index-ends-at.is)
    ∙ (sym c.is_of.ensures ∙ c.if-is_of.true) in
    ap (λ (e : End). Some (end_view e))
    (c.index-ends-at-then-is_of.is ∙ get_or_default ends at x y low)
    ∙ sym (found_at s ends at y low (λ k d less. c.requires.place.0 k d (omega arith) less) same)

pub returns : goal.returns
returns c =
    let s = stream_of c.args.stream.now in
    let ends = c.args.ends.now in
    let at : ℕ = c.args.at in
    sym (absent_at s ends at c.requires.rises c.requires.place
    (elim c.else-at-ends.branch [
      | else-at-ends-via-then-at-ends+else-is_of w ↦ (λ d low.
          let y = w.index-ends-at.result in
          ap (λ (e : End). same_stream s (end_view e).stream)
          (get_or_default ends at d y low ∙ sym w.index-ends-at.is)
          ∙ (sym w.is_of.ensures ∙ w.if-is_of.false))
      | else-at-ends-via-else-at-ends w ↦ (λ d low.
          let past = w.if-at-ends.false in
          absurd (let z : ⊥ = omega (arith, past, low) in z))
    ]))
