use Rattle.std.proofs.Common.{◌≡◌, ℕ, ◌+◌, List, ◌++◌, length, refl, ap, subst, ◌∙◌, arith}
use Rattle.std.specs.Prelude.{OnOk}
use Rattle.chk_seqfile.specs.Entries.{piece_at}
use Rattle.chk_chunk.specs.Keys.{written_key}
use Rattle.chk_chunk.specs.Lent.{lent_chunk}
use Rattle.chk_book.specs.Folders.{most_in}
use Rattle.chk_chunk.proofs.KeyLaws.{written_key_is_key}
use Rattle.chk_chunk.proofs.KeySizes.{key_size}
use Rattle.chk_book.proofs.SegmentForms.{most_bound, value_bound}
use Rattle.chk_book.proofs.Segmented.{pushed, on_ok_two}
use Rattle.chk_book.proofs.segmenter.Segmenter.push.Goals as goal

pub entry_to-requires-clause-small : goal.entry_to-requires-clause-small
entry_to-requires-clause-small c =
    let chunk = lent_chunk c.args.chunk.now in
    let folder = c.args.self.now.folder in
    let key : c.as_slice.result.now ≡ written_key chunk.key = c.as_slice.ensures ∙ c.in_ok-note.ensures.key in
    let short = key_size chunk.key (written_key chunk.key) (written_key_is_key chunk.key c.requires.key) in
    let size = ap length key in
    let value = value_bound (most_in folder) chunk c.requires.value in
    let most = most_bound folder in
    omega (arith, short, size, value, most)

pub returns-clause-at : goal.returns-clause-at
returns-clause-at c =
    let chunk = lent_chunk c.args.chunk.now in
    let s = c.args.self.now in
    let r = c.entry_to.result in
    let key : c.as_slice.result.now ≡ written_key chunk.key = c.as_slice.ensures ∙ c.in_ok-note.ensures.key in
    let piece = subst (λ (k : List ℕ). OnOk r (c.entry_to.new.out ≡ s.buffer ++ piece_at s.writer.marker s.writer.place s.writer.last_sync k chunk.value))
    key c.entry_to.ensures.piece in
    let place = subst (λ (k : List ℕ). OnOk r (c.entry_to.new.self.place ≡ s.writer.place
    + length (piece_at s.writer.marker s.writer.place s.writer.last_sync k chunk.value))) key c.entry_to.ensures.place in
    on_ok_two r
    (λ buffer size w at.
    pushed s _ w chunk at c.if-self-gt-MOST_BYTES.false c.requires.key c.requires.value refl refl buffer size c.entry_to.ensures.marker
    c.in_ok-note.ensures.ends)
    piece place
