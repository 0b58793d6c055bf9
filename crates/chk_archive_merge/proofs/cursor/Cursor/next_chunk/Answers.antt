use Rattle.std.proofs.Common.{◌∙◌, ℕ, List, sym, ap₂, arith}
use Rattle.chk_chunk.specs.Keys.{read_key}
use Rattle.chk_world.specs.Books.{chunk_with}
use Rattle.chk_chunk.specs.Lent.{lent_key}
use Rattle.chk_record_index.proofs.Records.{is_chunk}
use Rattle.chk_archive_merge.proofs.Going.{has_it}
use Rattle.chk_archive_merge.proofs.cursor.Cursor.next_chunk.Goals as goal

pub returns : goal.returns
returns c =
    let k = lent_key c.in-Ok.key in
    let v : List ℕ = c.as_slice-body.result.now in
    let on = c.goes_on.ensures c.if-not-goes_on.false in
    let some = on.some in
    let fits = on.fits in
    let begins = on.begins in
    let is = is_chunk c.args.most (record { at = 0; end = 0; key = c.as_slice.result.now; value = v }) k c.in-Ok.ensures.key
    (has_it c.args.most k v on.some on.few on.fits) in
    record {
      held = c.if-not-self.false;
      is = sym (ap₂ (λ key value. chunk_with c.args.most (read_key key) value) c.as_slice.ensures c.as_slice-body.ensures) ∙ is;
      of = sym c.is_key_of.ensures ∙ c.if-not-is_key_of.false;
      start = on.start;
      begins = on.begins;
      further = omega (arith, some, fits, begins);
      within = on.within;
    }
