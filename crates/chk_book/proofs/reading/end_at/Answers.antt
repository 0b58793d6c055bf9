use Rattle.std.proofs.Common.{◌≡◌, ℕ, arith, sym, subst}
use Rattle.chk_chunk.specs.Keys.{Stream}
use Rattle.chk_world.specs.Books.{End}
use Rattle.chk_book.specs.Views.{lent_stream, stream_of}
use Rattle.chk_book.specs.Found.{IsEndAt}
use Rattle.chk_book.proofs.FieldFacts.{end_fine}
use Rattle.chk_book.proofs.reading.end_at.Goals as goal

one_end : (s t : Stream) (a b m n : ℕ) → s ≡ t → a ≡ b → m ≡ n → Path End record { stream = s; start = a; end = m } record { stream = t; start = b; end = n }
one_end s t a b m n p q r = λ i. record { stream = p i; start = q i; end = r i }

pub returns-clause-end : goal.returns-clause-end
returns-clause-end c =
    let bytes = c.args.bytes.now in
    let o = c.in_ok-start.ensures.offsets in
    let t = rw c.in_ok-start.ensures.behind.0 at c.in_ok-texts.ensures.texts in
    subst (λ (e : End). IsEndAt c.args.starts (lent_stream c.args.last) c.args.at bytes e c.in_ok-texts.behind)
    (sym (one_end (stream_of c.in_ok-texts.texts) _ _ _ _ _ t.1 o.1 o.2))
    (end_fine c.args.starts (lent_stream c.args.last) c.args.at bytes c.in_ok-texts.behind (λ i. omega (arith, c.type_inv.bytes i)) o.0 t.0 t.2 t.3)
