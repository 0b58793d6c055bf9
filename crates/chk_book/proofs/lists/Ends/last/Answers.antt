use Rattle.std.proofs.Common.{◌≡◌, ℕ, zero, suc, ◌+◌, ◌-◌, ◌<◌, ◌≤◌, None, List, [], ◌∷◌, length, map, Some, Option, get_or, refl, ap, ◌∙◌, arith}
use Rattle.std.specs.Borrow.{Bor}
use Rattle.std.specs.Prelude.{IfSome, MatchOption}
use Rattle.chk_chunk.specs.Keys.{Stream}
use Rattle.chk_book.specs.declared.lists.End.{End}
use Rattle.chk_book.specs.Views.{end_view, lent_stream, last_stream}
use Rattle.chk_book.proofs.lists.Ends.last.Goals as goal

last_at : (xs : List End) (n : ℕ) (d : End) → n + 1 ≡ length xs → Path (Option Stream) (Some (end_view (get_or xs n d)).stream) (last_stream (map end_view xs))
last_at [] n d e = absurd (let z : ⊥ = omega arith in z)
last_at (x ∷ []) zero d e = refl
last_at (x ∷ []) (suc n) d e = absurd (let z : ⊥ = omega arith in z)
last_at (x ∷ y ∷ ys) zero d e = absurd (let z : ⊥ = omega arith in z)
last_at (x ∷ y ∷ ys) (suc n) d e = last_at (y ∷ ys) n d (omega arith)

last_so : (o : Option (Bor End)) (xs : List End) (P : Bor End → Type 0) → MatchOption o (length xs ≤ 0) (λ x. (0 < length xs) × P x)
    → IfSome o (λ x. x.now ≡ get_or xs (length xs - 1) x.now) → lent_stream o ≡ last_stream (map end_view xs)
last_so None [] P none item = refl
last_so None (x ∷ xs) P none item = absurd (let z : ⊥ = omega (arith, none) in z)
last_so (Some x) xs P some item =
    ap (λ (y : End). Some (end_view y).stream) item ∙ last_at xs (length xs - 1) x.now (omega (arith, some.0))

pub returns : goal.returns
returns c =
    last_so c.last.result c.as_slice.result.now _ c.last.ensures.item.3 c.last.ensures.item.1
    ∙ ap (λ xs. last_stream (map end_view xs)) c.as_slice.ensures
