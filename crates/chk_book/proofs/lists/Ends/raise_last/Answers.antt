use Rattle.std.proofs.Common.{◌≡◌, ℕ, ◌+◌, ◌-◌, List, length, map, get_or, true, sym, ◌∙◌, ap, subst, arith}
use Rattle.chk_chunk.specs.Lent.{lent_chunk}
use Rattle.chk_chunk.specs.Keys.{same_stream}
use Rattle.chk_world.specs.Books.{End}
use Rattle.chk_book.specs.declared.lists.End.{End as EndStruct}
use Rattle.chk_book.specs.Views.{end_view}
use Rattle.chk_book.specs.Segmenting.{end_of, raised_end, raised_by}
use Rattle.chk_book.specs.Recent.{IsLast}
use Rattle.chk_book.proofs.EndRaises.{ending_at}
use Rattle.chk_book.proofs.EndPlaces.{noted_last}
use Rattle.chk_book.proofs.lists.Ends.raise_last.Goals as goal

pub returns-clause-ends : goal.returns-clause-ends
returns-clause-ends c =
    let xs = c.self.inside.items.items in
    let d : End = end_of (lent_chunk c.args.chunk.now) in
    let at : ℕ = c.len-last.result - 1 in
    let is : IsLast d.stream xs = subst (IsLast d.stream) (sym c.self.view_is) c.requires in
    let some = is.0 in
    let size : c.len-last.result ≡ length xs = c.len-last.ensures ∙ c.self.inside.items.ok.0 in
    let last : at + 1 ≡ length xs = omega (arith, size, some) in
    let x : EndStruct = c.index_mut.result.now in
    let there : x ≡ get_or xs at x = c.index_mut.ensures.value in
    let same : same_stream (end_view (get_or xs at x)).stream d.stream ≡ true =
    ap (λ (n : ℕ). same_stream (end_view (get_or xs (n - 1) x)).stream d.stream) size ∙ is.1 x in
    λ es.
    noted_last xs at x _ d last same (ap (λ (z : EndStruct). ending_at (end_view z) d.end) there) es
    ∙ ap (λ (t : List EndStruct). raised_end d (raised_by (map end_view t) es)) c.self.view_is
