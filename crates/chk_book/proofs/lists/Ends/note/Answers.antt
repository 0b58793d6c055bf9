use Rattle.std.proofs.Common.{List, map, ◌∙◌, ap}
use Rattle.chk_chunk.specs.Lent.{lent_chunk}
use Rattle.chk_world.specs.Books.{End}
use Rattle.chk_book.specs.declared.lists.End.{End as EndStruct}
use Rattle.chk_book.specs.Views.{end_view}
use Rattle.chk_book.specs.Segmenting.{end_of, raised_end, raised_by}
use Rattle.chk_book.proofs.EndPlaces.{noted_behind}
use Rattle.chk_book.proofs.lists.Ends.note.Goals as goal

pub returns-clause-ends : goal.returns-clause-ends
returns-clause-ends c =
    let xs = c.self.inside.items.items in
    let d : End = end_of (lent_chunk c.args.chunk.now) in
    λ es.
    ap (λ (t : List EndStruct). raised_by (map end_view t) es) c.in_ok-push.ensures.items
    ∙ (noted_behind xs c.in_ok-of.field-0 es
    ∙ (ap (λ (e : End). raised_end e (raised_by (map end_view xs) es)) c.in_ok-of.ensures
    ∙ ap (λ (t : List EndStruct). raised_end d (raised_by (map end_view t) es)) c.self.view_is))
