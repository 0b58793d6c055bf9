use Rattle.std.proofs.Common.{◌≡◌, ◌∙◌, true, false, Option, Some, None, refl, sym, ap}
use Rattle.std.specs.Prelude.{is_some, option_map}
use Rattle.std.specs.List.{list_all}
use Rattle.std.proofs.lemmas.List.Folds.{list_all-map}
use Rattle.chk_world.specs.Books.{begins_at_0, is_nothing}
use Rattle.chk_book.specs.declared.lists.Segment.{Segment}
use Rattle.chk_book.specs.Views.{segment_view, end_view}
use Rattle.chk_book.proofs.writing.version_of.Goals as goal

nothing : (o : Option Segment) → is_some o ≡ false → is_nothing (option_map segment_view o) ≡ true
nothing None e = refl
nothing (Some g) e = cc

pub returns-then-begin_at_0 : goal.returns-then-begin_at_0
returns-then-begin_at_0 c =
    let none = nothing c.args.book.now.aside (sym c.is_some.ensures ∙ c.if-is_some.false) in
    let zeros = list_all-map begins_at_0 end_view c.args.book.now.ends ∙ (sym (c.begin_at_0.ensures ∙ ap (λ xs. list_all (λ y. begins_at_0 (end_view y)) xs) c.as_slice.ensures) ∙ c.if-begin_at_0.true) in
    rw (none, zeros) refl

pub returns-else-begin_at_0 : goal.returns-else-begin_at_0
returns-else-begin_at_0 c =
    let none = nothing c.args.book.now.aside (sym c.is_some.ensures ∙ c.if-is_some.false) in
    let zeros = list_all-map begins_at_0 end_view c.args.book.now.ends ∙ (sym (c.begin_at_0.ensures ∙ ap (λ xs. list_all (λ y. begins_at_0 (end_view y)) xs) c.as_slice.ensures) ∙ c.if-begin_at_0.false) in
    rw (none, zeros) refl
