use Rattle.std.proofs.Common.{◌≡◌, ◌∙◌, Bool, true, false, Option, Some, None, refl, sym, ap, if◌then◌else◌}
use Rattle.std.specs.Prelude.{is_some, option_map, not}
use Rattle.std.specs.List.{list_all}
use Rattle.std.proofs.lemmas.List.Folds.{list_all-map}
use Rattle.chk_world.specs.Books.{begins_at_0, is_nothing, has_starts, One, Two}
use Rattle.chk_book.specs.declared.lists.Segment.{Segment}
use Rattle.chk_book.specs.Views.{segment_view, end_view}
use Rattle.chk_record_reader.proofs.places.has_starts.Goals as goal

nothing : (o : Option Segment) → is_some o ≡ false → is_nothing (option_map segment_view o) ≡ true
nothing None e = refl
nothing (Some g) e = cc

starts_so : (zeros : Bool) → not zeros ≡ has_starts (if zeros then One else Two)
starts_so true = refl
starts_so false = refl

pub returns-else-is_some : goal.returns-else-is_some
returns-else-is_some c =
    let none = nothing c.args.book.now.aside (sym c.is_some.ensures ∙ c.if-is_some.false) in
    let zeros =
    list_all-map begins_at_0 end_view c.args.book.now.ends
    ∙ sym (c.begin_at_0.ensures ∙ ap (λ xs. list_all (λ y. begins_at_0
    (end_view y)) xs) c.as_slice.ensures) in
    rw (none, zeros) (starts_so c.begin_at_0.result)
