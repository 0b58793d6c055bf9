use Rattle.std.proofs.Common.{◌≡◌, ◌<◌, true, sym, subst, ◌∙◌, refl, length, map, option_map}
use Rattle.std.specs.List.{list_all}
use Rattle.chk_world.specs.Books.{is_segment, is_end, is_aside}
use Rattle.chk_book.specs.Views.{segment_view, end_view}
use Rattle.chk_archive_parts.specs.Publishing.{NumbersRise, StreamsRise}
use Rattle.chk_archive_parts.proofs.Spelling.{book_spelled}
use Rattle.chk_archive_parts.proofs.publishing.can_be_spelled.Goals as goal

pub returns : goal.returns
returns c is =
    let b = c.args.book.now in
    let gs = c.as_slice-segments.ensures in
    let es = c.as_slice-ends.ensures in
    book_spelled b (sym c.is_number.ensures ∙ c.if-not-is_number.false)
    (subst (λ l. length l < 4294967296) gs c.if-segments-ge-MANY.false)
    (subst (λ l. list_all (λ g. is_segment b.next (segment_view g)) l ≡ true) gs
    (sym c.are_segments.ensures ∙ c.if-not-are_segments.false))
    (subst NumbersRise gs (c.if-not-segments_rise.ensures refl))
    (subst (λ l. length l < 4294967296) es c.if-ends-ge-MANY.false)
    (subst (λ l. list_all (λ e. is_end (end_view e)) l ≡ true) es (sym c.are_ends.ensures ∙ c.if-not-are_ends.false))
    (subst StreamsRise es (c.if-not-ends_rise.ensures refl))
    (subst (λ l. is_aside b.next (map segment_view l) (option_map segment_view b.aside) ≡ true) gs
    (sym c.is_aside.ensures ∙ is))
