-- A book of which each part can be spelled can be.
use Rattle.std.proofs.Common.{◌≡◌, ℕ, suc, ◌+◌, ◌<◌, Bool, true, false, ◌&&◌, ◌||◌, not, List, [], ◌∷◌, length, Option, Some, None, ap, sym, subst, ◌∙◌, refl, arith}
use Rattle.std.specs.Prelude.{IsTrue, map, option_map, slice_index_or, nat_lt, nat_eq}
use Rattle.std.specs.List.{list_all, list_any}
use Rattle.std.proofs.lemmas.Bool.{and_from}
use Rattle.std.proofs.lemmas.List.{length-map}
use Rattle.chk_chunk.specs.Keys.{stream_lt}
use Rattle.chk_world.specs.Books.{Segment, Book, is_book, is_segment, is_end, is_aside, segments_rise, ends_rise, begins_at_0, fits_version, written_version}
use Rattle.chk_book.specs.Views.{segment_view, end_view}
use Rattle.chk_book.specs.Books.{book_view}
use Rattle.chk_book.specs.declared.book.Book.{Book as Struct}
use Rattle.chk_bytes.specs.Stems.{is_count}
use Rattle.chk_book.specs.declared.lists.Segment.{Segment as SegmentStruct}
use Rattle.chk_book.specs.declared.lists.End.{End as EndStruct}
use Rattle.chk_archive_parts.specs.Publishing.{NumbersRise, StreamsRise}

numbers_rise : (gs : List SegmentStruct) → NumbersRise gs → segments_rise (map segment_view gs) ≡ true
numbers_rise [] rise = refl
numbers_rise (g ∷ []) rise = refl
numbers_rise (g ∷ h ∷ gs) rise =
    let low : g.number < h.number = rise 0 g (omega arith) in
    and_from (nat_lt g.number h.number) (segments_rise (map segment_view (h ∷ gs))) (grind (arith, low))
    (numbers_rise (h ∷ gs) (λ i d k.
    let e : suc i + 1 ≡ suc (i + 1) = omega arith in
    subst (λ m. (slice_index_or (h ∷ gs) i d).number < (slice_index_or (g ∷ h ∷ gs) m d).number) e
    (rise (suc i) d (omega (arith, k)))))

streams_rise : (es : List EndStruct) → StreamsRise es → ends_rise (map end_view es) ≡ true
streams_rise [] rise = refl
streams_rise (e ∷ []) rise = refl
streams_rise (e ∷ f ∷ es) rise =
    and_from (stream_lt (end_view e).stream (end_view f).stream) (ends_rise (map end_view (f ∷ es)))
    (rise 0 e (omega arith))
    (streams_rise (f ∷ es) (λ i d k.
    let n : suc i + 1 ≡ suc (i + 1) = omega arith in
    subst (λ m. IsTrue (stream_lt (end_view (slice_index_or (f ∷ es) i d)).stream
    (end_view (slice_index_or (e ∷ f ∷ es) m d)).stream)) n (rise (suc i) d (omega (arith, k)))))

all_mapped : {X Y : Type 0} (p : Y → Bool) (f : X → Y) (xs : List X)
    → list_all p (map f xs) ≡ list_all (λ x. p (f x)) xs
all_mapped p f [] = refl
all_mapped p f (x ∷ xs) = ap (λ b. p (f x) && b) (all_mapped p f xs)

all_views : {X Y : Type 0} (p : Y → Bool) (f : X → Y) (xs : List X) → list_all (λ x. p (f x)) xs ≡ true
    → list_all p (map f xs) ≡ true
all_views p f xs h = all_mapped p f xs ∙ h

-- the version that is written says all of it
fits_written : (b : Book) → fits_version (written_version b) b ≡ true
fits_written b = go b.aside refl (list_all begins_at_0 b.ends) refl
  where
    go : (o : Option Segment) → b.aside ≡ o → (t : Bool) → list_all begins_at_0 b.ends ≡ t
        → fits_version (written_version b) b ≡ true
    go (Some g) e t k = rw e refl
    go None e true k = rw (e, k) (and_from (list_all begins_at_0 b.ends) true k refl)
    go None e false k = rw (e, k) refl

any_mapped : {X Y : Type 0} (p : Y → Bool) (f : X → Y) (xs : List X)
    → list_any p (map f xs) ≡ list_any (λ x. p (f x)) xs
any_mapped p f [] = refl
any_mapped p f (x ∷ xs) = ap (λ b. p (f x) || b) (any_mapped p f xs)

pub aside_so : (next : ℕ) (gs : List SegmentStruct) (o : Option SegmentStruct) (g : SegmentStruct) → o ≡ Some g
    → is_segment next (segment_view g) ≡ true → (r : Bool)
    → r ≡ list_any (λ (h : SegmentStruct). nat_eq h.number g.number) gs
    → not r ≡ is_aside next (map segment_view gs) (option_map segment_view o)
aside_so next gs o g is good r found =
    ap not (found ∙ sym (any_mapped (λ (h : Segment). nat_eq h.number g.number) segment_view gs))
    ∙ (ap (λ b. b && not (list_any (λ (h : Segment). nat_eq h.number g.number) (map segment_view gs))) (sym good)
    ∙ ap (λ o. is_aside next (map segment_view gs) (option_map segment_view o)) (sym is))

pub book_spelled : (b : Struct) → is_count b.next ≡ true → length b.segments < 4294967296
    → list_all (λ g. is_segment b.next (segment_view g)) b.segments ≡ true → NumbersRise b.segments
    → length b.ends < 4294967296 → list_all (λ e. is_end (end_view e)) b.ends ≡ true → StreamsRise b.ends
    → is_aside b.next (map segment_view b.segments) (option_map segment_view b.aside) ≡ true
    → is_book (written_version (book_view b)) (book_view b) ≡ true
book_spelled b count few_segments segments rise few_ends ends streams aside =
    let gs = length-map b.segments segment_view in
    let es = length-map b.ends end_view in
    and_from (is_count b.next) _ count
    (and_from (nat_lt (length (map segment_view b.segments)) 4294967296) _ (grind (arith, gs, few_segments))
    (and_from (list_all (is_segment b.next) (map segment_view b.segments)) _ (all_views (is_segment b.next) segment_view b.segments segments)
    (and_from (segments_rise (map segment_view b.segments)) _ (numbers_rise b.segments rise)
    (and_from (nat_lt (length (map end_view b.ends)) 4294967296) _ (grind (arith, es, few_ends))
    (and_from (list_all is_end (map end_view b.ends)) _ (all_views is_end end_view b.ends ends)
    (and_from (ends_rise (map end_view b.ends)) _ (streams_rise b.ends streams)
    (and_from (is_aside b.next (map segment_view b.segments) (option_map segment_view b.aside)) _ aside
    (fits_written (book_view b)))))))))
