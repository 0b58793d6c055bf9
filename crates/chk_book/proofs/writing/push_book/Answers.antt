use Rattle.std.proofs.Common.{◌≡◌, ◌∙◌, ◌++◌, ◌∷◌, [], ℕ, List, length, map, sym, ap, subst, append_assoc}
use Rattle.std.proofs.lemmas.List.{length-map}
use Rattle.std.specs.Prelude.{OnOk, codes, nat_le, option_map}
use Rattle.chk_bytes.specs.Numbers.{be32, be64}
use Rattle.chk_bytes.specs.Words.{joined}
use Rattle.chk_world.specs.Books.{Version, One, Two, Three, version_byte, has_starts, written_version, segment_bytes, end_bytes, aside_bytes}
use Rattle.chk_book.specs.declared.lists.Segment.{Segment as SegmentStruct}
use Rattle.chk_book.specs.declared.lists.End.{End as EndStruct}
use Rattle.chk_book.specs.Books.{book_view}
use Rattle.chk_book.specs.Views.{segment_view, end_view}
use Rattle.chk_book.proofs.writing.push_book.Goals as goal

starts_of : (v : Version) (n : ℕ) → n ≡ version_byte v → nat_le 2 n ≡ has_starts v
starts_of One n e = ap (nat_le 2) e
starts_of Two n e = ap (nat_le 2) e
starts_of Three n e = ap (nat_le 2) e

-- the parts of a book, one behind the other
whole : (o0 o1 o2 o3 o4 o5 letters version next count segments counted ends aside : List ℕ)
    → o1 ≡ o0 ++ letters → o2 ≡ o1 ++ version → o3 ≡ o2 ++ next → o4 ≡ o3 ++ (count ++ segments)
    → o5 ≡ o4 ++ (counted ++ ends)
    → o5 ++ aside
    ≡ o0 ++ (letters ++ (version ++ (next ++ (count ++ (segments ++ (counted ++ (ends ++ aside)))))))
whole o0 o1 o2 o3 o4 o5 letters version next count segments counted ends aside a b c d e =
    rw (e, d, c, b, a) (simp append_assoc)

pub returns : goal.returns
returns c =
    let book = c.args.book.now in
    let v = written_version (book_view book) in
    let o3 = c.put_u64.new.out in
    let o4 = c.push_segments.new.out in
    let is = c.version_of-version.ensures in
    let segments =
    c.in_ok-push_segments.ensures
    ∙ (ap (λ (gs : List SegmentStruct). o3 ++ (be32 (length gs)
    ++ joined (map segment_bytes (map segment_view gs)))) c.as_slice.ensures
    ∙ ap (λ (n : ℕ). o3 ++ (be32 n ++ joined (map segment_bytes (map segment_view book.segments))))
    (sym (length-map book.segments segment_view))) in
    let ends =
    c.in_ok-push_ends.ensures
    ∙ (ap (λ (es : List EndStruct). o4 ++ (be32 (length es)
    ++ joined (map (end_bytes (nat_le 2 c.version_of-version.result)) (map end_view es))))
    c.as_slice-2.ensures
    ∙ (ap (λ b. o4 ++ (be32 (length book.ends) ++ joined (map (end_bytes b) (map end_view book.ends))))
    (starts_of v c.version_of-version.result is)
    ∙ ap (λ (n : ℕ). o4 ++ (be32 n ++ joined (map (end_bytes (has_starts v)) (map end_view book.ends))))
    (sym (length-map book.ends end_view)))) in
    subst (λ (t : List ℕ). OnOk c.push_aside.result (c.push_aside.new.out ≡ t))
    (whole c.args.out.now c.push_all.new.self c.push_all-2.new.self o3 o4 c.push_ends.new.out
    (codes "CHKB") (version_byte v ∷ []) (be64 book.next)
    (be32 (length (map segment_view book.segments)))
    (joined (map segment_bytes (map segment_view book.segments)))
    (be32 (length (map end_view book.ends)))
    (joined (map (end_bytes (has_starts v)) (map end_view book.ends)))
    (aside_bytes (option_map segment_view book.aside))
    c.in_ok-push_all.ensures.ok
    (c.in_ok-push_all-2.ensures.ok ∙ ap (λ (n : ℕ). c.push_all.new.self ++ (n ∷ [])) is)
    c.in_ok-put_u64.ensures.ok segments ends)
    c.push_aside.ensures
