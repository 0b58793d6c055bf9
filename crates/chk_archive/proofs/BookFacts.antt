-- What holds of each book that can be read.
use Rattle.std.proofs.Common.{◌≡◌, inl, inr, ℕ, zero, suc, ◌<◌, ◌≤◌, true, false, ◌||◌, List, [], ◌∷◌, length, Option, Some, None, ap, sym, subst, ◌∙◌, refl, arith}
use Rattle.std.specs.Prelude.{Contains, nat_eq, nat_lt}
use Rattle.std.specs.List.{list_all, list_any}
use Rattle.std.proofs.lemmas.Bool.{and_parts, ltb-true}
use Rattle.chk_bytes.specs.Stems.{is_count}
use Rattle.chk_site.specs.Files.{File}
use Rattle.chk_world.specs.Books.{Segment, Book, Version, book_in, is_book, is_segment, is_end, is_aside, segments_rise, ends_rise, fits_version}
use Rattle.chk_world.specs.Committed.{OnFile}
use Rattle.chk_world.specs.Jobs.{segment_list, all_segments}
use Rattle.chk_world.specs.Laws.{IsWholeBook}
use Rattle.chk_world.proofs.SpelledLemmas.{book_so}
use Rattle.chk_world.proofs.Segments.{all_in, none_in, book_is}
use Rattle.chk_world.proofs.Each.{later_one}
use Rattle.chk_archive.specs.FolderNames.{names_segment}
use Rattle.chk_archive.specs.Numbers.{Numbered}
use Rattle.chk_archive_parts.proofs.InTurn.{from_both}

of_book : (v : Version) (b : Book) → is_book v b ≡ true → Numbered b
of_book v b is =
    let p = and_parts (is_count b.next) _ is in
    let q = and_parts (nat_lt (length b.segments) 4294967296) _ p.1 in
    let r = and_parts (list_all (is_segment b.next) b.segments) _ q.1 in
    let s = and_parts (segments_rise b.segments) _ r.1 in
    let t = and_parts (nat_lt (length b.ends) 4294967296) _ s.1 in
    let u = and_parts (list_all is_end b.ends) _ t.1 in
    let w = and_parts (ends_rise b.ends) _ u.1 in
    let x = and_parts (is_aside b.next b.segments b.aside) (fits_version v b) w.1 in
    record {
      count = p.0;
      below = λ g one. elim (from_both b.segments (segment_list b.aside) g one) [
        | inl k ↦ number b.next g (all_in (is_segment b.next) b.segments g r.0 k)
        | inr k ↦ aside b.next b.segments b.aside g x.0 k
      ];
      rise = w.0;
    }
  where
    number : (next : ℕ) (g : Segment) → is_segment next g ≡ true → g.number < next
    number next g is =
        let p = and_parts (is_count g.number) _ is in
        ltb-true g.number next (and_parts (nat_lt g.number next) _ p.1).0

    aside : (next : ℕ) (gs : List Segment) (o : Option Segment) (g : Segment) → is_aside next gs o ≡ true
        → Contains (segment_list o) g → g.number < next
    aside next gs None g is one = absurd (none_in g one)
    aside next gs (Some f) g is (zero, low, at) =
        subst (λ (x : Segment). x.number < next) at
        (number next f (and_parts (is_segment next f) _ is).0)
    aside next gs (Some f) g is (suc k, low, at) = absurd (let z : ⊥ = omega (arith, low) in z)

pub numbered : (o : Option File) → OnFile o IsWholeBook → Numbered (book_in o)
numbered None w = record { count = refl; below = λ g one. absurd (none_in g one); rise = refl }
numbered (Some f) w =
    let so = book_so f.bytes w.book w.is in
    subst Numbered (sym (book_is (Some f) f w.book refl w.is)) (of_book so.0 w.book so.1)

-- so it names none from the next one on
pub unnamed : (b : Book) → Numbered b → (k : ℕ) → b.next ≤ k → names_segment b k ≡ false
unnamed b n k low = go (all_segments b) (λ g one. one)
  where
    go : (gs : List Segment) → ((g : Segment) → Contains gs g → Contains (all_segments b) g)
        → list_any (λ (g : Segment). nat_eq g.number k) gs ≡ false
    go [] in_all = refl
    go (g ∷ gs) in_all =
        let small = n.below g (in_all g (0, omega arith, refl)) in
        let rest = go gs (λ f one. in_all f (later_one g gs f one)) in
        let first : nat_eq g.number k ≡ false = grind (arith, small, low) in
        ap (λ t. t || list_any (λ (g : Segment). nat_eq g.number k) gs) first ∙ rest
