-- No segment file but those that a book names was there at the listing.
use Rattle.std.proofs.Common.{◌≡◌, ◌⊎◌, inl, inr, ℕ, Bool, true, false, List, [], ◌∷◌, Option, None, ap, sym, subst, ◌∙◌, refl, arith, true≢false, if◌then◌else◌}
use Rattle.std.specs.Prelude.{IsTrue, Contains, nat_eq}
use Rattle.std.specs.List.{list_any}
use Rattle.std.proofs.lemmas.Bool.{or_cases}
use Rattle.chk_bytes.specs.Stems.{is_count}
use Rattle.chk_site.specs.Files.{File}
use Rattle.chk_world.specs.Names.{ArchiveFolder, SegmentFile, file}
use Rattle.chk_world.specs.Books.{Segment, Book}
use Rattle.chk_world.specs.Committed.{IsAbsent}
use Rattle.chk_world.specs.Jobs.{all_segments, is_named}
use Rattle.chk_world.specs.Sight.{Sight}
use Rattle.chk_world.proofs.Each.{later_one}
use Rattle.chk_world.proofs.NameTests.{nat_same}
use Rattle.chk_archive.specs.Archived.{NoStray}
use Rattle.chk_archive.specs.FolderNames.{names_segment}
use Rattle.chk_archive.specs.Listed.{IsListed}
use Rattle.chk_archive.proofs.FoundSources.{K, then_files}
use Rattle.chk_archive.proofs.Listings.{own_then, book_then, legal_then}
use Rattle.chk_archive.proofs.Uncounted.{uncounted}

absent : (o : Option File) → o ≡ None → IsAbsent o
absent o e = subst IsAbsent (sym e) tt

named_one : (gs : List Segment) (k : ℕ) → list_any (λ (g : Segment). nat_eq g.number k) gs ≡ true
    → (g : Segment) × Contains gs g × (g.number ≡ k)
named_one [] k h = absurd (true≢false (sym h))
named_one (g ∷ gs) k h = elim (or_cases (nat_eq g.number k) (list_any (λ (g : Segment). nat_eq g.number k) gs) h) [
  | inl same ↦ (g, (0, omega arith, refl), nat_same g.number k same)
  | inr rest ↦ let r = named_one gs k rest in (r.0, later_one g gs r.0 r.1, r.2)
]

module _ (stamped : List (List ℕ)) (names : List (List ℕ)) (b : Book) (v : Sight)
    (at : IsListed stamped names b v) (loaded : Book)
    (strays : (k : ℕ) → IsTrue (is_count k)
    → (v.own (SegmentFile ArchiveFolder k) ≡ None) ⊎ (IsTrue (names_segment b k) ⊎ IsTrue (names_segment loaded k))) where
  pub no_stray : NoStray loaded (K stamped names b v at).upto
  no_stray k = go (is_count k) refl
    where
      go : (t : Bool) → is_count k ≡ t
          → IsAbsent (file (then_files stamped names b v at) (SegmentFile ArchiveFolder k))
          ⊎ (IsTrue (is_named (then_files stamped names b v at) (SegmentFile ArchiveFolder k))
          ⊎ ((g : Segment) × Contains (all_segments loaded) g × (g.number ≡ k)))
      go false e = inl (absent (file (then_files stamped names b v at) (SegmentFile ArchiveFolder k)) (uncounted stamped (K stamped names b v at).upto (legal_then stamped names b v at) k e))
      go true e = elim (strays k e) [
        | inl none ↦
            inl (absent (file (then_files stamped names b v at) (SegmentFile ArchiveFolder k))
            (sym (ap (λ t. if t then file (then_files stamped names b v at) (SegmentFile ArchiveFolder k) else None) e)
            ∙ (own_then stamped names b v at (SegmentFile ArchiveFolder k) ∙ none)))
        | inr named ↦ inr (elim named [
          | inl now ↦ inl (subst (λ (c : Book). IsTrue (names_segment c k)) (sym (book_then stamped names b v at)) now)
          | inr before ↦ inr (named_one (all_segments loaded) k before)
        ])
      ]
