-- The names of segments that a book doesn't name.
use Rattle.std.proofs.Common.{◌≡◌, ◌⊎◌, inl, inr, ℕ, zero, suc, ◌<◌, Bool, true, false, not, ◌&&◌, ◌||◌, List, [], ◌∷◌, ◌++◌, length, Option, Some, None, ap, sym, subst, ◌∙◌, refl, arith, true≢false, length-append, bytes_eq, take, drop, if◌then◌else◌}
use Rattle.std.specs.Prelude.{IsTrue, Contains, codes, decimal, filter, map, slice_index_or, ◌==◌}
use Rattle.std.specs.List.{list_any}
use Rattle.std.proofs.lemmas.Bool.{and_parts, and_from}
use Rattle.std.proofs.lemmas.Fmt.{length-decimal-le}
use Rattle.std.proofs.lemmas.List.{take-append-drop}
use Rattle.std.proofs.lemmas.Option.{same_Some, none-some}
use Rattle.chk_bytes.specs.Words.{is_word, lacks}
use Rattle.chk_bytes.specs.Numbers.{plain_number}
use Rattle.chk_bytes.specs.Stems.{is_count}
use Rattle.chk_bytes.proofs.WordLemmas.{plain_word, plain-append}
use Rattle.chk_bytes.proofs.StemLemmas.{decimal_plain}
use Rattle.chk_bytes.proofs.DecimalLemmas.{plain_number-Some}
use Rattle.chk_http_grammar.proofs.Apart.{no_mark}
use Rattle.chk_site.specs.Honest.{in_folder}
use Rattle.chk_world.specs.Names.{ArchiveFolder, SegmentFile, spell}
use Rattle.chk_world.specs.Books.{Book}
use Rattle.chk_world.proofs.Each.{passes_in, later_one}
use Rattle.chk_world.proofs.Ends.{bytes_same}
use Rattle.chk_book.specs.Folders.{segment_stem}
use Rattle.chk_archive.specs.FolderNames.{counted_only, number_behind, segment_number, names_segment, is_stray, strays_in}
use Rattle.chk_book.proofs.StemNumbers.{count_small, number_of_stem}

pub segment_spelled : (k : ℕ) → spell (SegmentFile ArchiveFolder k) ≡ in_folder (codes "archive")
    (segment_stem k)
unfolding spell
segment_spelled k = refl

none_any : (xs : List ℕ) → lacks 47 xs ≡ true → list_any (λ b. b == 47) xs ≡ false
none_any [] h = refl
none_any (x ∷ xs) h =
    let p = and_parts (not (x == 47)) (lacks 47 xs) h in
    go (x == 47) p.0 (none_any xs p.1)
  where
    go : (b : Bool) → not b ≡ true → list_any (λ b. b == 47) xs ≡ false →
        (b || list_any (λ b. b == 47) xs) ≡ false
    go true e rest = absurd (true≢false (sym e))
    go false e rest = rest

-- a listing shows it, where it is there
pub stem_word : (k : ℕ) → is_count k ≡ true
    → IsTrue (is_word (segment_stem k) && not (list_any (λ b. b == 47) (segment_stem k)))
stem_word k count =
    let small = count_small k count in
    let size = length-append (codes "seg.") (decimal k) in
    let digits = length-decimal-le 20 k (omega arith) (omega arith) (omega (arith, small)) in
    and_from (is_word (segment_stem k)) (not (list_any (λ b. b == 47) (segment_stem k)))
    (plain_word (segment_stem k) (plain-append (codes "seg.") (decimal k) refl
    (decimal_plain k (omega (arith, small))))
    (omega (arith, size)) (omega (arith, size, digits)))
    (ap not (none_any (segment_stem k) (no_mark 47 k (omega arith) small)))

-- and only that name has it
pub stem_of_number : (name : List ℕ) (k : ℕ) → segment_number name ≡ Some k
    → (is_count k ≡ true) × (name ≡ segment_stem k)
stem_of_number name k e = front (bytes_eq (take (length (codes "seg.")) name) (codes "seg.")) refl e
  where
    counted : (d : List ℕ) (o : Option ℕ) → plain_number d ≡ o → counted_only o ≡ Some k
        → (is_count k ≡ true) × (decimal k ≡ d)
    counted d None p e = absurd (none-some k e)
    counted d (Some n) p e = test (is_count n) refl e
      where
        test : (t : Bool) → is_count n ≡ t
            → elim t as (λ t. Option ℕ) [ true ↦ Some n | false ↦ None ] ≡ Some k
            → (is_count k ≡ true) × (decimal k ≡ d)
        test true c e =
            let same : n ≡ k = same_Some n k e in (
              subst (λ m. is_count m ≡ true) same c,
              subst (λ m. decimal m ≡ d) same
                  (plain_number-Some d n p).0,
            )
        test false c e = absurd (none-some k e)

    front : (t : Bool) → bytes_eq (take (length (codes "seg.")) name) (codes "seg.") ≡ t
        → number_behind (if t then Some (drop (length (codes "seg.")) name) else None) ≡ Some k
        → (is_count k ≡ true) × (name ≡ segment_stem k)
    front true b e =
        let d = drop (length (codes "seg.")) name in
        let c = counted d (plain_number d) refl e in (
          c.0,
          sym (take-append-drop (length (codes "seg.")) name)
              ∙ (ap (λ l. l ++ d) (bytes_same (take (length (codes "seg.")) name) (codes "seg.") b)
              ∙ ap (λ l. codes "seg." ++ l) (sym c.1)),
        )
    front false b e = absurd (none-some k e)

-- a segment that is listed and not named is among the strays
pub is_among : (b : Book) (names : List (List ℕ)) (k : ℕ) → is_count k ≡ true → Contains names
    (segment_stem k)
    → IsTrue (names_segment b k) ⊎ Contains (strays_in b names)
    (spell (SegmentFile ArchiveFolder k))
is_among b names k count one = go (names_segment b k) refl
  where
    mapped : (xs : List (List ℕ)) (x : List ℕ) → Contains xs x
        → Contains (map (in_folder (codes "archive")) xs) (in_folder (codes "archive") x)
    mapped xs x c = at xs c.0 c.1 c.2
      where
        at : (xs : List (List ℕ)) (i : ℕ) → i < length xs → slice_index_or xs i x ≡ x
            → Contains (map (in_folder (codes "archive")) xs) (in_folder (codes "archive") x)
        at [] i low e = absurd (let z : ⊥ = omega (arith, low) in z)
        at (y ∷ ys) zero low e = (0, omega arith, ap (in_folder (codes "archive")) e)
        at (y ∷ ys) (suc i) low e =
            later_one (in_folder (codes "archive") y) (map (in_folder (codes "archive")) ys)
            (in_folder (codes "archive") x)
            (at ys i (omega (arith, low)) e)

    go : (t : Bool) → names_segment b k ≡ t
        → IsTrue (names_segment b k) ⊎ Contains (strays_in b names)
        (spell (SegmentFile ArchiveFolder k))
    go true e = inl e
    go false e =
        inr (subst (Contains (strays_in b names)) (sym (segment_spelled k))
        (mapped (filter (is_stray b) names) (segment_stem k)
        (passes_in (is_stray b) names (segment_stem k) one
        (ap (λ o. elim o as (λ t. Bool) [ None ↦ false | Some n ↦ not (names_segment b n) ])
        (number_of_stem k count) ∙ ap not e))))
