-- The bytes of a book whose fields aren't damaged are the book's.
use Rattle.std.proofs.Common.{◌≡◌, ℕ, zero, suc, ◌+◌, ◌*◌, ◌≤◌, ◌<◌, ◌^◌, true, false, not, List, [], ◌∷◌, ◌++◌, length, take, drop, map, Option, Some, None, refl, sym, ap, subst, ◌∙◌, arith}
use Rattle.std.specs.Prelude.{nat_lt, nat_le, bytes_eq, codes, IsTrue, ◌&&◌}
use Rattle.std.specs.List.{list_all}
use Rattle.std.proofs.lemmas.Bool.{and_parts, and_from, leb-true, lt-ltb}
use Rattle.std.proofs.lemmas.List.{take-append-drop, drop-drop, length-drop}
use Rattle.std.proofs.lemmas.Slice.Eq.{bytes_eq-Decides}
use Rattle.chk_bytes.specs.Laws.{AreBytes}
use Rattle.chk_bytes.specs.Numbers.{be32, be64, limit, spelled, spelled_at}
use Rattle.chk_bytes.specs.Words.{joined}
use Rattle.chk_bytes.specs.Stems.{is_count}
use Rattle.chk_world.specs.Books.{Segment, End, Book, Version, One, Two, Three, version_byte, has_starts, segment_bytes, end_bytes, aside_bytes, book_bytes, is_nothing, begins_at_0, fits_version, is_book, read_book}
use Rattle.chk_world.proofs.BooksRead.{book_back}
use Rattle.chk_book.specs.Damage.{has, head_damage, next_damage, count_damage, segments_there, ends_place, tail_damage, book_damage}
use Rattle.chk_book.specs.Found.{AreSegmentsAt, AreEndsAt, IsTailAt}
use Rattle.chk_book.proofs.FieldFacts.{none_from, none_left, unless_true, number_stands, count_stands}

-- the version that a byte names
record IsVersion (w : ℕ) (v : Version) : Type 0 where
  byte : version_byte v ≡ w
  starts : has_starts v ≡ nat_le 2 w
  fits : (b : Book) → (nat_le 2 w ≡ false → list_all begins_at_0 b.ends ≡ true) → is_nothing b.aside ≡ not (nat_le 3 w) → fits_version v b ≡ true

version_so : (w : ℕ) → 1 ≤ w → w ≤ 3 → (v : Version) × IsVersion w v
version_so zero low high = absurd (let z : ⊥ = omega arith in z)
version_so (suc zero) low high =
    (One, record { byte = refl; starts = refl; fits = λ b zeros none. and_from _ _ (zeros refl) none })
version_so (suc (suc zero)) low high = (Two, record { byte = refl; starts = refl; fits = λ b zeros none. none })
version_so (suc (suc (suc zero))) low high = (Three, record { byte = refl; starts = refl; fits = λ b zeros some. ap not some })
version_so (suc (suc (suc (suc w)))) low high = absurd (let z : ⊥ = omega arith in z)

-- the first five bytes
record IsHeadThere (bytes : List ℕ) : Type 0 where
  low : 1 ≤ spelled_at 4 1 bytes
  high : spelled_at 4 1 bytes ≤ 3
  stands : bytes ≡ codes "CHKB" ++ spelled_at 4 1 bytes ∷ drop 5 bytes

byte_first : (xs : List ℕ) → 0 < length xs → xs ≡ spelled (take 1 xs) ∷ drop 1 xs
byte_first [] some = absurd (let z : ⊥ = omega arith in z)
byte_first (x ∷ xs) some = ap (λ y. y ∷ xs) (let e : x ≡ spelled (x ∷ []) = omega arith in e)

head_fine : (bytes : List ℕ) → head_damage bytes ≡ None → IsHeadThere bytes
unfolding head_damage
head_fine bytes h =
    let w : ℕ = spelled_at 4 1 bytes in
    let all = unless_true (has 0 5 bytes && (bytes_eq (take 4 bytes) (codes "CHKB") && (nat_le 1 w && nat_le w 3))) 0 h in
    let a = and_parts (has 0 5 bytes) _ all in
    let b = and_parts (bytes_eq (take 4 bytes) (codes "CHKB")) _ a.1 in
    let c = and_parts (nat_le 1 w) (nat_le w 3) b.1 in
    let long : 5 ≤ length bytes = leb-true 5 (length bytes) a.0 in
    let letters : take 4 bytes ≡ codes "CHKB" = (bytes_eq-Decides (take 4 bytes) (codes "CHKB")).0 b.0 in
    record {
      low = leb-true 1 w c.0;
      high = leb-true w 3 c.1;
      stands = sym (take-append-drop 4 bytes)
          ∙ (ap (λ t. t ++ drop 4 bytes) letters
          ∙ ap (λ t. codes "CHKB" ++ t) (byte_first (drop 4 bytes) (let n = length-drop 4 bytes in omega arith)
          ∙ ap (λ t. w ∷ t) (drop-drop 1 4 bytes)));
    }

next_fine : (bytes : List ℕ) → next_damage bytes ≡ None → is_count (spelled_at 5 8 bytes) ≡ true
unfolding next_damage
next_fine bytes h =
    let n : ℕ = spelled_at 5 8 bytes in
    (and_parts (has 5 8 bytes) (nat_lt 0 n && nat_lt n limit) (unless_true (has 5 8 bytes && (nat_lt 0 n && nat_lt n limit)) 5 h)).1

module _ (bytes : List ℕ) (are : AreBytes bytes) (head : head_damage bytes ≡ None) (nexts : next_damage bytes ≡ None) (long : 13 ≤ length bytes)
    (counts : count_damage 13 bytes ≡ None) (longer : 13 + 4 ≤ length bytes) (gs : List Segment)
    (segments : AreSegmentsAt (spelled_at 5 8 bytes) (spelled_at 13 4 bytes) bytes gs)
    (more : count_damage (17 + 16 * spelled_at 13 4 bytes) bytes ≡ None) (further : 17 + 16 * spelled_at 13 4 bytes + 4 ≤ length bytes)
    (es : List End) (at : ℕ)
    (ends : AreEndsAt (nat_le 2 (spelled_at 4 1 bytes)) (spelled_at (17 + 16 * spelled_at 13 4 bytes) 4 bytes) (17 + 16 * spelled_at 13 4 bytes + 4) bytes es at)
    (o : Option Segment) (tail : IsTailAt (nat_le 3 (spelled_at 4 1 bytes)) (spelled_at 5 8 bytes) gs at bytes o)
    (few : length gs < 4294967296) (some : length es < 4294967296) where
  abbrev version : (v : Version) × IsVersion (spelled_at 4 1 bytes) v
  version = let h = head_fine bytes head in version_so (spelled_at 4 1 bytes) h.low h.high

  abbrev pub book : Book
  book = record { next = spelled_at 5 8 bytes; segments = gs; ends = es; aside = o }

  fine_book : IsTrue (is_book version.0 book)
  fine_book =
      and_from _ _ (next_fine bytes nexts)
      (and_from _ _ (lt-ltb (length gs) 4294967296 few)
      (and_from _ _ segments.sound
      (and_from _ _ segments.rise
      (and_from _ _ (lt-ltb (length es) 4294967296 some)
      (and_from _ _ ends.sound
      (and_from _ _ ends.rise
      (and_from _ _ tail.sound (version.1.fits book ends.zero_starts tail.there))))))))

  bytes_are : bytes ≡ book_bytes version.0 book
  bytes_are =
      let starts = nat_le 2 (spelled_at 4 1 bytes) in
      let from : ℕ = 17 + 16 * spelled_at 13 4 bytes in
      let behind : drop from bytes ≡ be32 (length es) ++ (joined (map (end_bytes starts) es) ++ aside_bytes o) =
      count_stands from bytes are further
      ∙ (ap (λ n. be32 n ++ drop (from + 4) bytes) ends.many
      ∙ ap (λ t. be32 (length es) ++ t) (ends.stands ∙ ap (λ t. joined (map (end_bytes starts) es) ++ t) tail.stands)) in
      let body : drop 13 bytes ≡ be32 (length gs) ++ (joined (map segment_bytes gs) ++ (be32 (length es) ++ (joined (map (end_bytes starts) es) ++ aside_bytes o))) =
      count_stands 13 bytes are longer
      ∙ (ap (λ n. be32 n ++ drop 17 bytes) segments.many
      ∙ ap (λ t. be32 (length gs) ++ t) (segments.stands ∙ ap (λ t. joined (map segment_bytes gs) ++ t) behind)) in
      (head_fine bytes head).stands
      ∙ (ap (λ t. codes "CHKB" ++ spelled_at 4 1 bytes ∷ t) (number_stands 5 bytes are long ∙ ap (λ t. be64 (spelled_at 5 8 bytes) ++ t) body)
      ∙ (ap (λ b. codes "CHKB" ++ spelled_at 4 1 bytes ∷ (be64 (spelled_at 5 8 bytes) ++ (be32 (length gs) ++ (joined (map segment_bytes gs)
      ++ (be32 (length es) ++ (joined (map (end_bytes b) es) ++ aside_bytes o)))))) (sym version.1.starts)
      ∙ ap (λ w. codes "CHKB" ++ w ∷ (be64 (spelled_at 5 8 bytes) ++ (be32 (length gs) ++ (joined (map segment_bytes gs)
      ++ (be32 (length es) ++ (joined (map (end_bytes (has_starts version.0)) es) ++ aside_bytes o)))))) (sym version.1.byte)))

  pub is_read : read_book bytes ≡ Some book
  is_read = ap read_book bytes_are ∙ book_back version.0 book fine_book

  tail_fine : tail_damage (nat_le 3 (spelled_at 4 1 bytes)) (spelled_at 5 8 bytes) (segments_there (spelled_at 13 4 bytes) 17 bytes)
      (ends_place (spelled_at (17 + 16 * spelled_at 13 4 bytes) 4 bytes) (nat_le 2 (spelled_at 4 1 bytes)) (17 + 16 * spelled_at 13 4 bytes + 4) bytes) bytes ≡ None
  tail_fine =
      let place : ℕ = ends_place (spelled_at (17 + 16 * spelled_at 13 4 bytes) 4 bytes) (nat_le 2 (spelled_at 4 1 bytes)) (17 + 16 * spelled_at 13 4 bytes + 4) bytes in
      ap (λ hs. tail_damage (nat_le 3 (spelled_at 4 1 bytes)) (spelled_at 5 8 bytes) hs place bytes) segments.are
      ∙ (ap (λ k. tail_damage (nat_le 3 (spelled_at 4 1 bytes)) (spelled_at 5 8 bytes) gs k bytes) (sym ends.place) ∙ tail.fine)

  pub is_fine : book_damage bytes ≡ None
  unfolding book_damage
  is_fine =
      none_from _ _ head
      (none_from _ _ nexts
      (none_from _ _ counts
      (none_from _ _ segments.fine
      (none_from _ _ more
      (none_from _ _ ends.fine
      (none_from _ _ tail_fine none_left))))))

-- with the numbers as they were read
pub book_so : (bytes : List ℕ) → AreBytes bytes → (w next m n : ℕ) → w ≡ spelled_at 4 1 bytes → next ≡ spelled_at 5 8 bytes → m ≡ spelled_at 13 4 bytes
    → n ≡ spelled_at (17 + 16 * m) 4 bytes → m < 2 ^ 32 → n < 2 ^ 32 → head_damage bytes ≡ None → next_damage bytes ≡ None → 13 ≤ length bytes
    → count_damage 13 bytes ≡ None → 17 ≤ length bytes → (gs : List Segment) → AreSegmentsAt next m bytes gs
    → count_damage (17 + 16 * m) bytes ≡ None → 17 + 16 * m + 4 ≤ length bytes → (es : List End) (at : ℕ) → AreEndsAt (nat_le 2 w) n (17 + 16 * m + 4) bytes es at
    → (o : Option Segment) → IsTailAt (nat_le 3 w) next gs at bytes o
    → (book_damage bytes ≡ None) × (read_book bytes ≡ Some (record { next = next; segments = gs; ends = es; aside = o }))
book_so bytes are w next m n ew en em enn small less head nexts long counts longer gs segments more further es at ends o tail =
    let few : length gs < 4294967296 = omega (arith, segments.many) in
    let some : length es < 4294967296 = omega (arith, ends.many) in
    let segments' = subst (λ k. AreSegmentsAt k (spelled_at 13 4 bytes) bytes gs) en (subst (λ k. AreSegmentsAt next k bytes gs) em segments) in
    let more' = subst (λ k. count_damage (17 + 16 * k) bytes ≡ None) em more in
    let further' = subst (λ k. 17 + 16 * k + 4 ≤ length bytes) em further in
    let last = subst (λ k. n ≡ spelled_at (17 + 16 * k) 4 bytes) em enn in
    let ends' = subst (λ k. AreEndsAt (nat_le 2 (spelled_at 4 1 bytes)) k (17 + 16 * spelled_at 13 4 bytes + 4) bytes es at) last
    (subst (λ k. AreEndsAt (nat_le 2 k) n (17 + 16 * spelled_at 13 4 bytes + 4) bytes es at) ew
    (subst (λ k. AreEndsAt (nat_le 2 w) n (17 + 16 * k + 4) bytes es at) em ends)) in
    let tail' = subst (λ k. IsTailAt (nat_le 3 (spelled_at 4 1 bytes)) k gs at bytes o) en (subst (λ k. IsTailAt (nat_le 3 k) next gs at bytes o) ew tail) in (
      is_fine bytes are head nexts long counts longer gs segments' more' further' es at ends' o tail' few some,
      is_read bytes are head nexts long counts longer gs segments' more' further' es at ends' o tail' few some
          ∙ ap (λ k. Some (record { next = k; segments = gs; ends = es; aside = o })) (sym en),
    )
