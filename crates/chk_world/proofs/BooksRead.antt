-- A book's bytes are read back.
use Rattle.std.proofs.Common.{◌≡◌, ℕ, suc, ◌+◌, ◌*◌, ◌^◌, ◌≤◌, ◌<◌, min, Bool, true, false, not, List, [], ◌∷◌, ◌++◌, length, drop, map, Option, Some, None, refl, ap, sym, ◌∙◌, true≢false, if◌then◌else◌, arith, append_assoc, append-nil, length-append}
use Rattle.std.specs.Prelude.{IsTrue, nat_lt, nat_le, codes}
use Rattle.std.specs.List.{list_all}
use Rattle.std.proofs.lemmas.Bool.{and_parts, ltb-true, leb-true, eqb-true}
use Rattle.std.proofs.lemmas.List.{drop-drop, drop_at}
use Rattle.chk_bytes.specs.Numbers.{be32, be64, limit, spelled, spelled_at}
use Rattle.chk_bytes.specs.Words.{joined, spelling}
use Rattle.chk_bytes.specs.Stems.{is_count}
use Rattle.chk_bytes.proofs.NumberLemmas.{spelled-be32, spelled-be64}
use Rattle.chk_bytes.proofs.SpellingLemmas.{spelling-spelled}
use Rattle.chk_chunk.specs.Keys.{is_stream, start_limit, behind_stream}
use Rattle.chk_chunk.proofs.FieldLemmas.{read_stream}
use Rattle.chk_world.specs.Books.{Segment, End, Book, Version, One, Two, Three, version_byte, has_starts, segment_bytes, end_bytes, aside_bytes, book_bytes, is_segment, segments_rise, is_end, ends_rise, is_aside, begins_at_0, is_nothing, fits_version, is_book, guessed_segment, guessed_segments, guessed_end, guessed_ends, behind_ends, guessed_version, guessed_aside, guessed_book, guessed, read_book}

-- numbers
number_back : (n : ℕ) → n < limit → spelled (be64 n) ≡ n
number_back n small = let s : n < 2 ^ 63 = small in spelled-be64 n (omega arith)

count_back : (n : ℕ) → n < 4294967296 → spelled (be32 n) ≡ n
count_back n small = spelled-be32 n (omega arith)

-- the count that stands there is taken, since each one has a byte at least
counted_back : (n m : ℕ) → n < 4294967296 → n ≤ m → min (spelled (be32 n)) m ≡ n
counted_back n m small fits = ap (λ k. min k m) (count_back n small) ∙ omega arith

-- segments
segment_small : (next : ℕ) (g : Segment) → is_segment next g ≡ true → (g.number < limit) × (g.length < limit)
segment_small next g h =
    let p1 = and_parts (is_count g.number) _ h in
    let p2 = and_parts (nat_lt g.number next) _ p1.1 in
    let p3 = and_parts (nat_le 96 g.length) (nat_lt g.length limit) p2.1 in
    (ltb-true g.number limit (and_parts _ _ p1.0).1, ltb-true g.length limit p3.1)

segment_back : (next : ℕ) (g : Segment) (rest : List ℕ) → is_segment next g ≡ true → guessed_segment (segment_bytes g ++ rest) ≡ g
segment_back next g rest h =
    let small = segment_small next g h in
    let a = number_back g.number small.0 in
    let b = number_back g.length small.1 in
    λ i. record { number = a i; length = b i }

segments_back : (next : ℕ) (gs : List Segment) (rest : List ℕ) → list_all (is_segment next) gs ≡ true
    → guessed_segments (length gs) (joined (map segment_bytes gs) ++ rest) ≡ gs
segments_back next [] rest all = refl
segments_back next (g ∷ gs) rest all =
    let both = and_parts (is_segment next g) (list_all (is_segment next) gs) all in
    let more = joined (map segment_bytes gs) ++ rest in
    ap (λ bytes. guessed_segments (suc (length gs)) bytes) (append_assoc (segment_bytes g) (joined (map segment_bytes gs)) rest)
    ∙ ap (λ s. s ∷ guessed_segments (length gs) more) (segment_back next g more both.0)
    ∙ ap (λ ss. g ∷ ss) (segments_back next gs rest both.1)

segments_size : (gs : List Segment) → length (joined (map segment_bytes gs)) ≡ 16 * length gs
segments_size [] = refl
segments_size (g ∷ gs) = omega (arith, segments_size gs, length-append (segment_bytes g) (joined (map segment_bytes gs)))

-- streams
end_facts : (e : End) → is_end e ≡ true → IsTrue (is_stream e.stream) × (e.start < limit) × (e.end < limit)
end_facts e h =
    let p1 = and_parts (is_stream e.stream) _ h in
    let p2 = and_parts (nat_lt e.start start_limit) _ p1.1 in
    let p3 = and_parts (nat_le e.start e.end) (nat_lt e.end limit) p2.1 in
    let a = leb-true e.start e.end p3.0 in
    let b = ltb-true e.end limit p3.1 in
    (p1.0, omega arith, b)

-- how many bytes stand before a stream's texts
abbrev offsets_size : Bool → ℕ
offsets_size starts = if starts then 16 else 8

-- the version says the start
abbrev SaysStart : Bool → End → Type 0
SaysStart true e = Unit {0}
SaysStart false e = e.start ≡ 0

-- one stream is read back, and what follows it is found
record IsEndRead (starts : Bool) (e : End) (rest : List ℕ) : Type 0 where
  is : guessed_end (offsets_size starts) (end_bytes starts e ++ rest) ≡ e
  follows : drop (behind_stream (offsets_size starts) (end_bytes starts e ++ rest)) (end_bytes starts e ++ rest) ≡ rest

end_back : (starts : Bool) (e : End) (rest : List ℕ) → is_end e ≡ true → SaysStart starts e → IsEndRead starts e rest
end_back true e rest h says =
    let f = end_facts e h in
    let r = read_stream 16 (end_bytes true e ++ rest) e.stream rest f.0 refl in
    let a = r.is in
    let b = number_back e.start f.1 in
    let c = number_back e.end f.2 in
    record { is = λ i. record { stream = a i; start = b i; end = c i }; follows = r.follows }
end_back false e rest h says =
    let f = end_facts e h in
    let r = read_stream 8 (end_bytes false e ++ rest) e.stream rest f.0 refl in
    let a = r.is in
    let b = sym says in
    let c = number_back e.end f.2 in
    record { is = λ i. record { stream = a i; start = b i; end = c i }; follows = r.follows }

abbrev AllSay : Bool → List End → Type 0
AllSay starts [] = Unit {0}
AllSay starts (e ∷ es) = SaysStart starts e × AllSay starts es

record AreEndsRead (starts : Bool) (es : List End) (rest : List ℕ) : Type 0 where
  are : guessed_ends (length es) (offsets_size starts) (joined (map (end_bytes starts) es) ++ rest) ≡ es
  follows : behind_ends (length es) (offsets_size starts) (joined (map (end_bytes starts) es) ++ rest) ≡ rest

ends_back : (starts : Bool) (es : List End) (rest : List ℕ) → list_all is_end es ≡ true → AllSay starts es → AreEndsRead starts es rest
ends_back starts [] rest all say = record { are = refl; follows = refl }
ends_back starts (e ∷ es) rest all say =
    let both = and_parts (is_end e) (list_all is_end es) all in
    let at = offsets_size starts in
    let more = joined (map (end_bytes starts) es) ++ rest in
    let split = append_assoc (end_bytes starts e) (joined (map (end_bytes starts) es)) rest in
    let one = end_back starts e more both.0 say.0 in
    let others = ends_back starts es rest both.1 say.1 in
    record {
      are =
          ap (guessed_ends (suc (length es)) at) split
          ∙ ap (λ x. x ∷ guessed_ends (length es) at (drop (behind_stream at (end_bytes starts e ++ more)) (end_bytes starts e ++ more))) one.is
          ∙ ap (λ bytes. e ∷ guessed_ends (length es) at bytes) one.follows
          ∙ ap (λ xs. e ∷ xs) others.are;
      follows =
          ap (behind_ends (suc (length es)) at) split
          ∙ ap (behind_ends (length es) at) one.follows
          ∙ others.follows;
    }

ends_size : (starts : Bool) (es : List End) → length es ≤ length (joined (map (end_bytes starts) es))
ends_size starts [] = omega arith
ends_size true (e ∷ es) = omega (arith, ends_size true es, length-append (end_bytes true e) (joined (map (end_bytes true) es)))
ends_size false (e ∷ es) = omega (arith, ends_size false es, length-append (end_bytes false e) (joined (map (end_bytes false) es)))

-- what a version says of a book
say_starts : (es : List End) → AllSay true es
say_starts [] = tt
say_starts (e ∷ es) = (tt, say_starts es)

say_zeros : (es : List End) → list_all begins_at_0 es ≡ true → AllSay false es
say_zeros [] all = tt
say_zeros (e ∷ es) all =
    let both = and_parts (begins_at_0 e) (list_all begins_at_0 es) all in
    (eqb-true e.start 0 both.0, say_zeros es both.1)

all_say : (v : Version) (b : Book) → fits_version v b ≡ true → AllSay (has_starts v) b.ends
all_say One b fits = say_zeros b.ends (and_parts (list_all begins_at_0 b.ends) (is_nothing b.aside) fits).0
all_say Two b fits = say_starts b.ends
all_say Three b fits = say_starts b.ends

none_aside : (o : Option Segment) → is_nothing o ≡ true → None ≡ o
none_aside None h = refl
none_aside (Some g) h = absurd (true≢false (sym h))

some_aside : (next : ℕ) (gs : List Segment) (o : Option Segment) → not (is_nothing o) ≡ true → is_aside next gs o ≡ true
    → Path (Option Segment) (Some (guessed_segment (aside_bytes o))) o
some_aside next gs None some h = absurd (true≢false (sym some))
some_aside next gs (Some g) some h =
    ap Some (ap guessed_segment (sym (append-nil (segment_bytes g))) ∙ segment_back next g [] (and_parts (is_segment next g) _ h).0)

aside_back : (v : Version) (b : Book) → fits_version v b ≡ true → is_aside b.next b.segments b.aside ≡ true
    → guessed_aside v (aside_bytes b.aside) ≡ b.aside
aside_back One b fits h = none_aside b.aside (and_parts (list_all begins_at_0 b.ends) (is_nothing b.aside) fits).1
aside_back Two b fits h = none_aside b.aside fits
aside_back Three b fits h = some_aside b.next b.segments b.aside fits h

-- the bytes from the count of streams on
abbrev tail_bytes : Version → Book → List ℕ
tail_bytes v b = be32 (length b.ends) ++ (joined (map (end_bytes (has_starts v)) b.ends) ++ aside_bytes b.aside)

-- the bytes from the first segment on
abbrev body_bytes : Version → Book → List ℕ
body_bytes v b = joined (map segment_bytes b.segments) ++ tail_bytes v b

version_back : (v : Version) (rest : List ℕ) → guessed_version (spelled_at 4 1 (codes "CHKB" ++ version_byte v ∷ rest)) ≡ v
version_back One rest = refl
version_back Two rest = refl
version_back Three rest = refl

tail_back : (v : Version) (b : Book) → IsTrue (is_book v b) → guessed_book v b.next b.segments (tail_bytes v b) ≡ b
tail_back v b h =
    let p1 = and_parts (is_count b.next) _ h in
    let p2 = and_parts (nat_lt (length b.segments) 4294967296) _ p1.1 in
    let p3 = and_parts (list_all (is_segment b.next) b.segments) _ p2.1 in
    let p4 = and_parts (segments_rise b.segments) _ p3.1 in
    let p5 = and_parts (nat_lt (length b.ends) 4294967296) _ p4.1 in
    let p6 = and_parts (list_all is_end b.ends) _ p5.1 in
    let p7 = and_parts (ends_rise b.ends) _ p6.1 in
    let p8 = and_parts (is_aside b.next b.segments b.aside) (fits_version v b) p7.1 in
    let starts = has_starts v in
    let behind = joined (map (end_bytes starts) b.ends) ++ aside_bytes b.aside in
    let few : length b.ends < 4294967296 = ltb-true (length b.ends) 4294967296 p5.0 in
    let fits : length b.ends ≤ length (tail_bytes v b) =
    omega (arith, ends_size starts b.ends, length-append (joined (map (end_bytes starts) b.ends)) (aside_bytes b.aside)) in
    let n : min (spelled (be32 (length b.ends))) (length (tail_bytes v b)) ≡ length b.ends =
    counted_back (length b.ends) (length (tail_bytes v b)) few fits in
    let r = ends_back starts b.ends (aside_bytes b.aside) p6.0 (all_say v b p8.1) in
    let es : guessed_ends (min (spelled (be32 (length b.ends))) (length (tail_bytes v b))) (offsets_size starts) behind ≡ b.ends =
    ap (λ k. guessed_ends k (offsets_size starts) behind) n ∙ r.are in
    let aside : guessed_aside v (behind_ends (min (spelled (be32 (length b.ends))) (length (tail_bytes v b))) (offsets_size starts) behind) ≡ b.aside =
    ap (λ k. guessed_aside v (behind_ends k (offsets_size starts) behind)) n
    ∙ ap (guessed_aside v) r.follows ∙ aside_back v b p8.1 p8.0 in
    λ i. record { next = b.next; segments = b.segments; ends = es i; aside = aside i }

book_guessed : (v : Version) (b : Book) → IsTrue (is_book v b) → guessed v (book_bytes v b) ≡ b
book_guessed v b h =
    let p1 = and_parts (is_count b.next) _ h in
    let p2 = and_parts (nat_lt (length b.segments) 4294967296) _ p1.1 in
    let p3 = and_parts (list_all (is_segment b.next) b.segments) _ p2.1 in
    let next_small : b.next < limit = ltb-true b.next limit (and_parts (nat_lt 0 b.next) (nat_lt b.next limit) p1.0).1 in
    let few : length b.segments < 4294967296 = ltb-true (length b.segments) 4294967296 p2.0 in
    let bytes = book_bytes v b in
    let segments = joined (map segment_bytes b.segments) in
    let fits : length b.segments ≤ length bytes =
    omega (arith, segments_size b.segments, length-append segments (tail_bytes v b)) in
    let next : spelled (be64 b.next) ≡ b.next = number_back b.next next_small in
    let n : min (spelled (be32 (length b.segments))) (length bytes) ≡ length b.segments =
    counted_back (length b.segments) (length bytes) few fits in
    let gs : guessed_segments (min (spelled (be32 (length b.segments))) (length bytes)) (body_bytes v b) ≡ b.segments =
    ap (λ k. guessed_segments k (body_bytes v b)) n ∙ segments_back b.next b.segments (tail_bytes v b) p3.0 in
    let rest : drop (17 + 16 * min (spelled (be32 (length b.segments))) (length bytes)) bytes ≡ tail_bytes v b =
    ap (λ k. drop (17 + 16 * k) bytes) n
    ∙ (sym (drop-drop (16 * length b.segments) 17 bytes)
    ∙ drop_at segments (tail_bytes v b) (16 * length b.segments) (segments_size b.segments)) in
    ap (λ k. guessed_book v k (guessed_segments (min (spelled (be32 (length b.segments))) (length bytes)) (body_bytes v b))
    (drop (17 + 16 * min (spelled (be32 (length b.segments))) (length bytes)) bytes)) next
    ∙ ap (λ ss. guessed_book v b.next ss (drop (17 + 16 * min (spelled (be32 (length b.segments))) (length bytes)) bytes)) gs
    ∙ ap (guessed_book v b.next b.segments) rest
    ∙ tail_back v b h

pub book_back : (v : Version) (b : Book) → IsTrue (is_book v b) → read_book (book_bytes v b) ≡ Some b
unfolding read_book
book_back v b h =
    ap (λ w. spelling (is_book w) (book_bytes w) (guessed w (book_bytes v b)) (book_bytes v b)) (version_back v (be64 b.next ++ (be32 (length b.segments) ++ body_bytes v b)))
    ∙ ap (λ g. spelling (is_book v) (book_bytes v) g (book_bytes v b)) (book_guessed v b h)
    ∙ spelling-spelled (is_book v) (book_bytes v) b (book_bytes v b) h refl
