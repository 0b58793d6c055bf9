-- No field of a book's bytes is damaged.
use Rattle.std.proofs.Common.{◌≡◌, inl, inr, ◌⊎◌, ℕ, suc, ◌+◌, ◌*◌, ◌<◌, ◌≤◌, ◌^◌, Bool, true, false, not, true≢false, List, [], ◌∷◌, ◌++◌, length, take, drop, map, Option, Some, None, refl, sym, ap, subst, ◌∙◌, append_assoc, append-nil, arith}
use Rattle.std.specs.Prelude.{IsTrue, nat_lt, nat_le, bytes_eq, codes, ◌&&◌, ◌||◌}
use Rattle.std.specs.List.{list_all}
use Rattle.std.proofs.lemmas.Bool.{and_parts, and_from, ltb-true, lt-ltb, le-leb, le-ltb, false_from_ne_true}
use Rattle.std.proofs.lemmas.List.{length-drop, length-take-le, drop-drop}
use Rattle.std.proofs.lemmas.Slice.Eq.{bytes_eq-Decides}
use Rattle.chk_bytes.specs.Numbers.{be32, be64, limit, spelled, spelled_at}
use Rattle.chk_bytes.specs.Words.{is_word, joined, text_lt}
use Rattle.chk_bytes.specs.Stems.{is_count}
use Rattle.chk_bytes.proofs.NumberLemmas.{spelled-be32, spelled-be64}
use Rattle.chk_bytes.proofs.WordLemmas.{word_facts}
use Rattle.chk_chunk.specs.Keys.{Stream, is_stream, start_limit, stream_lt, counted_stream, text_at, behind_text, stream_at, behind_stream}
use Rattle.chk_chunk.proofs.FieldLemmas.{read_stream}
use Rattle.chk_chunk.proofs.KeyLemmas.{stream_facts}
use Rattle.chk_world.specs.Books.{Segment, End, Book, Version, One, Two, Three, version_byte, has_starts, segment_bytes, end_bytes, aside_bytes, book_bytes, is_segment, segments_rise, is_end, ends_rise, is_aside, is_nothing, begins_at_0, fits_version, is_book}
use Rattle.chk_world.proofs.LinesRead.{text_lt_self}
use Rattle.chk_world.proofs.LinesStand.{text_lt_trans}
use Rattle.chk_book.specs.Damage.{has, head_damage, next_damage, count_damage, aside_damage, trailing_damage, tail_damage, is_taken, segments_there, book_damage, segment_damage, segments_damage, text_damage, source_falls, kind_falls, comes_behind, stream_damage, offsets_damage, texts_place, end_damage, ends_damage, ends_place}
use Rattle.chk_book.proofs.FieldFacts.{none_from, none_left, true_unless}

-- ---- numbers

module _ (at : ℕ) (bytes rest : List ℕ) where
  pub number_is : (n : ℕ) → n < limit → drop at bytes ≡ be64 n ++ rest → spelled_at at 8 bytes ≡ n
  number_is n small e = ap (λ t. spelled (take 8 t)) e ∙ (let s : n < 2 ^ 63 = small in spelled-be64 n (omega arith))

  pub number_has : (n : ℕ) → drop at bytes ≡ be64 n ++ rest → has at 8 bytes ≡ true
  number_has n e = let a = ap length e in let b = length-drop at bytes in le-leb (at + 8) (length bytes) (omega arith)

  pub number_behind : (n : ℕ) → drop at bytes ≡ be64 n ++ rest → drop (at + 8) bytes ≡ rest
  number_behind n e = sym (drop-drop 8 at bytes) ∙ ap (drop 8) e

-- ---- segments

pub one_segment : (next last at : ℕ) (bytes : List ℕ) (g : Segment) (rest : List ℕ) → drop at bytes ≡ segment_bytes g ++ rest → last < g.number → is_segment next g ≡ true
    → (segment_damage next last at bytes ≡ None) × (spelled_at at 8 bytes ≡ g.number) × (drop (at + 16) bytes ≡ rest)
    × (spelled_at (at + 8) 8 bytes ≡ g.length)
unfolding segment_damage
one_segment next last at bytes g rest e past h =
    let p1 = and_parts (is_count g.number) _ h in
    let p2 = and_parts (nat_lt g.number next) _ p1.1 in
    let p3 = and_parts (nat_le 96 g.length) (nat_lt g.length limit) p2.1 in
    let low : g.number < limit = ltb-true g.number limit (and_parts (nat_lt 0 g.number) (nat_lt g.number limit) p1.0).1 in
    let short : g.length < limit = ltb-true g.length limit p3.1 in
    let first : drop at bytes ≡ be64 g.number ++ (be64 g.length ++ rest) = e ∙ append_assoc (be64 g.number) (be64 g.length) rest in
    let second = number_behind at bytes (be64 g.length ++ rest) g.number first in
    let n = number_is at bytes (be64 g.length ++ rest) g.number low first in
    let l = number_is (at + 8) bytes rest g.length short second in
    let behind : drop (at + 8 + 8) bytes ≡ rest = number_behind (at + 8) bytes rest g.length second in (
      none_from _ _ (true_unless _ at (and_from _ _ (number_has at bytes (be64 g.length ++ rest) g.number first)
          (subst (λ k. (nat_lt last k && nat_lt k next) ≡ true) (sym n) (and_from _ _ (lt-ltb last g.number past) p2.0))))
          (none_from _ _ (true_unless _ (at + 8) (and_from _ _ (number_has (at + 8) bytes rest g.length second)
          (subst (λ k. (nat_le 96 k && nat_lt k limit) ≡ true) (sym l) p2.1))) none_left),
      n,
      ap (λ k. drop k bytes) (let z : at + 16 ≡ at + 8 + 8 = omega arith in z) ∙ behind,
      l,
    )

-- the numbers rise from a last one
abbrev RiseFrom : ℕ → List Segment → Type 0
RiseFrom last [] = Unit {0}
RiseFrom last (g ∷ gs) = (last < g.number) × RiseFrom g.number gs

rise_from : (g : Segment) (gs : List Segment) → segments_rise (g ∷ gs) ≡ true → RiseFrom g.number gs
rise_from g [] h = tt
rise_from g (k ∷ gs) h =
    let both = and_parts (nat_lt g.number k.number) (segments_rise (k ∷ gs)) h in
    (ltb-true g.number k.number both.0, rise_from k gs both.1)

pub all_segments : (next last at : ℕ) (bytes : List ℕ) (gs : List Segment) (rest : List ℕ) → drop at bytes ≡ joined (map segment_bytes gs) ++ rest
    → RiseFrom last gs → list_all (is_segment next) gs ≡ true
    → (segments_damage (length gs) next last at bytes ≡ None) × (drop (at + 16 * length gs) bytes ≡ rest) × (segments_there (length gs) at bytes ≡ gs)
all_segments next last at bytes [] rest e rise all = (refl, ap (λ k. drop k bytes) (let z : at + 0 ≡ at = omega arith in z) ∙ e, refl)
all_segments next last at bytes (g ∷ gs) rest e rise all =
    let both = and_parts (is_segment next g) (list_all (is_segment next) gs) all in
    let one = one_segment next last at bytes g (joined (map segment_bytes gs) ++ rest) (e ∙ append_assoc (segment_bytes g) (joined (map segment_bytes gs)) rest) rise.0 both.0 in
    let more = all_segments next g.number (at + 16) bytes gs rest one.2 rise.1 both.1 in (
      none_from _ _ one.0 (none_from _ _ (ap (λ k. segments_damage (length gs) next k (at + 16) bytes) one.1 ∙ more.0) none_left),
      ap (λ k. drop k bytes) (let z : at + 16 * suc (length gs) ≡ at + 16 + 16 * length gs = omega arith in z) ∙ more.1,
      λ i. record { number = (one.1) i; length = (one.3) i } ∷ (more.2) i,
    )

-- ---- streams

no_lt_back : (a b : List ℕ) → (text_lt a b ≡ true) ⊎ (a ≡ b) → text_lt b a ≡ false
no_lt_back a b (inl lt) = false_from_ne_true (text_lt b a) (λ h. true≢false (sym (text_lt_trans a b a lt h) ∙ text_lt_self a))
no_lt_back a b (inr same) = ap (text_lt b) same ∙ text_lt_self b

or_cases : (a b : Bool) → (a || b) ≡ true → (a ≡ true) ⊎ (b ≡ true)
or_cases true b e = inl refl
or_cases false b e = inr e

and_false : (a b : Bool) → b ≡ false → (a && b) ≡ false
and_false true b e = e
and_false false b e = refl

none_falls : (last : Option Stream) (s : Stream) → comes_behind last s ≡ true → (source_falls last s.source ≡ false) × (kind_falls last s.source s.kind ≡ false)
none_falls None s h = (refl, refl)
none_falls (Some l) s h = by (or_cases (text_lt l.source s.source) _ h)
  where
    by : (text_lt l.source s.source ≡ true) ⊎ ((bytes_eq l.source s.source && (text_lt l.kind s.kind || (bytes_eq l.kind s.kind && text_lt l.name s.name))) ≡ true)
        → (text_lt s.source l.source ≡ false) × ((bytes_eq s.source l.source && text_lt s.kind l.kind) ≡ false)
    by (inl lt) = (
      no_lt_back l.source s.source (inl lt),
      false_from_ne_true _ (λ both.
          let same = (bytes_eq-Decides s.source l.source).0 (and_parts (bytes_eq s.source l.source) (text_lt s.kind l.kind) both).0 in
          true≢false (sym lt ∙ (ap (λ t. text_lt t s.source) (sym same) ∙ text_lt_self s.source))),
    )
    by (inr rest) =
        let p = and_parts (bytes_eq l.source s.source) _ rest in
        let same = (bytes_eq-Decides l.source s.source).0 p.0 in (
          no_lt_back l.source s.source (inr same),
          and_false (bytes_eq s.source l.source) (text_lt s.kind l.kind) (kind (or_cases (text_lt l.kind s.kind) _ p.1)),
        )
      where
        kind : (text_lt l.kind s.kind ≡ true) ⊎ ((bytes_eq l.kind s.kind && text_lt l.name s.name) ≡ true) → text_lt s.kind l.kind ≡ false
        kind (inl lt) = no_lt_back l.kind s.kind (inl lt)
        kind (inr q) = no_lt_back l.kind s.kind (inr ((bytes_eq-Decides l.kind s.kind).0 (and_parts (bytes_eq l.kind s.kind) (text_lt l.name s.name) q).0))

text_there : (at : ℕ) (bytes : List ℕ) → IsTrue (is_word (text_at at bytes)) → behind_text at bytes ≤ length bytes → text_damage at bytes ≡ None
unfolding text_damage
text_there at bytes word within =
    let size : ℕ = spelled_at at 2 bytes in
    let rest = length-drop (at + 2) bytes in
    let long = length-take-le size (drop (at + 2) bytes) (omega arith) in
    let w = word_facts (text_at at bytes) word in
    let some = w.some_byte in
    let most = w.at_most in
    none_from _ _ (true_unless _ at (and_from _ _ (le-leb (at + 2) (length bytes) (omega arith))
    (and_from _ _ (lt-ltb 0 size (omega arith)) (le-leb size 4096 (omega arith)))))
    (none_from _ _ (true_unless _ (at + 2) (and_from _ _ (le-leb (at + 2 + size) (length bytes) within) word)) none_left)

pub one_stream : (last : Option Stream) (at : ℕ) (bytes : List ℕ) (s : Stream) (rest : List ℕ) → IsTrue (is_stream s) → drop at bytes ≡ counted_stream s ++ rest
    → comes_behind last s ≡ true
    → (stream_damage last at bytes ≡ None) × (stream_at at bytes ≡ s) × (drop (behind_stream at bytes) bytes ≡ rest)
unfolding stream_damage
one_stream last at bytes s rest words e comes =
    let r = read_stream at bytes s rest words e in
    let there = stream_facts (stream_at at bytes) r.there.words in
    let within : behind_stream at bytes ≤ length bytes = r.there.within in
    let kind_at : ℕ = behind_text at bytes in
    let name_at : ℕ = behind_text kind_at bytes in
    let behind = subst (λ t. comes_behind last t ≡ true) (sym r.is) comes in
    let falls = none_falls last (stream_at at bytes) behind in (
      none_from _ _ (text_there at bytes there.source (omega arith))
          (none_from _ _ (true_unless _ (at + 2) (ap not falls.0))
          (none_from _ _ (text_there kind_at bytes there.kind (omega arith))
          (none_from _ _ (true_unless _ (kind_at + 2) (ap not falls.1))
          (none_from _ _ (text_there name_at bytes there.name within)
          (none_from _ _ (true_unless _ (name_at + 2) behind) none_left))))),
      r.is,
      r.follows,
    )

offsets_true : (at : ℕ) (bytes : List ℕ) (e : End) (rest : List ℕ) → drop at bytes ≡ be64 e.start ++ (be64 e.end ++ rest)
    → (nat_lt e.start start_limit && (nat_le e.start e.end && nat_lt e.end limit)) ≡ true
    → (offsets_damage true at bytes ≡ None) × (drop (at + 8 + 8) bytes ≡ rest)
unfolding offsets_damage
offsets_true at bytes e rest is sound =
    let p1 = and_parts (nat_lt e.start start_limit) _ sound in
    let p2 = and_parts (nat_le e.start e.end) (nat_lt e.end limit) p1.1 in
    let low : e.start < start_limit = ltb-true e.start start_limit p1.0 in
    let start = number_is at bytes (be64 e.end ++ rest) e.start (omega arith) is in
    let second = number_behind at bytes (be64 e.end ++ rest) e.start is in
    let end = number_is (at + 8) bytes rest e.end (ltb-true e.end limit p2.1) second in (
      none_from _ _ (true_unless _ at (and_from _ _ (number_has at bytes (be64 e.end ++ rest) e.start is) (subst (λ k. nat_lt k start_limit ≡ true) (sym start) p1.0)))
          (none_from _ _ (true_unless _ (at + 8) (and_from _ _ (number_has (at + 8) bytes rest e.end second)
          (subst (λ k. (nat_le k (spelled_at (at + 8) 8 bytes) && nat_lt (spelled_at (at + 8) 8 bytes) limit) ≡ true) (sym start)
          (subst (λ k. (nat_le e.start k && nat_lt k limit) ≡ true) (sym end) p1.1)))) none_left),
      number_behind (at + 8) bytes rest e.end second,
    )

offsets_false : (at : ℕ) (bytes : List ℕ) (e : End) (rest : List ℕ) → drop at bytes ≡ be64 e.end ++ rest → nat_lt e.end limit ≡ true
    → (offsets_damage false at bytes ≡ None) × (drop (at + 8) bytes ≡ rest)
unfolding offsets_damage
offsets_false at bytes e rest is sound =
    let end = number_is at bytes rest e.end (ltb-true e.end limit sound) is in (
      none_from _ _ (true_unless _ at refl)
          (none_from _ _ (true_unless _ at (and_from _ _ (number_has at bytes rest e.end is)
          (and_from _ _ (le-leb 0 (spelled_at at 8 bytes) (omega arith)) (subst (λ k. nat_lt k limit ≡ true) (sym end) sound)))) none_left),
      number_behind at bytes rest e.end is,
    )

one_end : (starts : Bool) (last : Option Stream) (at : ℕ) (bytes : List ℕ) (e : End) (rest : List ℕ) → drop at bytes ≡ end_bytes starts e ++ rest
    → is_end e ≡ true → comes_behind last e.stream ≡ true
    → (end_damage starts last at bytes ≡ None) × (stream_at (texts_place starts at) bytes ≡ e.stream) × (drop (behind_stream (texts_place starts at) bytes) bytes ≡ rest)
unfolding end_damage
one_end true last at bytes e rest is sound comes =
    let p = and_parts (is_stream e.stream) _ sound in
    let split : drop at bytes ≡ be64 e.start ++ (be64 e.end ++ (counted_stream e.stream ++ rest)) =
    is ∙ (append_assoc (be64 e.start) (be64 e.end ++ counted_stream e.stream) rest ∙ ap (λ t. be64 e.start ++ t) (append_assoc (be64 e.end) (counted_stream e.stream) rest)) in
    let o = offsets_true at bytes e (counted_stream e.stream ++ rest) split p.1 in
    let s = one_stream last (texts_place true at) bytes e.stream rest p.0 o.1 comes in
    (none_from _ _ o.0 (none_from _ _ s.0 none_left), s.1, s.2)
one_end false last at bytes e rest is sound comes =
    let p = and_parts (is_stream e.stream) _ sound in
    let q = and_parts (nat_lt e.start start_limit) _ p.1 in
    let r = and_parts (nat_le e.start e.end) (nat_lt e.end limit) q.1 in
    let o = offsets_false at bytes e (counted_stream e.stream ++ rest) (is ∙ append_assoc (be64 e.end) (counted_stream e.stream) rest) r.1 in
    let s = one_stream last (texts_place false at) bytes e.stream rest p.0 o.1 comes in
    (none_from _ _ o.0 (none_from _ _ s.0 none_left), s.1, s.2)

-- each stream comes behind the one before
abbrev ComeFrom : Option Stream → List End → Type 0
ComeFrom last [] = Unit {0}
ComeFrom last (e ∷ es) = (comes_behind last e.stream ≡ true) × ComeFrom (Some e.stream) es

come_from : (e : End) (es : List End) → ends_rise (e ∷ es) ≡ true → ComeFrom (Some e.stream) es
come_from e [] h = tt
come_from e (f ∷ es) h =
    let both = and_parts (stream_lt e.stream f.stream) (ends_rise (f ∷ es)) h in
    (both.0, come_from f es both.1)

all_ends : (starts : Bool) (last : Option Stream) (at : ℕ) (bytes : List ℕ) (es : List End) (rest : List ℕ)
    → drop at bytes ≡ joined (map (end_bytes starts) es) ++ rest → ComeFrom last es → list_all is_end es ≡ true
    → (ends_damage (length es) starts last at bytes ≡ None) × (drop (ends_place (length es) starts at bytes) bytes ≡ rest)
all_ends starts last at bytes [] rest is come all = (refl, is)
all_ends starts last at bytes (e ∷ es) rest is come all =
    let both = and_parts (is_end e) (list_all is_end es) all in
    let one = one_end starts last at bytes e (joined (map (end_bytes starts) es) ++ rest) (is ∙ append_assoc (end_bytes starts e) (joined (map (end_bytes starts) es)) rest) both.0 come.0 in
    let place : ℕ = behind_stream (texts_place starts at) bytes in
    let more = all_ends starts (Some e.stream) place bytes es rest one.2 come.1 both.1 in
    (none_from _ _ one.0 (none_from _ _ (ap (λ s. ends_damage (length es) starts (Some s) place bytes) one.1 ∙ more.0) none_left), more.1)

-- ---- counts, and what stands behind the streams

module _ (at : ℕ) (bytes rest : List ℕ) (n : ℕ) (few : n < 4294967296) (is : drop at bytes ≡ be32 n ++ rest) where
  count_is : spelled_at at 4 bytes ≡ n
  count_is = ap (λ t. spelled (take 4 t)) is ∙ spelled-be32 n (omega arith)

  count_behind : drop (at + 4) bytes ≡ rest
  count_behind = sym (drop-drop 4 at bytes) ∙ ap (drop 4) is

  count_fine : count_damage at bytes ≡ None
  unfolding count_damage
  count_fine = let a = ap length is in let b = length-drop at bytes in true_unless _ at (le-leb (at + 4) (length bytes) (omega arith))

nothing_behind : (at : ℕ) (bytes : List ℕ) → drop at bytes ≡ [] → trailing_damage at bytes ≡ None
unfolding trailing_damage
nothing_behind at bytes none =
    let a = ap length none in
    let b = length-drop at bytes in
    true_unless _ at (ap not (le-ltb at (length bytes) (omega arith)))

aside_fine : (next : ℕ) (gs : List Segment) (at : ℕ) (bytes : List ℕ) (g : Segment) → drop at bytes ≡ segment_bytes g → is_aside next gs (Some g) ≡ true
    → (aside_damage next gs at bytes ≡ None) × (drop (at + 16) bytes ≡ [])
unfolding aside_damage
aside_fine next gs at bytes g e h =
    let p0 = and_parts (is_segment next g) (not (is_taken g.number gs)) h in
    let p1 = and_parts (is_count g.number) _ p0.0 in
    let p2 = and_parts (nat_lt g.number next) _ p1.1 in
    let p3 = and_parts (nat_le 96 g.length) (nat_lt g.length limit) p2.1 in
    let p4 = and_parts (nat_lt 0 g.number) (nat_lt g.number limit) p1.0 in
    let first : drop at bytes ≡ be64 g.number ++ be64 g.length = e in
    let second : drop (at + 8) bytes ≡ be64 g.length ++ [] = number_behind at bytes (be64 g.length) g.number first ∙ sym (append-nil (be64 g.length)) in
    let n = number_is at bytes (be64 g.length) g.number (ltb-true g.number limit p4.1) first in
    let l = number_is (at + 8) bytes [] g.length (ltb-true g.length limit p3.1) second in (
      none_from _ _ (true_unless _ at (and_from _ _ (number_has at bytes (be64 g.length) g.number first)
          (subst (λ k. (nat_lt 0 k && (nat_lt k next && not (is_taken k gs))) ≡ true) (sym n) (and_from _ _ p4.0 (and_from _ _ p2.0 p0.1)))))
          (none_from _ _ (true_unless _ (at + 8) (and_from _ _ (number_has (at + 8) bytes [] g.length second)
          (subst (λ k. (nat_le 96 k && nat_lt k limit) ≡ true) (sym l) p2.1))) none_left),
      ap (λ k. drop k bytes) (let z : at + 16 ≡ at + 8 + 8 = omega arith in z) ∙ number_behind (at + 8) bytes [] g.length second,
    )

tail_is_fine : (three : Bool) (next : ℕ) (gs : List Segment) (at : ℕ) (bytes : List ℕ) (o : Option Segment) → three ≡ not (is_nothing o)
    → drop at bytes ≡ aside_bytes o → is_aside next gs o ≡ true → tail_damage three next gs at bytes ≡ None
unfolding tail_damage
tail_is_fine true next gs at bytes None three is h = absurd (true≢false three)
tail_is_fine false next gs at bytes None three is h = nothing_behind at bytes is
tail_is_fine false next gs at bytes (Some g) three is h = absurd (true≢false (sym three))
tail_is_fine true next gs at bytes (Some g) three is h =
    let a = aside_fine next gs at bytes g is h in
    none_from _ _ a.0 (none_from _ _ (nothing_behind (at + 16) bytes a.1) none_left)

-- ---- the whole

-- the byte of a version says what the version has
version_says : (v : Version) (b : Book) → fits_version v b ≡ true
    → (nat_le 1 (version_byte v) ≡ true) × (nat_le (version_byte v) 3 ≡ true) × (nat_le 2 (version_byte v) ≡ has_starts v) × (nat_le 3 (version_byte v) ≡ not (is_nothing b.aside))
version_says One b fits = (refl, refl, refl, sym (ap not (and_parts (list_all begins_at_0 b.ends) (is_nothing b.aside) fits).1))
version_says Two b fits = (refl, refl, refl, sym (ap not fits))
version_says Three b fits = (refl, refl, refl, sym fits)

version_stands : (v : Version) (rest : List ℕ) → spelled_at 4 1 (codes "CHKB" ++ version_byte v ∷ rest) ≡ version_byte v
version_stands One rest = refl
version_stands Two rest = refl
version_stands Three rest = refl

head_stands : (w : ℕ) (rest : List ℕ) → spelled_at 4 1 (codes "CHKB" ++ w ∷ rest) ≡ w → nat_le 1 w ≡ true → nat_le w 3 ≡ true
    → head_damage (codes "CHKB" ++ w ∷ rest) ≡ None
unfolding head_damage
head_stands w rest is low high =
    true_unless _ 0 (and_from _ _ (le-leb 5 (length (codes "CHKB" ++ w ∷ rest)) (omega arith))
    (and_from _ _ refl (subst (λ k. (nat_le 1 k && nat_le k 3) ≡ true) (sym is) (and_from _ _ low high))))

next_stands : (bytes rest : List ℕ) (n : ℕ) → is_count n ≡ true → drop 5 bytes ≡ be64 n ++ rest → next_damage bytes ≡ None
unfolding next_damage
next_stands bytes rest n count is =
    let p = and_parts (nat_lt 0 n) (nat_lt n limit) count in
    true_unless _ 5 (and_from _ _ (number_has 5 bytes rest n is)
    (subst (λ k. (nat_lt 0 k && nat_lt k limit) ≡ true) (sym (number_is 5 bytes rest n (ltb-true n limit p.1) is)) count))

starts_from : (gs : List Segment) (next : ℕ) → segments_rise gs ≡ true → list_all (is_segment next) gs ≡ true → RiseFrom 0 gs
starts_from [] next rise all = tt
starts_from (g ∷ gs) next rise all =
    let one = (and_parts (is_segment next g) (list_all (is_segment next) gs) all).0 in
    let count = (and_parts (is_count g.number) _ one).0 in
    (ltb-true 0 g.number (and_parts (nat_lt 0 g.number) (nat_lt g.number limit) count).0, rise_from g gs rise)

comes_first : (es : List End) → ends_rise es ≡ true → ComeFrom None es
comes_first [] rise = tt
comes_first (e ∷ es) rise = (refl, come_from e es rise)

pub no_damage : (v : Version) (b : Book) → IsTrue (is_book v b) → book_damage (book_bytes v b) ≡ None
unfolding book_damage
no_damage v b h =
    let p1 = and_parts (is_count b.next) _ h in
    let p2 = and_parts (nat_lt (length b.segments) 4294967296) _ p1.1 in
    let p3 = and_parts (list_all (is_segment b.next) b.segments) _ p2.1 in
    let p4 = and_parts (segments_rise b.segments) _ p3.1 in
    let p5 = and_parts (nat_lt (length b.ends) 4294967296) _ p4.1 in
    let p6 = and_parts (list_all is_end b.ends) _ p5.1 in
    let p7 = and_parts (ends_rise b.ends) _ p6.1 in
    let p8 = and_parts (is_aside b.next b.segments b.aside) (fits_version v b) p7.1 in
    let bytes : List ℕ = book_bytes v b in
    let gs = b.segments in
    let es = b.ends in
    let starts = has_starts v in
    let tail : List ℕ = be32 (length es) ++ (joined (map (end_bytes starts) es) ++ aside_bytes b.aside) in
    let body : List ℕ = be32 (length gs) ++ (joined (map segment_bytes gs) ++ tail) in
    let says = version_says v b p8.1 in
    let w = version_stands v (be64 b.next ++ body) in
    let few : length gs < 4294967296 = ltb-true (length gs) 4294967296 p2.0 in
    let some : length es < 4294967296 = ltb-true (length es) 4294967296 p5.0 in
    let at5 : drop 5 bytes ≡ be64 b.next ++ body = refl in
    let n = number_is 5 bytes body b.next (ltb-true b.next limit (and_parts (nat_lt 0 b.next) (nat_lt b.next limit) p1.0).1) at5 in
    let at13 : drop 13 bytes ≡ body = number_behind 5 bytes body b.next at5 in
    let m = count_is 13 bytes (joined (map segment_bytes gs) ++ tail) (length gs) few at13 in
    let at17 = count_behind 13 bytes (joined (map segment_bytes gs) ++ tail) (length gs) few at13 in
    let segments = all_segments b.next 0 17 bytes gs tail at17 (starts_from gs b.next p4.0 p3.0) p3.0 in
    let from : ℕ = 17 + 16 * length gs in
    let e = count_is from bytes (joined (map (end_bytes starts) es) ++ aside_bytes b.aside) (length es) some segments.1 in
    let behind = count_behind from bytes (joined (map (end_bytes starts) es) ++ aside_bytes b.aside) (length es) some segments.1 in
    let ends = all_ends starts None (from + 4) bytes es (aside_bytes b.aside) behind (comes_first es p7.0) p6.0 in
    let s : nat_le 2 (spelled_at 4 1 bytes) ≡ starts = ap (nat_le 2) w ∙ says.2 in
    let there : segments_there (length gs) 17 bytes ≡ gs = segments.2 in
    none_from _ _ (head_stands (version_byte v) (be64 b.next ++ body) w says.0 says.1)
    (none_from _ _ (next_stands bytes body b.next p1.0 at5)
    (none_from _ _ (count_fine 13 bytes (joined (map segment_bytes gs) ++ tail) (length gs) few at13)
    (none_from _ _ (ap (λ k. segments_damage k (spelled_at 5 8 bytes) 0 17 bytes) m ∙ (ap (λ k. segments_damage (length gs) k 0 17 bytes) n ∙ segments.0))
    (none_from _ _ (ap (λ k. count_damage (17 + 16 * k) bytes) m ∙ count_fine from bytes (joined (map (end_bytes starts) es) ++ aside_bytes b.aside) (length es) some segments.1)
    (none_from _ _ (ap (λ k. ends_damage (spelled_at (17 + 16 * k) 4 bytes) (nat_le 2 (spelled_at 4 1 bytes)) None (17 + 16 * k + 4) bytes) m
    ∙ (ap (λ k. ends_damage k (nat_le 2 (spelled_at 4 1 bytes)) None (from + 4) bytes) e
    ∙ (ap (λ k. ends_damage (length es) k None (from + 4) bytes) s ∙ ends.0)))
    (none_from _ _
    (ap (λ k. tail_damage (nat_le 3 (spelled_at 4 1 bytes)) (spelled_at 5 8 bytes) (segments_there k 17 bytes)
    (ends_place (spelled_at (17 + 16 * k) 4 bytes) (nat_le 2 (spelled_at 4 1 bytes)) (17 + 16 * k + 4) bytes) bytes) m
    ∙ (ap (λ k. tail_damage (nat_le 3 (spelled_at 4 1 bytes)) k (segments_there (length gs) 17 bytes)
    (ends_place (spelled_at from 4 bytes) (nat_le 2 (spelled_at 4 1 bytes)) (from + 4) bytes) bytes) n
    ∙ (ap (λ k. tail_damage (nat_le 3 (spelled_at 4 1 bytes)) b.next k
    (ends_place (spelled_at from 4 bytes) (nat_le 2 (spelled_at 4 1 bytes)) (from + 4) bytes) bytes) there
    ∙ (ap (λ k. tail_damage (nat_le 3 (spelled_at 4 1 bytes)) b.next gs (ends_place k (nat_le 2 (spelled_at 4 1 bytes)) (from + 4) bytes) bytes) e
    ∙ (ap (λ k. tail_damage (nat_le 3 (spelled_at 4 1 bytes)) b.next gs (ends_place (length es) k (from + 4) bytes) bytes) s
    ∙ tail_is_fine (nat_le 3 (spelled_at 4 1 bytes)) b.next gs (ends_place (length es) starts (from + 4) bytes) bytes b.aside (ap (nat_le 3) w ∙ says.3) ends.1 p8.0)))))
    none_left))))))
