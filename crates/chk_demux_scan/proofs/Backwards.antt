-- Streams' records, followed from the newest one back.
use Rattle.std.proofs.Common.{◌≡◌, ◌<◌, ◌≤◌, ◌+◌, ◌-◌, inl, inr, ℕ, zero, suc, Bool, true, false, true≢false, List, [], ◌∷◌, ◌++◌, length, map, get_or, Some, None, refl, sym, ◌∙◌, ap, subst, arith, if◌then◌else◌, ◌&&◌, ◌==◌}
use Rattle.std.specs.Prelude.{IsTrue, nat_le}
use Rattle.std.proofs.lemmas.Bool.{cases_lt, and_parts, eqb-true}
use Rattle.std.specs.List.Sorted.{IsPartitionedBy, IsPartitionPoint}
use Rattle.std.proofs.lemmas.List.{get_or-map, length-map}
use Rattle.std.proofs.lemmas.Option.{none-some}
use Rattle.chk_chunk.specs.Keys.{Stream, stream_lt}
use Rattle.chk_world.specs.Books.{End, ends_rise}
use Rattle.chk_world.proofs.Each.{Each}
use Rattle.chk_world.proofs.NameTests.{streams_same}
use Rattle.chk_record_index.specs.Heads.{Head}
use Rattle.chk_book.specs.declared.lists.End.{End as EndStruct}
use Rattle.chk_book.specs.Views.{end_view}
use Rattle.chk_record_reader.specs.Courses.{is_head_of, is_end_of, end_of, goes_on, first_break, reached}
use Rattle.chk_record_reader.specs.OnePass.{no_end, end_at, AreOnce, IsListed}
use Rattle.chk_record_index.proofs.Orders.{streams}
use Rattle.chk_demux_scan.proofs.Streams.{AreRising}
use Rattle.chk_record_reader.proofs.OnePass.{rising_once, rising_more, stream_onward}
use Rattle.chk_demux_scan.specs.Backward.{begin_in, AllRunBack, AreBegins}

-- ---- ends in byte order are of one stream each

adjacent : (es : List End) → ends_rise es ≡ true → (i : ℕ) → suc i < length es
    → stream_lt (end_at es i).stream (end_at es (suc i)).stream ≡ true
adjacent [] r i low = absurd (let z : ⊥ = omega (arith, low) in z)
adjacent (e ∷ []) r i low = absurd (let z : ⊥ = omega (arith, low) in z)
adjacent (e ∷ f ∷ es) r zero low = (and_parts (stream_lt e.stream f.stream) (ends_rise (f ∷ es))
    r).0
adjacent (e ∷ f ∷ es) r (suc i) low =
    adjacent (f ∷ es) (and_parts (stream_lt e.stream f.stream) (ends_rise (f ∷ es)) r).1 i
    (omega (arith, low))

up_to : (es : List End) → ends_rise es ≡ true → (n : ℕ) → n ≤ length es → AreRising es n
up_to es r zero low = λ j k a b. absurd (let z : ⊥ = omega (arith, b) in z)
up_to es r (suc zero) low = λ j k a b. absurd (let z : ⊥ = omega (arith, a, b) in z)
up_to es r (suc (suc m)) low =
    let next = adjacent es r m (omega (arith, low)) in
    let before : suc m - 1 ≡ m = omega arith in
    subst (AreRising es) (let z : suc m + 1 ≡ suc (suc m) = omega arith in z)
    (rising_more es (suc m) (omega arith) (up_to es r (suc m) (omega (arith, low)))
    (subst (λ n. stream_lt (end_at es n).stream (end_at es (suc m)).stream ≡ true) (sym before)
    next))

pub rising : (es : List End) → IsTrue (ends_rise es) → AreRising es (length es)
rising es r = up_to es r (length es) (omega arith)

pub once : (es : List End) → IsTrue (ends_rise es) → AreOnce es
once es r = rising_once es (length es) (omega arith) (rising es r)

-- ---- the records of one stream

begins_at : (e : End) (from : ℕ) (h : Head) → goes_on e from h ≡ true → h.begin ≡ from
begins_at e from h on =
    let p = and_parts (h.key.start == e.start) (h.begin == from && nat_le h.key.seq e.end) on in
    eqb-true h.begin from (and_parts (h.begin == from) (nat_le h.key.seq e.end) p.1).0

-- where they run up to the end, they begin there
pub begins_so : (e : End) (b : ℕ) (hs : List Head) → first_break e.stream e b hs ≡ None
    → reached e.stream b hs ≡ e.end → b ≡ begin_in e hs
begins_so e b [] fine ends = ends
begins_so e b (h ∷ hs) fine ends =
    go (λ m f r. begins_so e m hs f r) (is_head_of e.stream h) (goes_on e b h) refl fine ends
  where
    go : ((m : ℕ) → first_break e.stream e m hs ≡ None → reached e.stream m hs ≡ e.end
        → m ≡ begin_in e hs)
        → (p g : Bool) → goes_on e b h ≡ g
        → (if p then (if g then first_break e.stream e h.key.seq hs else Some h) else first_break
        e.stream e b hs) ≡ None
        → (if p then reached e.stream h.key.seq hs else reached e.stream b hs) ≡ e.end
        → b ≡ (if p then h.begin else begin_in e hs)
    go rest true true on fine ends = sym (begins_at e b h on)
    go rest true false on fine ends = absurd (none-some h (sym fine))
    go rest false g on fine ends = rest b fine ends

-- they run up to the end from this place on
pub record Course (e : End) (b : ℕ) (hs : List Head) : Type 0 where
  pub fine : first_break e.stream e b hs ≡ None
  pub ends : reached e.stream b hs ≡ e.end

-- so do those behind some of them
pub course_behind : (e : End) (b : ℕ) (front rest : List Head)
    → first_break e.stream e b (front ++ rest) ≡ None
    → reached e.stream b (front ++ rest) ≡ e.end → (c : ℕ) × Course e c rest
course_behind e b [] rest fine ends = (b, record { fine = fine; ends = ends })
course_behind e b (h ∷ front) rest fine ends =
    go (λ m f r. course_behind e m front rest f r) (is_head_of e.stream h) (goes_on e b h) fine
    ends
  where
    go : ((m : ℕ) → first_break e.stream e m (front ++ rest) ≡ None
        → reached e.stream m (front ++ rest) ≡ e.end
        → (c : ℕ) × Course e c rest)
        → (p g : Bool)
        → (if p then (if g then first_break e.stream e h.key.seq (front ++ rest) else Some h)
        else first_break e.stream e b (front ++ rest)) ≡ None
        → (if p then reached e.stream h.key.seq (front ++ rest) else reached e.stream b
        (front ++ rest)) ≡ e.end
        → (c : ℕ) × Course e c rest
    go later true true fine ends = later h.key.seq fine ends
    go later true false fine ends = absurd (none-some h (sym fine))
    go later false g fine ends = later b fine ends

-- one of these is of a listed stream
listed_behind : (es : List End) (front rest : List Head) (h : Head)
    → Each (IsListed es) (front ++ h ∷ rest) → IsListed es h
listed_behind es [] rest h all = all.0
listed_behind es (x ∷ front) rest h all = listed_behind es front rest h all.1

-- the head isn't of a stream in the book
pub not_listed : (es : List End) (front later : List Head) (h : Head)
    → end_of h.key.stream es ≡ None
    → AllRunBack es (front ++ h ∷ later) → ⊥
not_listed es front later h none all = listed_behind es front later h all.listed none

-- ---- the same of the structs of ends

no_struct : EndStruct
no_struct = record { source = []; kind = []; name = []; start = 0; end = 0 }

within_view : (es : List EndStruct) (k : ℕ) → k < length es → k < length (map end_view es)
within_view es k low = let same = length-map es end_view in omega (arith, same, low)

-- ---- the place of a stream among ends in byte order

none_of : (s : Stream) (es : List End) → ((k : ℕ) → k < length es
    → is_end_of s (end_at es k) ≡ true → ⊥) → end_of s es ≡ None
none_of s [] none = refl
none_of s (e ∷ es) none = go (is_end_of s e) refl
    (none_of s es (λ k low is. none (suc k) (omega (arith, low)) is))
  where
    go : (b : Bool) → is_end_of s e ≡ b → end_of s es ≡ None
        → (if b then Some e else end_of s es) ≡ None
    go true is rest = absurd (none 0 (omega arith) is)
    go false is rest = rest

module _ (es : List EndStruct) (s : Stream) (rise : IsTrue (ends_rise (map end_view es))) where
  abbrev Before : EndStruct → Bool
  Before x = stream_lt (end_view x).stream s

  view_at : (k : ℕ) (d : EndStruct) → k < length es
      → end_at (map end_view es) k ≡ end_view (get_or es k d)
  view_at k d low = get_or-map end_view es k d no_end low

  pub parted : IsPartitionedBy Before es
  parted i j d low high on = elim (cases_lt i j) [
    | inl less ↦
        let first : stream_lt (end_view (get_or es i d)).stream (end_view (get_or es j d)).stream ≡
        true =
        subst (λ x. stream_lt x.stream (end_view (get_or es j d)).stream ≡ true)
        (view_at i d (omega (arith, less, high)))
        (subst (λ x. stream_lt (end_at (map end_view es) i).stream x.stream ≡ true)
        (view_at j d high)
        (rising (map end_view es) rise i j less (within_view es j high))) in
        stream_onward (end_view (get_or es i d)).stream (end_view (get_or es j d)).stream s first
        on
    | inr more ↦
        let here : i ≡ j = omega (arith, low, more) in
        subst (λ n. Before (get_or es n d) ≡ true) (sym here) on
  ]

  pub none_found : (i : ℕ) → i ≤ length es → IsPartitionPoint (λ x. Before x ≡ true)
      (λ x. Before x ≡ false) es i
      → (i < length es → is_end_of s (end_at (map end_view es) i) ≡ false)
      → end_of s (map end_view es) ≡ None
  none_found i most at other = none_of s (map end_view es)
      (λ k low is. go k (let same = length-map es end_view in omega (arith, same, low)) is)
    where
      go : (k : ℕ) → k < length es → is_end_of s (end_at (map end_view es) k) ≡ true → ⊥
      go k low is =
          let same : s ≡ (end_at (map end_view es) k).stream = streams_same s
          (end_at (map end_view es) k).stream is in
          elim (cases_lt k i) [
            | inl early ↦
                let before : stream_lt (end_at (map end_view es) k).stream s ≡ true =
                subst (λ x. stream_lt x.stream s ≡ true) (sym (view_at k no_struct low))
                (at.0 k no_struct (omega arith) early) in
                true≢false (sym before ∙ (streams.neither s (end_at (map end_view es) k).stream
                is).1)
            | inr late ↦ elim (cases_lt i k) [
              | inl behind ↦
                  let first : stream_lt (end_at (map end_view es) i).stream s ≡ true =
                  subst (λ t. stream_lt (end_at (map end_view es) i).stream t ≡ true) (sym same)
                  (rising (map end_view es) rise i k behind (within_view es k low)) in
                  let low_i : i < length es = omega (arith, behind, low) in
                  let not_so : stream_lt (end_at (map end_view es) i).stream s ≡ false =
                  subst (λ x. stream_lt x.stream s ≡ false) (sym (view_at i no_struct low_i))
                  (at.1 i no_struct (omega arith) low_i) in
                  true≢false (sym first ∙ not_so)
              | inr here ↦
                  let same_place : k ≡ i = omega (arith, late, here) in
                  let low_i : i < length es = omega (arith, same_place, low) in
                  true≢false (sym (subst (λ n. is_end_of s (end_at (map end_view es) n) ≡ true)
                  same_place is) ∙ other low_i)
            ]
          ]

-- ---- before any head is taken

pub none_taken : (es : List EndStruct) (begins : List ℕ)
    → begins ≡ map (λ (e : EndStruct). e.end) es
    → AreBegins (map end_view es) [] begins
none_taken es begins are = record {
  all = record { listed = tt; run = λ k below. record { unbroken = refl; reaches = refl } };
  are = λ k below.
      let within : k < length es = let same = length-map es end_view in omega (arith, same, below)
      in
      ap (λ l. get_or l k 0) are
      ∙ (get_or-map (λ (d : EndStruct). d.end) es k no_struct 0 within
      ∙ sym (ap (λ (d : End). d.end) (get_or-map end_view es k no_struct no_end within)));
}
