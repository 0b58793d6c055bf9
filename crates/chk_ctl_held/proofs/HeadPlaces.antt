-- Heads in order: their streams rise, and where those of one stream stand.
use Rattle.std.proofs.Common.{◌≡◌, ◌⊎◌, ◌∙◌, inl, inr, ℕ, zero, suc, ◌+◌, ◌-◌, ◌/◌, ◌<◌, ◌≤◌, Bool, true, false, ◌||◌, ◌&&◌, List, [], ◌∷◌, length, drop, ap, sym, subst, refl, arith, true≢false}
use Rattle.std.specs.Prelude.{if◌then◌else◌, nat_lt, nat_eq}
use Rattle.std.proofs.lemmas.Bool.{cases_Bool, or_parts}
use Rattle.std.proofs.lemmas.List.{drop_more}
use Rattle.chk_chunk.specs.Keys.{Stream, same_stream, stream_lt}
use Rattle.chk_world.proofs.Each.{Each}
use Rattle.chk_world.proofs.NameTests.{streams_same}
use Rattle.chk_record_index.specs.Heads.{Head}
use Rattle.chk_record_index.specs.Order.{head_before, head_in, in_head_order, no_head}
use Rattle.chk_record_index.proofs.Orders.{WeakOrder, lex, tested_through, numbers, streams}
use Rattle.chk_record_index.proofs.Sorting.{Sorted, sort_sorted}
use Rattle.chk_ctl_held.specs.declared.spans.Span.{Span}
use Rattle.chk_ctl_held.specs.Elsewhere.{Gap, clipped, waiting_from, with_span}
use Rattle.chk_ctl_held.specs.Order.{stream_in, IsPlaceOf, StreamsRise}
use Rattle.chk_record_index.proofs.Apart.{not_of}

-- ---- the streams of heads in order rise

by_stream : WeakOrder head_before
by_stream =
    lex (λ (a b : Head). stream_lt a.key.stream b.key.stream)
    (λ (a b : Head). same_stream a.key.stream b.key.stream)
    (λ (a b : Head). nat_lt a.begin b.begin
    || (nat_eq a.begin b.begin && nat_lt a.key.seq b.key.seq))
    (tested_through (λ (a : Head). a.key.stream) stream_lt same_stream streams)
    (lex (λ (a b : Head). nat_lt a.begin b.begin) (λ (a b : Head). nat_eq a.begin b.begin)
    (λ (a b : Head). nat_lt a.key.seq b.key.seq)
    (tested_through (λ (a : Head). a.begin) nat_lt nat_eq numbers)
    (tested_through (λ (a : Head). a.key.seq) nat_lt nat_eq numbers).order)

each_in : (P : Head → Type 0) (hs : List Head) → Each P hs → (j : ℕ) → j < length hs
    → P (head_in hs j)
each_in P [] all j low = absurd (let z : ⊥ = omega (arith, low) in z)
each_in P (h ∷ hs) all zero low = all.0
each_in P (h ∷ hs) all (suc j) low = each_in P hs all.1 j (omega (arith, low))

sorted_rise : (hs : List Head) → Sorted head_before hs → StreamsRise hs
sorted_rise [] sorted i j less within = absurd (let z : ⊥ = omega (arith, within) in z)
sorted_rise (h ∷ hs) sorted i zero less within = absurd (let z : ⊥ = omega (arith, less) in z)
sorted_rise (h ∷ hs) sorted zero (suc j) less within =
    (or_parts (stream_lt (stream_in hs j) h.key.stream) _
    (each_in (λ (k : Head). head_before k h ≡ false) hs sorted.0 j (omega (arith, within)))).0
sorted_rise (h ∷ hs) sorted (suc i) (suc j) less within =
    sorted_rise hs sorted.1 i j (omega (arith, less)) (omega (arith, within))

pub heads_rise : (hs : List Head) → StreamsRise (in_head_order hs)
heads_rise hs = sorted_rise (in_head_order hs) (sort_sorted head_before by_stream hs)

-- heads that are those in order
pub rises_so : (hs sorted : List Head) → sorted ≡ in_head_order hs → StreamsRise sorted
rises_so hs sorted is = subst StreamsRise (sym is) (heads_rise hs)

pub none_rise : (hs : List Head) → hs ≡ [] → StreamsRise hs
none_rise hs is =
    subst StreamsRise (sym is) (λ i j less within. absurd (let z : ⊥ = omega (arith, within) in z))

-- ---- halves

same_or_more : (at k : ℕ) → at ≤ k → (at ≡ k) ⊎ (at < k)
same_or_more at k h = grind arith

pub middle_low : (low high : ℕ) → low < high → low + (high - low) / 2 < high
middle_low low high less = omega (arith, less)

-- the streams up to one that comes before this one do so, too
pub all_before : (heads : List Head) (s : Stream) (at : ℕ) → StreamsRise heads → at < length heads
    → stream_lt (stream_in heads at) s ≡ true
    → (k : ℕ) → k < at + 1 → stream_lt (stream_in heads k) s ≡ true
all_before heads s at rise within below k less =
    go (same_or_more k at (omega (arith, less)))
  where
    go : (k ≡ at) ⊎ (k < at) → stream_lt (stream_in heads k) s ≡ true
    go (inl same) = subst (λ (n : ℕ). stream_lt (stream_in heads n) s ≡ true) (sym same) below
    go (inr early) = elim (cases_Bool (stream_lt (stream_in heads k) s)) [
      | inl is_so ↦ is_so
      | inr not_so ↦
          absurd
          (true≢false
          (sym below
          ∙ streams.order.onward (stream_in heads at) (stream_in heads k) s
          (rise k at early within) not_so))
    ]

-- and those from one on that doesn't
pub all_behind : (heads : List Head) (s : Stream) (at : ℕ) → StreamsRise heads
    → stream_lt (stream_in heads at) s ≡ false
    → (k : ℕ) → at ≤ k → k < length heads → stream_lt (stream_in heads k) s ≡ false
all_behind heads s at rise there k low high = go (same_or_more at k low)
  where
    go : (at ≡ k) ⊎ (at < k) → stream_lt (stream_in heads k) s ≡ false
    go (inl same) = subst (λ (n : ℕ). stream_lt (stream_in heads n) s ≡ false) same there
    go (inr less) =
        streams.order.onward (stream_in heads k) (stream_in heads at) s (rise at k less high) there

-- ---- the chunks of one stream

-- behind one of another stream, that doesn't come before this one, there is none of this one
pub none_behind : (heads : List Head) (s : Stream) (first at : ℕ) → StreamsRise heads
    → IsPlaceOf heads s first → first ≤ at → at < length heads
    → same_stream s (stream_in heads at) ≡ false
    → (k : ℕ) → at ≤ k → k < length heads → same_stream s (stream_in heads k) ≡ false
none_behind heads s first at rise place from within other k low high =
    go (same_or_more at k low)
  where
    go : (at ≡ k) ⊎ (at < k) → same_stream s (stream_in heads k) ≡ false
    go (inl same) = subst (λ (n : ℕ). same_stream s (stream_in heads n) ≡ false) same other
    go (inr less) = elim (cases_Bool (same_stream s (stream_in heads k))) [
      | inr apart ↦ apart
      | inl same ↦
          let is : s ≡ stream_in heads k = streams_same s (stream_in heads k) same in
          let above : stream_lt s (stream_in heads at) ≡ false =
          subst (λ (t : Stream). stream_lt t (stream_in heads at) ≡ false) (sym is)
          (rise at k less high) in
          absurd
          (true≢false
          (sym (streams.are_alike s (stream_in heads at) above (place.behind at from within))
          ∙ other))
    ]

by_one : (gap : Gap) (all : Span) (h : Head) (hs : List Head) (b : Bool)
    → same_stream gap.stream h.key.stream ≡ b
    → waiting_from gap all (h ∷ hs)
    ≡ waiting_from gap (if b then with_span all (clipped gap.from gap.to h.begin h.key.seq) else all)
    hs
by_one gap all h hs b is =
    ap (λ (t : Bool). waiting_from gap
    (if t then with_span all (clipped gap.from gap.to h.begin h.key.seq) else all) hs) is

no_more : (gap : Gap) (all : Span) (hs : List Head)
    → ((k : ℕ) → k < length hs → same_stream gap.stream (stream_in hs k) ≡ false)
    → waiting_from gap all hs ≡ all
no_more gap all [] none = refl
no_more gap all (h ∷ hs) none =
    by_one gap all h hs false (none 0 (omega arith))
    ∙ no_more gap all hs (λ k low. none (suc k) (omega (arith, low)))

-- from this place on there is none
pub none_left : (gap : Gap) (all : Span) (heads : List Head) (n : ℕ)
    → ((k : ℕ) → n ≤ k → k < length heads → same_stream gap.stream (stream_in heads k) ≡ false)
    → waiting_from gap all (drop n heads) ≡ all
none_left gap all heads zero none = no_more gap all heads (λ k low. none k (omega arith) low)
none_left gap all [] (suc n) none = refl
none_left gap all (h ∷ hs) (suc n) none =
    none_left gap all hs n (λ k from low. none (suc k) (omega (arith, from)) (omega (arith, low)))

-- before this place there is none
pub skipped : (gap : Gap) (all : Span) (heads : List Head) (n : ℕ)
    → ((k : ℕ) → k < n → stream_lt (stream_in heads k) gap.stream ≡ true) → n ≤ length heads
    → waiting_from gap all (drop n heads) ≡ waiting_from gap all heads
skipped gap all heads zero before most = refl
skipped gap all [] (suc n) before most = refl
skipped gap all (h ∷ hs) (suc n) before most =
    skipped gap all hs n (λ k low. before (suc k) (omega (arith, low))) (omega (arith, most))
    ∙ sym (by_one gap all h hs false (not_of gap.stream h.key.stream (before 0 (omega arith))))

-- one more of them
pub one_more : (gap : Gap) (all : Span) (heads : List Head) (n : ℕ) → n < length heads
    → same_stream gap.stream (stream_in heads n) ≡ true
    → waiting_from gap (with_span all
    (clipped gap.from gap.to (head_in heads n).begin (head_in heads n).key.seq))
    (drop (n + 1) heads)
    ≡ waiting_from gap all (drop n heads)
one_more gap all heads n low same =
    sym (ap (waiting_from gap all) (drop_more heads n no_head low)
    ∙ by_one gap all (head_in heads n) (drop (n + 1) heads) true same)
