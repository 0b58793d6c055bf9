-- The first head of a stream among heads in order.
use Rattle.std.proofs.Common.{◌≡◌, inl, inr, ℕ, zero, suc, ◌+◌, ◌-◌, ◌<◌, Bool, true, false, ◌&&◌, ◌||◌, List, [], ◌∷◌, length, ap, sym, subst, ◌∙◌, refl, arith, true≢false, if◌then◌else◌}
use Rattle.std.specs.Prelude.{nat_eq, nat_lt}
use Rattle.std.proofs.lemmas.Bool.{or_parts, cases_Bool}
use Rattle.chk_chunk.specs.Keys.{Stream, same_stream, stream_lt}
use Rattle.chk_world.proofs.NameTests.{streams_same}
use Rattle.chk_record_index.specs.Heads.{Head}
use Rattle.chk_record_index.specs.Order.{no_head, head_before, in_head_order, of_one_stream}
use Rattle.chk_record_index.proofs.Orders.{WeakOrder, lex, through, tested_through, numbers, streams}
use Rattle.chk_record_index.proofs.Sorting.{Sorted, sort_sorted}
use Rattle.chk_archive_plan.specs.Passes.{head_in}
use Rattle.chk_archive_plan.specs.declared.spans.Known.{Known}
use Rattle.chk_archive_plan.specs.Starts.{first_start, stream_start, HasStart}
use Rattle.chk_archive_plan.proofs.Bridges.{each_index}
use Rattle.chk_archive_plan.proofs.Parts.{stream_self}

heads_ordered : WeakOrder head_before
heads_ordered =
    lex (λ (h k : Head). stream_lt h.key.stream k.key.stream)
    (λ (h k : Head). same_stream h.key.stream k.key.stream)
    (λ (h k : Head). nat_lt h.begin k.begin || (nat_eq h.begin k.begin && nat_lt h.key.seq k.key.seq))
    (tested_through (λ (h : Head). h.key.stream) stream_lt same_stream streams)
    (lex (λ (h k : Head). nat_lt h.begin k.begin) (λ (h k : Head). nat_eq h.begin k.begin)
    (λ (h k : Head). nat_lt h.key.seq k.key.seq)
    (tested_through (λ (h : Head). h.begin) nat_lt nat_eq numbers)
    (through (λ (h : Head). h.key.seq) nat_lt numbers.order))

-- no head's stream stands before that of an earlier one
abbrev Rise : List Head → Type 0
Rise heads =
    (i j : ℕ) → i < j → j < length heads
    → stream_lt (head_in heads j).key.stream (head_in heads i).key.stream ≡ false

rise_of : (hs : List Head) → Sorted head_before hs → Rise hs
rise_of [] o i j low high = absurd (let z : ⊥ = omega (arith, high) in z)
rise_of (h ∷ hs) o i zero low high = absurd (let z : ⊥ = omega (arith, low) in z)
rise_of (h ∷ hs) o zero (suc j) low high =
    (or_parts (stream_lt (head_in hs j).key.stream h.key.stream) _
    (each_index (λ k. head_before k h ≡ false) hs o.0 j (omega (arith, high)) no_head)).0
rise_of (h ∷ hs) o (suc i) (suc j) low high =
    rise_of hs o.1 i j (omega (arith, low)) (omega (arith, high))

streams_rise : (hs : List Head) → Rise (in_head_order hs)
streams_rise hs = rise_of (in_head_order hs) (sort_sorted head_before heads_ordered hs)

-- where another stream begins no head in front is of it
none_before : (heads : List Head) → Rise heads → (i k : ℕ) → 0 < i → i < length heads → k < i
    → of_one_stream (head_in heads (i - 1)) (head_in heads i) ≡ false
    → same_stream (head_in heads i).key.stream (head_in heads k).key.stream ≡ false
none_before heads rise i k some low below other =
    elim (cases_Bool (same_stream (head_in heads i).key.stream (head_in heads k).key.stream)) [
      | inr apart ↦ apart
      | inl same ↦ absurd (never (streams_same (head_in heads i).key.stream (head_in heads k).key.stream same))
    ]
  where
    s : Stream
    s = (head_in heads i).key.stream

    t : Stream
    t = (head_in heads (i - 1)).key.stream

    late : (head_in heads i).key.stream ≡ (head_in heads k).key.stream
        → (b : Bool) → nat_eq k (i - 1) ≡ b
        → stream_lt (head_in heads (i - 1)).key.stream (head_in heads i).key.stream ≡ false
    late is true at =
        let there : k ≡ i - 1 = grind (arith, at) in
        let one : s ≡ t = is ∙ ap (λ n. (head_in heads n).key.stream) there in
        subst (λ u. stream_lt (head_in heads (i - 1)).key.stream u ≡ false) (sym one)
        (streams.neither t t (stream_self t)).0
    late is false at =
        let early : k < i - 1 = grind (arith, at, below) in
        subst (λ u. stream_lt (head_in heads (i - 1)).key.stream u ≡ false) (sym is)
        (rise k (i - 1) early (omega (arith, low)))

    never : (head_in heads i).key.stream ≡ (head_in heads k).key.stream → ⊥
    never is =
        true≢false
        (sym
        (streams.are_alike (head_in heads (i - 1)).key.stream (head_in heads i).key.stream
        (late is (nat_eq k (i - 1)) refl) (rise (i - 1) i (omega (arith, some)) low))
        ∙ other)

first_there : (hs : List Head) (i : ℕ) (s : Stream) → i < length hs
    → ((k : ℕ) → k < i → same_stream s (head_in hs k).key.stream ≡ false)
    → same_stream s (head_in hs i).key.stream ≡ true → first_start s hs ≡ (head_in hs i).key.start
first_there [] i s low none is = absurd (let z : ⊥ = omega (arith, low) in z)
first_there (h ∷ hs) zero s low none is =
    ap (λ b. if b then h.key.start else first_start s hs) is
first_there (h ∷ hs) (suc i) s low none is =
    ap (λ b. if b then h.key.start else first_start s hs) (none zero (omega arith))
    ∙ first_there hs i s (omega (arith, low)) (λ k l. none (suc k) (omega (arith, l))) is

-- the head that stands behind one of another stream, or in front of all, is its stream's first
pub first_at : (found heads : List Head) (i : ℕ) → heads ≡ in_head_order found → i < length heads
    → (0 < i → of_one_stream (head_in heads (i - 1)) (head_in heads i) ≡ false)
    → first_start (head_in heads i).key.stream heads ≡ (head_in heads i).key.start
first_at found heads i are low other =
    first_there heads i (head_in heads i).key.stream low
    (λ k below. none_before heads (subst Rise (sym are) (streams_rise found)) i k
    (omega (arith, below)) low below (other (omega (arith, below))))
    (stream_self (head_in heads i).key.stream)

-- ---- one head more

module _ (ks : List Known) (heads : List Head) (i start : ℕ)
    (is : start ≡ stream_start ks heads (head_in heads i).key.stream) where
  pub has_not : nat_eq (head_in heads i).key.start start ≡ false → HasStart ks heads i → ⊥
  has_not apart has =
      let same : (head_in heads i).key.start ≡ start = has ∙ sym is in
      let z : ⊥ = grind (arith, apart, same) in z

  pub has_more : nat_eq (head_in heads i).key.start start ≡ true
      → ((k : ℕ) → k < i → HasStart ks heads k) → (k : ℕ) → k < i + 1 → HasStart ks heads k
  has_more alike before k low = go (nat_eq k i) refl
    where
      go : (b : Bool) → nat_eq k i ≡ b → HasStart ks heads k
      go true at =
          let there : k ≡ i = grind (arith, at) in
          let same : (head_in heads i).key.start ≡ start = grind (arith, alike) in
          subst (λ n. HasStart ks heads n) (sym there) (same ∙ is)
      go false at =
          let early : k < i = grind (arith, at, low) in
          before k early
