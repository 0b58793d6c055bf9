-- A stream's heads stand together among heads in order, and the rest of them gives it nothing.
use Rattle.std.proofs.Common.{◌≡◌, inl, inr, ℕ, zero, suc, ◌+◌, ◌-◌, ◌<◌, ◌≤◌, Bool, true, false, ◌&&◌, ◌||◌, List, [], ◌∷◌, length, take, ap, sym, subst, ◌∙◌, refl, arith, true≢false}
use Rattle.std.specs.Prelude.{nat_lt, nat_eq}
use Rattle.std.proofs.lemmas.Bool.{and_left, or_parts, cases_Bool}
use Rattle.std.proofs.lemmas.List.{take_all}
use Rattle.chk_chunk.specs.Keys.{Stream, Chunk, same_stream, stream_lt}
use Rattle.chk_world.specs.Books.{End}
use Rattle.chk_world.specs.Sight.{Sight}
use Rattle.chk_world.specs.TrueBooks.{HasBytes}
use Rattle.chk_world.proofs.Each.{Each}
use Rattle.chk_world.proofs.NameTests.{streams_same}
use Rattle.chk_record_index.specs.Heads.{Head}
use Rattle.chk_record_index.specs.Order.{no_head, head_before, in_head_order}
use Rattle.chk_record_index.proofs.Orders.{WeakOrder, lex, through, tested_through, numbers, streams}
use Rattle.chk_record_index.proofs.Sorting.{Sorted, sort_sorted}
use Rattle.chk_archive_plan.specs.Passes.{head_in}
use Rattle.chk_archive_plan.proofs.Bridges.{each_index}
use Rattle.chk_record_reader.specs.Courses.{is_head_of}
use Rattle.chk_archive_parts.specs.Records.{AreRecords}
use Rattle.chk_demux.specs.Splitting.{past_in, StreamsRise, FirstStands, HoldsStream}
use Rattle.chk_demux.proofs.Places.{not_past, same_size}

-- ---- the order of heads

pub heads_ordered : WeakOrder head_before
heads_ordered =
    lex (λ (h k : Head). stream_lt h.key.stream k.key.stream) (λ (h k : Head). same_stream h.key.stream k.key.stream)
    (λ (h k : Head). nat_lt h.begin k.begin || (nat_eq h.begin k.begin && nat_lt h.key.seq k.key.seq))
    (tested_through (λ (h : Head). h.key.stream) stream_lt same_stream streams)
    (lex (λ (h k : Head). nat_lt h.begin k.begin) (λ (h k : Head). nat_eq h.begin k.begin)
    (λ (h k : Head). nat_lt h.key.seq k.key.seq) (tested_through (λ (h : Head). h.begin) nat_lt nat_eq numbers)
    (through (λ (h : Head). h.key.seq) nat_lt numbers.order))

rise_of : (hs : List Head) → Sorted head_before hs → StreamsRise hs
rise_of [] o i j low high = absurd (let z : ⊥ = omega (arith, high) in z)
rise_of (h ∷ hs) o i zero low high = absurd (let z : ⊥ = omega (arith, low) in z)
rise_of (h ∷ hs) o zero (suc j) low high =
    (or_parts (stream_lt (head_in hs j).key.stream h.key.stream) _
    (each_index (λ k. head_before k h ≡ false) hs o.0 j (omega (arith, high)) no_head)).0
rise_of (h ∷ hs) o (suc i) (suc j) low high = rise_of hs o.1 i j (omega (arith, low)) (omega (arith, high))

pub streams_rise : (hs : List Head) → StreamsRise (in_head_order hs)
streams_rise hs = rise_of (in_head_order hs) (sort_sorted head_before heads_ordered hs)

-- ---- the heads of one stream

module _ (heads : List Head) (rise : StreamsRise heads) (s : Stream) where
  -- between two of them stands no other one
  none_between : (i j k : ℕ) → i < j → j < k → k < length heads → is_head_of s (head_in heads i) ≡ true
      → is_head_of s (head_in heads j) ≡ false → is_head_of s (head_in heads k) ≡ true → ⊥
  none_between i j k low high room one other last =
      let t : Stream = (head_in heads j).key.stream in
      let after : stream_lt t s ≡ false =
      subst (λ x. stream_lt t x ≡ false) (sym (streams_same s (head_in heads i).key.stream one))
      (rise i j low (omega (arith, high, room))) in
      let before : stream_lt s t ≡ false =
      subst (λ x. stream_lt x t ≡ false) (sym (streams_same s (head_in heads k).key.stream last)) (rise j k high room) in
      true≢false (sym (streams.are_alike s t before after) ∙ other)

  pub holds_all : (first past : ℕ) → FirstStands heads s first → first < past
      → (past < length heads → is_head_of s (head_in heads past) ≡ false) → HoldsStream heads s first past
  holds_all first past stands some next = record {
    before = λ k low. elim (cases_Bool (is_head_of s (head_in heads k))) [
      | inr other ↦ other
      | inl own ↦ absurd (earlier k low own)
    ];
    behind = λ k high room. elim (cases_Bool (is_head_of s (head_in heads k))) [
      | inr other ↦ other
      | inl own ↦ absurd (later k high room own)
    ];
  }
    where
      earlier : (k : ℕ) → k < first → is_head_of s (head_in heads k) ≡ true → ⊥
      earlier k low own =
          let there = stands.there in
          let other = stands.first (omega (arith, low)) in
          go (nat_eq k (first - 1)) refl other
        where
          go : (b : Bool) → nat_eq k (first - 1) ≡ b → is_head_of s (head_in heads (first - 1)) ≡ false → ⊥
          go true same other =
              let is : k ≡ first - 1 = grind (arith, same) in
              true≢false (sym own ∙ (ap (λ n. is_head_of s (head_in heads n)) is ∙ other))
          go false apart other =
              let there = stands.there in
              let below : k < first - 1 = grind (arith, apart, low) in
              none_between k (first - 1) first below (omega (arith, low)) there own other stands.own

      later : (k : ℕ) → past ≤ k → k < length heads → is_head_of s (head_in heads k) ≡ true → ⊥
      later k high room own =
          go (nat_eq k past) refl (next (omega (arith, high, room)))
        where
          go : (b : Bool) → nat_eq k past ≡ b → is_head_of s (head_in heads past) ≡ false → ⊥
          go true same other =
              let is : k ≡ past = grind (arith, same) in
              true≢false (sym own ∙ (ap (λ n. is_head_of s (head_in heads n)) is ∙ other))
          go false apart other =
              let above : past < k = grind (arith, apart, high) in
              none_between first past k some above room stands.own other own

pub holds_any : (heads : List Head) (s : Stream) → HoldsStream heads s 0 (length heads)
holds_any heads s = record {
  before = λ k low. absurd (let z : ⊥ = omega (arith, low) in z);
  behind = λ k high low. absurd (let z : ⊥ = omega (arith, high, low) in z);
}

-- ---- what the others give

module _ (v : Sight) (files : List (List ℕ)) (heads : List Head) (cs : List Chunk) (e : End) (from : ℕ)
    (records : AreRecords v files heads cs) (bytes : Each HasBytes cs) where
  abbrev Past : ℕ → List ℕ
  Past n = past_in from e.stream (take n cs)

  one_other : (i : ℕ) → i < length heads → is_head_of e.stream (head_in heads i) ≡ false → Past (i + 1) ≡ Past i
  one_other i low other =
      not_past v files heads cs e from records bytes i low
      (and_left (is_head_of e.stream (head_in heads i)) (nat_lt from (head_in heads i).key.seq) other)

  pub others_give : (i n : ℕ) → i + n ≤ length heads
      → ((k : ℕ) → i ≤ k → k < i + n → is_head_of e.stream (head_in heads k) ≡ false) → Past (i + n) ≡ Past i
  others_give i zero low other = ap Past (let z : i + 0 ≡ i = omega arith in z)
  others_give i (suc n) low other =
      ap Past (let z : i + suc n ≡ i + n + 1 = omega arith in z)
      ∙ (one_other (i + n) (omega (arith, low)) (other (i + n) (omega arith) (omega arith))
      ∙ others_give i n (omega (arith, low)) (λ k a b. other k a (omega (arith, b))))

  -- nothing stands before the stream's first head, and nothing behind its last one
  module _ (first past : ℕ) (low : first ≤ past) (high : past ≤ length heads)
      (holds : HoldsStream heads e.stream first past) where
    pub none_before : past_in from e.stream (take first cs) ≡ []
    none_before =
        ap Past (let z : first ≡ 0 + first = omega arith in z)
        ∙ others_give 0 first (omega (arith, low, high)) (λ k a b. holds.before k (omega (arith, b)))

    pub none_behind : past_in from e.stream cs ≡ past_in from e.stream (take past cs)
    none_behind =
        let size = same_size v files heads cs e from records bytes in
        ap (past_in from e.stream)
        (sym (take_all (past + (length heads - past)) cs (omega (arith, size, high))))
        ∙ others_give past (length heads - past) (omega (arith, high))
        (λ k a b. holds.behind k a (omega (arith, b, high)))
