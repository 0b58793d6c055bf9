-- Where a stream's heads stand among heads in order.
use Rattle.std.proofs.Common.{◌≡◌, ◌⊎◌, inl, inr, ℕ, ◌-◌, ◌<◌, ◌≤◌, Bool, true, false, List, length, sym, subst, ◌∙◌, refl, arith, true≢false}
use Rattle.chk_chunk.specs.Keys.{Stream, same_stream, stream_lt}
use Rattle.chk_world.proofs.NameTests.{streams_same}
use Rattle.chk_record_index.specs.Heads.{Head}
use Rattle.chk_record_index.proofs.Orders.{streams}
use Rattle.chk_join_sources.specs.Blocks.{stream_in, StreamsRise, IsPlaceOf, StandsAt, EndsAt, HoldsStream}
use Rattle.chk_record_index.proofs.Apart.{not_of}

-- of one that isn't below
not_below : (a b c : Stream) → stream_lt b a ≡ false → stream_lt b c ≡ true → stream_lt a c ≡ true
not_below a b c rise below = go (stream_lt a c) refl
  where
    go : (t : Bool) → stream_lt a c ≡ t → stream_lt a c ≡ true
    go true e = e
    go false e = absurd (true≢false (sym below ∙ streams.order.onward b a c rise e))

same_or_less : (k n : ℕ) → k < n → (k ≡ n - 1) ⊎ (k < n - 1)
same_or_less k n h = grind arith

same_or_more : (at k : ℕ) → at ≤ k → (at ≡ k) ⊎ (at < k)
same_or_more at k h = grind arith

pub all_behind : (heads : List Head) (s : Stream) (at : ℕ) → StreamsRise heads
    → (at < length heads → stream_lt (stream_in heads at) s ≡ false)
    → (k : ℕ) → at ≤ k → k < length heads → stream_lt (stream_in heads k) s ≡ false
all_behind heads s at rise there k low high = go (same_or_more at k low)
  where
    go : (at ≡ k) ⊎ (at < k) → stream_lt (stream_in heads k) s ≡ false
    go (inl same) = subst (λ (n : ℕ). stream_lt (stream_in heads n) s ≡ false) same (there (omega (arith, same, high)))
    go (inr less) =
        streams.order.onward (stream_in heads k) (stream_in heads at) s (rise at k less high) (there (omega (arith, less, high)))

pub stands_so : (heads : List Head) (s : Stream) (at : ℕ) → StreamsRise heads → StandsAt heads s at → IsPlaceOf heads s at
stands_so heads s at rise stands = record {
  before = λ k less. go k less (same_or_less k at less);
  behind = all_behind heads s at rise stands.there;
}
  where
    go : (k : ℕ) → k < at → (k ≡ at - 1) ⊎ (k < at - 1) → stream_lt (stream_in heads k) s ≡ true
    go k less (inl same) =
        subst (λ (n : ℕ). stream_lt (stream_in heads n) s ≡ true) (sym same) (stands.front (omega (arith, less)))
    go k less (inr below) =
        let in_list = stands.within in
        not_below (stream_in heads k) (stream_in heads (at - 1)) s
        (rise k (at - 1) below (omega (arith, less, in_list))) (stands.front (omega (arith, less)))

pub found_first : (heads : List Head) (s : Stream) (at : ℕ) → StreamsRise heads
    → ((k : ℕ) → k < at → stream_lt (stream_in heads k) s ≡ true)
    → (at < length heads → stream_lt (stream_in heads at) s ≡ false) → IsPlaceOf heads s at
found_first heads s at rise before there = record { before = before; behind = all_behind heads s at rise there }

pub block_holds : (heads : List Head) (s : Stream) (first past : ℕ) → StreamsRise heads → IsPlaceOf heads s first
    → first ≤ past → EndsAt heads s past → HoldsStream heads s first past
block_holds heads s first past rise place low ends = record {
  before = λ k less. not_of s (stream_in heads k) (place.before k less);
  behind = λ k from high. go k high (same_or_more past k from) (same_stream s (stream_in heads k)) refl;
}
  where
    go : (k : ℕ) → k < length heads → (past ≡ k) ⊎ (past < k) → (b : Bool) → same_stream s (stream_in heads k) ≡ b
        → same_stream s (stream_in heads k) ≡ false
    go k high more false e = e
    go k high (inl same) true e =
        subst (λ (n : ℕ). same_stream s (stream_in heads n) ≡ false) same (ends (omega (arith, same, high)))
    go k high (inr less) true e =
        let within : past < length heads = omega (arith, less, high) in
        let is : s ≡ stream_in heads k = streams_same s (stream_in heads k) e in
        let above : stream_lt s (stream_in heads past) ≡ false =
        subst (λ (t : Stream). stream_lt t (stream_in heads past) ≡ false) (sym is) (rise past k less high) in
        absurd (true≢false
        (sym (streams.are_alike s (stream_in heads past) above (place.behind past low within)) ∙ ends within))
