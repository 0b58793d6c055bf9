-- Streams that stand apart in the order.
use Rattle.std.proofs.Common.{◌≡◌, inl, inr, true, false, sym, ◌∙◌, true≢false, ◌||◌}
use Rattle.std.proofs.lemmas.Bool.{cases_Bool, or_parts}
use Rattle.std.specs.Prelude.{nat_lt, nat_eq, ◌&&◌}
use Rattle.chk_chunk.specs.Keys.{Stream, same_stream, stream_lt}
use Rattle.chk_record_index.proofs.Orders.{streams}
use Rattle.chk_record_index.specs.Heads.{Head}
use Rattle.chk_record_index.specs.Order.{head_before}

-- one that comes before another is not the same
pub apart : (a b : Stream) → stream_lt a b ≡ true → same_stream a b ≡ false
apart a b p = elim (cases_Bool (same_stream a b)) [
  | inr unlike ↦ unlike
  | inl same ↦ absurd (true≢false (sym p ∙ (streams.neither a b same).0))
]

pub apart_from : (a b : Stream) → stream_lt a b ≡ true → same_stream b a ≡ false
apart_from a b p = elim (cases_Bool (same_stream b a)) [
  | inr unlike ↦ unlike
  | inl same ↦ absurd (true≢false (sym p ∙ (streams.neither b a same).1))
]

pub behind_it : (a b : Stream) → same_stream b a ≡ false → stream_lt a b ≡ false → stream_lt b a ≡ true
behind_it a b other unlike = elim (cases_Bool (stream_lt b a)) [
  | inl h ↦ h
  | inr also ↦ absurd (true≢false (sym (streams.are_alike b a also unlike) ∙ other))
]

-- a stream that comes before another one isn't that one
pub not_of : (s t : Stream) → stream_lt t s ≡ true → same_stream s t ≡ false
not_of s t below = elim (cases_Bool (same_stream s t)) [
  | inr other ↦ other
  | inl same ↦ absurd (true≢false (sym below ∙ (streams.neither s t same).1))
]

pub stream_not_before : (h k : Head) → head_before k h ≡ false
    → stream_lt k.key.stream h.key.stream ≡ false
stream_not_before h k e =
    (or_parts (stream_lt k.key.stream h.key.stream)
    (same_stream k.key.stream h.key.stream
    && (nat_lt k.begin h.begin || (nat_eq k.begin h.begin && nat_lt k.key.seq h.key.seq))) e).0
