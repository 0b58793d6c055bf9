-- What stands in the fields of a book that aren't damaged.
use Rattle.std.proofs.Common.{◌≡◌, ℕ, ◌+◌, ◌≤◌, ◌<◌, Bool, true, false, not, List, [], ◌∷◌, ◌++◌, length, drop, Option, Some, None, refl, sym, ap, ◌∙◌, append_assoc, append-nil, arith}
use Rattle.std.specs.Prelude.{if◌then◌else◌, nat_lt, nat_le, ◌&&◌}
use Rattle.std.proofs.lemmas.Bool.{and_parts, ltb-true, ltb-false, leb-true, lt-ltb, and_from, eq-eqb}
use Rattle.std.proofs.lemmas.List.{take-append-drop, drop-drop, drop_all}
use Rattle.chk_bytes.specs.Laws.{AreBytes}
use Rattle.chk_bytes.specs.Numbers.{be32, be64, limit, spelled_at}
use Rattle.chk_chunk.specs.Keys.{Stream, start_limit, stream_at, behind_text, behind_stream, counted_stream, text_at}
use Rattle.chk_chunk.proofs.NumberLemmas.{be32-stands, be64-stands}
use Rattle.chk_chunk.proofs.FieldLemmas.{IsTextThere, IsStreamThere, stream_spelled}
use Rattle.chk_chunk.proofs.KeyLemmas.{is_stream-from_facts}
use Rattle.chk_bytes.specs.Words.{is_word}
use Rattle.chk_world.specs.Books.{Segment, End, segment_bytes, is_segment, is_aside}
use Rattle.chk_book.specs.Found.{IsEndAt, IsTailAt}
use Rattle.chk_book.specs.Damage.{first_damage, damage_unless, has, segment_damage, offsets_damage, start_there, end_place, texts_place, text_damage, stream_damage, comes_behind, end_damage, aside_damage, trailing_damage, tail_damage, is_taken}

-- the first of several places
pub none_parts : (f : Option ℕ) (fs : List (Option ℕ)) → first_damage (f ∷ fs) ≡ None → (f ≡ None) × (first_damage fs ≡ None)
unfolding first_damage
none_parts None fs h = (refl, h)
none_parts (Some at) fs h = absurd (cc)

pub none_from : (f : Option ℕ) (fs : List (Option ℕ)) → f ≡ None → first_damage fs ≡ None → first_damage (f ∷ fs) ≡ None
unfolding first_damage
none_from None fs e h = h
none_from (Some at) fs e h = absurd (cc)

pub none_left : first_damage [] ≡ None
unfolding first_damage
none_left = refl

pub first_skip : (f : Option ℕ) (fs : List (Option ℕ)) → f ≡ None → first_damage (f ∷ fs) ≡ first_damage fs
unfolding first_damage
first_skip None fs e = refl
first_skip (Some at) fs e = absurd (cc)

pub first_only : (f : Option ℕ) → first_damage (f ∷ []) ≡ f
unfolding first_damage
first_only None = refl
first_only (Some at) = refl

pub first_found : (f : Option ℕ) (fs : List (Option ℕ)) (at : ℕ) → f ≡ Some at → first_damage (f ∷ fs) ≡ Some at
unfolding first_damage
first_found None fs at e = absurd (cc)
first_found (Some other) fs at e = e

pub unless_true : (b : Bool) (at : ℕ) → damage_unless b at ≡ None → b ≡ true
unfolding damage_unless
unless_true true at h = refl
unless_true false at h = absurd (cc)

pub true_unless : (b : Bool) (at : ℕ) → b ≡ true → damage_unless b at ≡ None
unfolding damage_unless
true_unless true at h = refl
true_unless false at h = absurd (cc)

-- numbers
pub number_stands : (at : ℕ) (bytes : List ℕ) → AreBytes bytes → at + 8 ≤ length bytes
    → drop at bytes ≡ be64 (spelled_at at 8 bytes) ++ drop (at + 8) bytes
number_stands at bytes are fits =
    sym (take-append-drop 8 (drop at bytes))
    ∙ (ap (λ t. t ++ drop 8 (drop at bytes)) (sym (be64-stands at bytes are fits))
    ∙ ap (λ t. be64 (spelled_at at 8 bytes) ++ t) (drop-drop 8 at bytes))

pub count_stands : (at : ℕ) (bytes : List ℕ) → AreBytes bytes → at + 4 ≤ length bytes
    → drop at bytes ≡ be32 (spelled_at at 4 bytes) ++ drop (at + 4) bytes
count_stands at bytes are fits =
    sym (take-append-drop 4 (drop at bytes))
    ∙ (ap (λ t. t ++ drop 4 (drop at bytes)) (sym (be32-stands at bytes are fits))
    ∙ ap (λ t. be32 (spelled_at at 4 bytes) ++ t) (drop-drop 4 at bytes))

-- the segment that stands there
abbrev pub segment_there : ℕ → List ℕ → Segment
segment_there at bytes = record { number = spelled_at at 8 bytes; length = spelled_at (at + 8) 8 bytes }

pub record IsSegmentThere (next last at : ℕ) (bytes : List ℕ) : Type 0 where
  pub within : at + 16 ≤ length bytes
  pub past : last < spelled_at at 8 bytes
  pub sound : is_segment next (segment_there at bytes) ≡ true
  pub stands : drop at bytes ≡ segment_bytes (segment_there at bytes) ++ drop (at + 16) bytes

pub segment_fine : (next last at : ℕ) (bytes : List ℕ) → AreBytes bytes → next < limit → segment_damage next last at bytes ≡ None
    → IsSegmentThere next last at bytes
unfolding segment_damage
segment_fine next last at bytes are small h =
    let n : ℕ = spelled_at at 8 bytes in
    let l : ℕ = spelled_at (at + 8) 8 bytes in
    let a = none_parts _ _ h in
    let b = none_parts _ _ a.1 in
    let number = unless_true (has at 8 bytes && (nat_lt last n && nat_lt n next)) at a.0 in
    let size = unless_true (has (at + 8) 8 bytes && (nat_le 96 l && nat_lt l limit)) (at + 8) b.0 in
    let n1 = and_parts (has at 8 bytes) (nat_lt last n && nat_lt n next) number in
    let n2 = and_parts (nat_lt last n) (nat_lt n next) n1.1 in
    let s1 = and_parts (has (at + 8) 8 bytes) (nat_le 96 l && nat_lt l limit) size in
    let within : at + 8 + 8 ≤ length bytes = leb-true (at + 8 + 8) (length bytes) s1.0 in
    let past : last < n = ltb-true last n n2.0 in
    let below : n < next = ltb-true n next n2.1 in
    record {
      within = omega arith;
      past = past;
      sound = and_from _ _ (and_from _ _ (lt-ltb 0 n (omega arith)) (lt-ltb n limit (omega arith))) (and_from _ _ n2.1 s1.1);
      stands = number_stands at bytes are (omega arith)
          ∙ (ap (λ t. be64 n ++ t) (number_stands (at + 8) bytes are within ∙ ap (λ k. be64 l ++ drop k bytes) (let e : at + 8 + 8 ≡ at + 16 = omega arith in e))
          ∙ sym (append_assoc (be64 n) (be64 l) (drop (at + 16) bytes)));
    }

-- a word, and a stream's three
pub text_fine : (at : ℕ) (bytes : List ℕ) → text_damage at bytes ≡ None → IsTextThere at bytes
unfolding text_damage
text_fine at bytes h =
    let size : ℕ = spelled_at at 2 bytes in
    let a = none_parts _ _ h in
    let b = none_parts _ _ a.1 in
    let text = and_parts (has (at + 2) size bytes) (is_word (text_at at bytes)) (unless_true _ (at + 2) b.0) in
    record { word = text.1; within = leb-true (at + 2 + size) (length bytes) text.0 }

pub stream_fine : (last : Option Stream) (at : ℕ) (bytes : List ℕ) → stream_damage last at bytes ≡ None
    → IsStreamThere at bytes × (comes_behind last (stream_at at bytes) ≡ true)
unfolding stream_damage
stream_fine last at bytes h =
    let kind_at : ℕ = behind_text at bytes in
    let name_at : ℕ = behind_text kind_at bytes in
    let a = none_parts _ _ h in
    let b = none_parts _ _ a.1 in
    let c = none_parts _ _ b.1 in
    let d = none_parts _ _ c.1 in
    let e = none_parts _ _ d.1 in
    let f = none_parts _ _ e.1 in
    let source = text_fine at bytes a.0 in
    let kind = text_fine kind_at bytes c.0 in
    let name = text_fine name_at bytes e.0 in (
      record {
        words = is_stream-from_facts (stream_at at bytes) record { source = source.word; kind = kind.word; name = name.word };
        within = name.within;
      },
      unless_true (comes_behind last (stream_at at bytes)) (name_at + 2) f.0,
    )

-- the stream with its offsets that stands there
abbrev pub end_there : Bool → ℕ → List ℕ → End
end_there starts at bytes = record {
  stream = stream_at (texts_place starts at) bytes;
  start = start_there starts at bytes;
  end = spelled_at (end_place starts at) 8 bytes;
}

pub record AreOffsetsThere (starts : Bool) (at : ℕ) (bytes : List ℕ) : Type 0 where
  pub sound : (nat_lt (start_there starts at bytes) start_limit && (nat_le (start_there starts at bytes) (spelled_at (end_place starts at) 8 bytes)
      && nat_lt (spelled_at (end_place starts at) 8 bytes) limit)) ≡ true
  pub stands : (rest : List ℕ) → drop (texts_place starts at) bytes ≡ rest
      → drop at bytes ≡ (if starts then be64 (start_there starts at bytes) else []) ++ (be64 (spelled_at (end_place starts at) 8 bytes) ++ rest)
  pub zero_start : starts ≡ false → start_there starts at bytes ≡ 0

pub offsets_fine : (starts : Bool) (at : ℕ) (bytes : List ℕ) → AreBytes bytes → offsets_damage starts at bytes ≡ None → AreOffsetsThere starts at bytes
unfolding offsets_damage
offsets_fine true at bytes are h =
    let start : ℕ = spelled_at at 8 bytes in
    let end : ℕ = spelled_at (at + 8) 8 bytes in
    let a = none_parts _ _ h in
    let b = none_parts _ _ a.1 in
    let first = and_parts (has at 8 bytes) (nat_lt start start_limit) (unless_true (has at 8 bytes && nat_lt start start_limit) at a.0) in
    let second = and_parts (has (at + 8) 8 bytes) (nat_le start end && nat_lt end limit) (unless_true (has (at + 8) 8 bytes && (nat_le start end && nat_lt end limit)) (at + 8) b.0) in
    record {
      sound = and_from _ _ first.1 second.1;
      stands = λ rest e.
          number_stands at bytes are (leb-true (at + 8) (length bytes) first.0)
          ∙ ap (λ t. be64 start ++ t) (number_stands (at + 8) bytes are (leb-true (at + 8 + 8) (length bytes) second.0) ∙ ap (λ t. be64 end ++ t) e);
      zero_start = λ e. absurd (cc);
    }
offsets_fine false at bytes are h =
    let end : ℕ = spelled_at at 8 bytes in
    let a = none_parts _ _ h in
    let b = none_parts _ _ a.1 in
    let second = and_parts (has at 8 bytes) (nat_le 0 end && nat_lt end limit) (unless_true (has at 8 bytes && (nat_le 0 end && nat_lt end limit)) at b.0) in
    record {
      sound = second.1;
      stands = λ rest e. number_stands at bytes are (leb-true (at + 8) (length bytes) second.0) ∙ ap (λ t. be64 end ++ t) e;
      zero_start = λ e. refl;
    }

pub end_fine : (starts : Bool) (last : Option Stream) (at : ℕ) (bytes : List ℕ) (behind : ℕ) → AreBytes bytes → offsets_damage starts at bytes ≡ None
    → stream_damage last (texts_place starts at) bytes ≡ None → behind ≡ behind_stream (texts_place starts at) bytes → behind ≤ length bytes
    → IsEndAt starts last at bytes (end_there starts at bytes) behind
unfolding end_damage
end_fine starts last at bytes behind are offsets stream place within =
    let o = offsets_fine starts at bytes are offsets in
    let s = stream_fine last (texts_place starts at) bytes stream in
    record {
      fine = none_from _ _ offsets (none_from _ _ stream none_left);
      is = refl;
      place = place;
      within = within;
      stands = o.stands (counted_stream (stream_at (texts_place starts at) bytes) ++ drop behind bytes)
          (stream_spelled (texts_place starts at) bytes are s.0.within
          ∙ ap (λ k. counted_stream (stream_at (texts_place starts at) bytes) ++ drop k bytes) (sym place))
          ∙ parted (if starts then be64 (start_there starts at bytes) else []) (be64 (spelled_at (end_place starts at) 8 bytes))
          (counted_stream (stream_at (texts_place starts at) bytes)) (drop behind bytes);
      sound = and_from _ _ s.0.words o.sound;
      zero_start = λ e. eq-eqb (start_there starts at bytes) 0 (o.zero_start e);
      comes = s.1;
    }
  where
    parted : (a b c rest : List ℕ) → a ++ (b ++ (c ++ rest)) ≡ (a ++ (b ++ c)) ++ rest
    parted a b c rest = sym (append_assoc a (b ++ c) rest ∙ ap (λ t. a ++ t) (append_assoc b c rest))

-- the aside segment, and the end of the bytes
nothing_left : (at : ℕ) (bytes : List ℕ) → trailing_damage at bytes ≡ None → drop at bytes ≡ []
unfolding trailing_damage
nothing_left at bytes h =
    let n : length bytes ≤ at = ltb-false at (length bytes) (not_true (nat_lt at (length bytes)) (unless_true (not (nat_lt at (length bytes))) at h)) in
    drop_all at bytes n
  where
    not_true : (b : Bool) → not b ≡ true → b ≡ false
    not_true true e = absurd (cc)
    not_true false e = refl

pub no_aside : (aside : Bool) (next : ℕ) (gs : List Segment) (at : ℕ) (bytes : List ℕ) → aside ≡ false → trailing_damage at bytes ≡ None
    → IsTailAt aside next gs at bytes None
unfolding tail_damage
no_aside true next gs at bytes none h = absurd (cc)
no_aside false next gs at bytes none h = record { fine = h; stands = nothing_left at bytes h; sound = refl; there = refl }

aside_sound : (next : ℕ) (gs : List Segment) (at : ℕ) (bytes : List ℕ) → next < limit → aside_damage next gs at bytes ≡ None
    → is_aside next gs (Some (segment_there at bytes)) ≡ true
unfolding aside_damage
aside_sound next gs at bytes small h =
    let n : ℕ = spelled_at at 8 bytes in
    let l : ℕ = spelled_at (at + 8) 8 bytes in
    let a = none_parts _ _ h in
    let b = none_parts _ _ a.1 in
    let number = and_parts (has at 8 bytes) _ (unless_true (has at 8 bytes && (nat_lt 0 n && (nat_lt n next && not (is_taken n gs)))) at a.0) in
    let size = and_parts (has (at + 8) 8 bytes) _ (unless_true (has (at + 8) 8 bytes && (nat_le 96 l && nat_lt l limit)) (at + 8) b.0) in
    let n1 = and_parts (nat_lt 0 n) _ number.1 in
    let n2 = and_parts (nat_lt n next) (not (is_taken n gs)) n1.1 in
    let below : n < next = ltb-true n next n2.0 in
    and_from _ _ (and_from _ _ (and_from _ _ n1.0 (lt-ltb n limit (omega arith))) (and_from _ _ n2.0 size.1)) n2.1

pub some_aside : (aside : Bool) (next : ℕ) (gs : List Segment) (at : ℕ) (bytes : List ℕ) → AreBytes bytes → next < limit → aside ≡ true
    → at + 16 ≤ length bytes → aside_damage next gs at bytes ≡ None → trailing_damage (at + 16) bytes ≡ None
    → IsTailAt aside next gs at bytes (Some (segment_there at bytes))
unfolding tail_damage
some_aside false next gs at bytes are small some within h t = absurd (cc)
some_aside true next gs at bytes are small some within h t = record {
  fine = none_from _ _ h (none_from _ _ t none_left);
  stands = number_stands at bytes are (omega arith)
      ∙ (ap (λ r. be64 (spelled_at at 8 bytes) ++ r) (number_stands (at + 8) bytes are (omega arith)
      ∙ ap (λ r. be64 (spelled_at (at + 8) 8 bytes) ++ r) (ap (λ k. drop k bytes) (let e : at + 8 + 8 ≡ at + 16 = omega arith in e) ∙ nothing_left (at + 16) bytes t))
      ∙ ap (λ r. be64 (spelled_at at 8 bytes) ++ r) (append-nil (be64 (spelled_at (at + 8) 8 bytes))));
  sound = aside_sound next gs at bytes small h;
  there = refl;
}
