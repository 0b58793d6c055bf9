-- A key that is another one but for its sequence id.
use Rattle.std.proofs.Common.{◌≡◌, inl, inr, ℕ, ◌<◌, ◌≤◌, List, [], ◌∷◌, ◌++◌, length, drop, set, sym, ap, ◌∙◌, arith, length-append}
use Rattle.std.specs.Prelude.{IsTrue, slice_index}
use Rattle.std.proofs.lemmas.Bool.{and_parts, and_from}
use Rattle.std.proofs.lemmas.List.{get_or_append_left}
use Rattle.std.proofs.lemmas.List.Elements.{All-same, All-push, All-set, All-weaker}
use Rattle.chk_bytes.specs.Laws.{AreBytes}
use Rattle.chk_bytes.specs.Numbers.{be64, limit, spelled_at}
use Rattle.chk_chunk.specs.Keys.{Key, IsKey, is_key, fits_1, key_1, key_2, counted, counted_stream}
use Rattle.chk_chunk.proofs.HeadLemmas.{head_spelled}
use Rattle.chk_chunk.proofs.KeyLemmas.{key_facts, is_key-from_facts}
use Rattle.chk_record_index.specs.declared.origins.Origin.{Origin}
use Rattle.chk_record_index.specs.declared.recent.Recent.{Recent}
use Rattle.chk_record_index.specs.declared.recents.Recents.{Recents}
use Rattle.chk_record_index.specs.Recents.{IsSet}
use Rattle.chk_record_index.specs.HeadRows.{no_origin, HasOrigin, HasGrown, IsKept, AreKept, AreAlike, with_seq, IsNext}

first_byte : (bytes : List ℕ) → 0 < length bytes → spelled_at 0 1 bytes ≡ slice_index bytes 0
first_byte [] some = absurd (omega arith)
first_byte (b ∷ bytes) some = omega arith

-- what is alike is spelled alike
spelled_so : (last bytes rest : List ℕ) (version n : ℕ) → AreAlike last bytes → AreBytes bytes → last ≡ version ∷ (be64 n ++ rest)
    → bytes ≡ version ∷ (be64 (spelled_at 1 8 bytes) ++ rest)
spelled_so last bytes rest version n alike each is =
    let seq = be64 (spelled_at 1 8 bytes) in
    let long : 9 ≤ length bytes = omega (arith, alike.long, alike.size) in
    let first : spelled_at 0 1 bytes ≡ version =
    first_byte bytes (omega (arith, long)) ∙ (sym alike.first ∙ ap (λ l. slice_index l 0) is) in
    head_spelled 0 bytes each long
    ∙ (ap (λ v. v ∷ (seq ++ drop 9 bytes)) first ∙ ap (λ t. version ∷ (seq ++ t)) (sym alike.rest ∙ ap (drop 9) is))

valid_next : (k : Key) (seq : ℕ) → IsTrue (is_key k) → k.start < seq → seq < limit → IsTrue (is_key (with_seq seq k))
valid_next k seq valid started fits =
    let f = key_facts k valid in
    is_key-from_facts (with_seq seq k)
    record { stream = f.stream; cluster = f.cluster; low = f.low; started = started; fits = fits }

next_key : (last bytes : List ℕ) (k : Key) → AreAlike last bytes → AreBytes bytes → k.start < spelled_at 1 8 bytes
    → spelled_at 1 8 bytes < limit → IsKey k last → IsKey (with_seq (spelled_at 1 8 bytes) k) bytes
unfolding key_1 key_2
next_key last bytes k alike each started fits (inl one) =
    let p = and_parts (is_key k) (fits_1 k) one.0 in
    inl (
      and_from _ _ (valid_next k (spelled_at 1 8 bytes) p.0 started fits) p.1,
      spelled_so last bytes (counted_stream k.stream) 1 k.seq alike each one.1,
    )
next_key last bytes k alike each started fits (inr two) =
    inr (
      valid_next k (spelled_at 1 8 bytes) two.0 started fits,
      spelled_so last bytes (be64 k.start ++ (counted_stream k.stream ++ counted k.cluster)) 2 k.seq alike each two.1,
    )

-- alike bytes are the next of the recent ones, where the sequence id is in its bounds
pub is_next : (r : Recent) (bytes : List ℕ) (seq : ℕ) → AreAlike r.key bytes → AreBytes bytes → seq ≡ spelled_at 1 8 bytes
    → r.start < seq → seq < limit → IsNext r bytes seq
is_next r bytes seq alike each is started fits = record {
  some = omega (arith, alike.long);
  is = λ k key start. rw is (next_key r.key bytes k alike each (omega (arith, is, start, started)) (omega (arith, is, fits)) key);
}

-- an origin stays where it is when others are put behind
pub has_grown : (old new : List Origin) (i : ℕ) (k : Key) → HasGrown old new → HasOrigin old i k → HasOrigin new i k
has_grown old new i k grown has = rw grown.1 record {
  there = omega (arith, has.there, length-append old grown.0);
  is = get_or_append_left old grown.0 no_origin i has.there ∙ has.is;
}

-- a place without a key
pub empty_kept : (origins : List Origin) (r : Recent) → r.key ≡ [] → IsKept origins r
empty_kept origins r none some = absurd (omega (arith, ap length none, some))

-- a key that was set
pub set_kept : (origins : List Origin) (r : Recent) (k : Key) (bytes : List ℕ) (start n : ℕ) → IsKey k bytes → k.start ≡ start
    → HasOrigin origins n k → IsSet r bytes start n → IsKept origins r
set_kept origins r k bytes start n is begins has set some =
    (k, record { is = rw set.key_is is; start = begins ∙ sym set.start_is; origin = rw set.origin_is has })

-- the same places, one more without a key, and another key at one
pub kept_same : (origins : List Origin) (old new : Recents) → new.places.items ≡ old.places.items → AreKept origins old
    → AreKept origins new
kept_same origins old new same kept = record {
  each = All-same (IsKept origins) new.places.items old.places.items same kept.each;
}

pub kept_more : (origins : List Origin) (old new : Recents) (r : Recent) → new.places.items ≡ old.places.items ++ r ∷ []
    → r.key ≡ [] → AreKept origins old → AreKept origins new
kept_more origins old new r more none kept = record {
  each = All-same (IsKept origins) new.places.items (old.places.items ++ r ∷ []) more
      (All-push (IsKept origins) old.places.items r kept.each (empty_kept origins r none));
}

pub kept_set : (origins : List Origin) (old new : Recents) (place : ℕ) (r : Recent)
    → new.places.items ≡ set old.places.items place r → IsKept origins r → AreKept origins old → AreKept origins new
kept_set origins old new place r is key kept = record {
  each = All-same (IsKept origins) new.places.items (set old.places.items place r) is
      (All-set (IsKept origins) old.places.items place r key kept.each);
}

-- origins that are put behind change nothing of the kept keys
pub kept_grown : (old new : List Origin) (rs : Recents) → HasGrown old new → AreKept old rs → AreKept new rs
kept_grown old new rs grown kept = record {
  each = All-weaker (IsKept old) (IsKept new)
      (λ r was some. let p = was some in (
        p.0,
        record { is = p.1.is; start = p.1.start; origin = has_grown old new r.origin p.0 grown p.1.origin },
      ))
      rs.places.items kept.each;
}
