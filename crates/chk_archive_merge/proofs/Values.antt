-- The record that a cursor holds stands in the file, with its value.
use Rattle.std.proofs.Common.{◌≡◌, ℕ, ◌+◌, ◌-◌, ◌≤◌, Bool, true, false, List, [], ◌∷◌, ◌++◌, length, take, drop, Option, Some, None, sym, ◌∙◌, ap, ap₂, subst, arith, append_assoc}
use Rattle.std.proofs.lemmas.List.{take-append-drop, take-append-le, length-drop, drop-append-le}
use Rattle.std.proofs.lemmas.Option.{same_Some, none-some}
use Rattle.chk_bytes.specs.Numbers.{spelled}
use Rattle.chk_chunk.specs.Keys.{Key, Chunk, has_value, read_key}
use Rattle.chk_seqfile.specs.Entries.{Placed}
use Rattle.chk_salvage.specs.Feeding.{fed_place}
use Rattle.chk_world.specs.Books.{chunk_of, chunk_with, chunk_if}
use Rattle.chk_world.proofs.Each.{Each}
use Rattle.chk_record_reader.specs.Spans.{record_size, key_size}
use Rattle.chk_record_reader.specs.ReadBack.{value_at}
use Rattle.chk_record_reader.proofs.Records.{Stands, records_stand}
use Rattle.chk_archive_merge.specs.declared.cursor.Cursor.{Cursor}
use Rattle.chk_archive_merge.specs.Cursors.{HasGone, StandsBehind, at_record, at_end}
use Rattle.chk_archive_merge.specs.Merges.{IsBehind}

-- what stands in a front of some bytes
in_front : (n k : ℕ) (a b : List ℕ) → k + n ≤ length a → take n (drop k (a ++ b)) ≡ take n (drop k a)
in_front n k a b low =
    let room = length-drop k a in
    ap (take n) (drop-append-le k a b (omega (arith, low))) ∙ take-append-le n (drop k a) b (omega (arith, low, room))

value_longer : (a b : List ℕ) (r : Placed) → Stands a r → value_at r.at (a ++ b) ≡ r.value
value_longer a b r s =
    let fits = s.fits in
    let whole = s.whole in
    let part = s.key_part in
    let size : record_size r.at (a ++ b) ≡ record_size r.at a = ap spelled (in_front 4 r.at a b (omega (arith, fits))) in
    let key : key_size r.at (a ++ b) ≡ key_size r.at a = ap spelled (in_front 4 (r.at + 4) a b (omega (arith, fits))) in
    ap₂ (λ m n. take (m - n - 4) (drop (r.at + 12 + n) (a ++ b))) size key
    ∙ (in_front (record_size r.at a - key_size r.at a - 4) (r.at + 12 + key_size r.at a) a b (omega (arith, fits, whole, part)) ∙ s.value_is)

last_each : {X : Type 0} (P : X → Type 0) (xs : List X) (x : X) → Each P (xs ++ x ∷ []) → P x
last_each P [] x all = all.0
last_each P (y ∷ xs) x all = last_each P xs x all.1

-- the chunk of a record has its value
chunk_value : (most : ℕ) (o : Option Key) (value : List ℕ) (d : Chunk) → chunk_with most o value ≡ Some d → d.value ≡ value
chunk_value most None value d is = absurd (none-some d is)
chunk_value most (Some k) value d is = go (has_value most k value) is
  where
    go : (b : Bool) → chunk_if b k value ≡ Some d → d.value ≡ value
    go true e = sym (ap (λ (c : Chunk). c.value) (same_Some (record { key = k; value = value }) d e))
    go false e = absurd (none-some d e)

stands_in : (bytes : List ℕ) (c : Cursor) (done : List Placed) (r : Placed) → HasGone bytes c (done ++ r ∷ []) → value_at r.at bytes ≡ r.value
stands_in bytes c done r g =
    let front : List ℕ = take (fed_place c.pieces) g.fed in
    let stand : Stands front r = last_each (Stands front) done r (subst (Each (Stands front)) g.gone (records_stand front)) in
    let split : bytes ≡ front ++ (drop (fed_place c.pieces) g.fed ++ g.front.0) =
    g.front.1 ∙ (ap (λ l. l ++ g.front.0) (sym (take-append-drop (fed_place c.pieces) g.fed))
    ∙ append_assoc front (drop (fed_place c.pieces) g.fed) g.front.0) in
    ap (value_at r.at) split ∙ value_longer front (drop (fed_place c.pieces) g.fed ++ g.front.0) r stand

-- where it went on, the record that it held is behind it
pub is_behind : (most : ℕ) (bytes : List ℕ) (old new : Cursor) (d : Chunk) (done : List Placed) → old.held ≡ true
    → chunk_with most (read_key old.key) old.value ≡ Some d
    → ((records : List Placed) → HasGone bytes old records → StandsBehind bytes new records)
    → StandsBehind bytes old done → IsBehind most bytes d done new
is_behind most bytes old new d done held is on (at_end none form all) = absurd (let e : true ≡ false = sym held ∙ none in let z : ⊥ = cc in z)
is_behind most bytes old new d done held is on (at_record r holds key value gone) =
    let chunk : chunk_of most r ≡ Some d = ap₂ (λ k v. chunk_with most (read_key k) v) key value ∙ is in
    record {
      r = r;
      is = chunk;
      value = stands_in bytes old done r gone ∙ sym (chunk_value most (read_key r.key) r.value d chunk);
      stands = on (done ++ r ∷ []) gone;
    }
