-- What an entry that is a record says by its numbers.
use Rattle.std.proofs.Common.{◌≡◌, ℕ, ◌+◌, ◌-◌, ◌^◌, ◌≤◌, Bool, true, false, cond, ltb, leb, eqb, ◌==◌, ◌&&◌, ◌||◌, bytes_eq, List, length, take, drop, arith, refl, ap, sym, ◌∙◌}
use Rattle.std.proofs.lemmas.List.{length-take-le, length-drop}
use Rattle.std.proofs.lemmas.Bool.{ltb-false, or_parts}
use Rattle.chk_bytes.specs.Numbers.{spelled_at}
use Rattle.chk_seqfile.specs.Entries.{RecordEntry, entry_at, sync_or_not}
use Rattle.chk_seqfile.proofs.FoundEntries.{passed, sync_no_record}

-- its two numbers are those of its parts, all of it is there, and its value stands behind its key
pub record IsSized (bytes key value : List ℕ) : Type 0 where
  pub whole : spelled_at 0 4 bytes ≡ 8 + length key + length value
  pub key_part : spelled_at 4 4 bytes ≡ 4 + length key
  pub fits : 16 + length key + length value ≤ length bytes
  pub value_is : take (spelled_at 0 4 bytes - spelled_at 4 4 bytes - 4) (drop
      (12 + spelled_at 4 4 bytes) bytes) ≡ value

held : {X : Type 0} (b : Bool) (x y z : X) → cond b x y ≡ z → (y ≡ z → ⊥) → x ≡ z
held true x y z e other = e
held false x y z e other = absurd (other e)

pub record_sized : (marker bytes key value : List ℕ) → entry_at marker bytes
    ≡ RecordEntry key value → IsSized bytes key value
unfolding entry_at
record_sized marker bytes key value read =
    let r : ℕ = spelled_at 0 4 bytes in
    let k : ℕ = spelled_at 4 4 bytes in
    let a = passed (length bytes == 0) _ _ _ read (λ e. cc) in
    let b = passed (ltb (length bytes) 4) _ _ _ a.1 (λ e. cc) in
    let c = passed (r == 0xFFFFFFFF) _ _ _ b.1 (λ e. sync_no_record marker bytes key value e) in
    let d = passed (leb (2 ^ 31) r) _ _ _ c.1 (λ e. cc) in
    let f = passed (ltb (length bytes) 8) _ _ _ d.1 (λ e. cc) in
    let g = passed (ltb r k || (ltb k 4 || ltb (r - k) 4)) _ _ _ f.1 (λ e. cc) in
    let h = passed (ltb (length bytes) (8 + r)) _ _ _ g.1 (λ e. cc) in
    let i = held (eqb (spelled_at 8 4 bytes + 4) k && eqb (spelled_at (8 + k) 4 bytes + 4)
    (r - k)) _ _ _ h.1 (λ e. cc) in
    let lengths = or_parts (ltb r k) (ltb k 4 || ltb (r - k) 4) g.0 in
    let parts = or_parts (ltb k 4) (ltb (r - k) 4) lengths.1 in
    let within : k ≤ r = ltb-false r k lengths.0 in
    let some : 4 ≤ k = ltb-false k 4 parts.0 in
    let rest_some : 4 ≤ r - k = ltb-false (r - k) 4 parts.1 in
    let room : 8 + r ≤ length bytes = ltb-false (length bytes) (8 + r) h.0 in
    let key_is : take (k - 4) (drop 12 bytes) ≡ key = cc in
    let value_is : take (r - k - 4) (drop (12 + k) bytes) ≡ value = cc in
    let key_long : k - 4 ≡ length key =
    sym (length-take-le (k - 4) (drop 12 bytes) (omega (arith, length-drop 12 bytes)))
    ∙ ap length key_is in
    let value_long : r - k - 4 ≡ length value =
    sym (length-take-le (r - k - 4) (drop (12 + k) bytes) (omega (
      arith,
      length-drop
          (12 + k) bytes,
    ))) ∙ ap length value_is in
    record {
      whole = omega arith;
      key_part = omega arith;
      fits = omega arith;
      value_is = value_is;
    }
