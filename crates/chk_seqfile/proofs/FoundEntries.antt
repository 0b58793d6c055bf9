-- What is read as an entry stands there, byte for byte, and what else an answer tells.
use Rattle.std.proofs.Common.{◌≡◌, ℕ, ◌+◌, ◌-◌, ◌^◌, ◌<◌, ◌≤◌, Bool, true, false, cond, ltb, leb, eqb, ◌==◌, ◌&&◌, ◌||◌, bytes_eq, List, [], ◌∷◌, ◌++◌, length, take, drop, subst, ⊎_elim, arith, refl, ap, ap₂, sym, ◌∙◌}
use Rattle.std.proofs.lemmas.List.{length-take-le, length-drop, take-append-drop, drop-drop, get_or-take, get_or-drop, get_or_past, append_assoc}
use Rattle.std.proofs.lemmas.Bool.{ltb-true, cond_both, ltb-false, leb-false, eqb-true, or_parts, and_parts, cases_lt}
use Rattle.std.proofs.lemmas.Slice.Eq.{bytes_eq-Decides}
use Rattle.chk_bytes.specs.Laws.{AreBytes}
use Rattle.chk_bytes.specs.Numbers.{be32, spelled_at, with_length}
use Rattle.chk_bytes.proofs.NumberLemmas.{be32-spelled}
use Rattle.chk_seqfile.specs.declared.entries.Why.TheVariants.{Torn, BadLength}
use Rattle.chk_seqfile.specs.Entries.{Entry, NoEntry, SyncEntry, RecordEntry, Damaged, sync_entry, record_entry, size_of_record, entry_at, sync_or_not, record_of}

-- the lengths with which a record was read
record ReadRecord (bytes key value : List ℕ) : Type 0 where
  r : ℕ
  k : ℕ
  whole : spelled_at 0 4 bytes ≡ r
  key_part : spelled_at 4 4 bytes ≡ k
  small : r < 2 ^ 31
  some : 4 ≤ k
  more : k + 4 ≤ r
  fits : 8 + r ≤ length bytes
  key_size : spelled_at 8 4 bytes + 4 ≡ k
  value_size : spelled_at (8 + k) 4 bytes + 4 + k ≡ r
  key_is : take (k - 4) (drop 12 bytes) ≡ key
  value_is : take (r - k - 4) (drop (12 + k) bytes) ≡ value

-- where another answer would have been given, the test was false
pub passed : {X : Type 0} (b : Bool) (x y z : X) → cond b x y ≡ z → (x ≡ z → ⊥) → (b ≡ false) × (y ≡ z)
passed true x y z e other = absurd (other e)
passed false x y z e other = (refl, e)

held : {X : Type 0} (b : Bool) (x y z : X) → cond b x y ≡ z → (y ≡ z → ⊥) → (b ≡ true) × (x ≡ z)
held true x y z e other = (refl, e)
held false x y z e other = absurd (other e)

pub sync_no_record : (marker bytes key value : List ℕ) → sync_or_not marker bytes ≡ RecordEntry key value → ⊥
sync_no_record marker bytes key value read =
    let long = passed (ltb (length bytes) 20) _ _ _ read (λ e. cc) in
    let other = passed (bytes_eq (take 16 (drop 4 bytes)) marker) _ _ _ long.1 (λ e. cc) in
    let wrong = other.1 in cc

record_was_read : (marker bytes key value : List ℕ) → entry_at marker bytes ≡ RecordEntry key value → ReadRecord bytes key value
unfolding entry_at
record_was_read marker bytes key value read =
    let r : ℕ = spelled_at 0 4 bytes in
    let k : ℕ = spelled_at 4 4 bytes in
    let a = passed (length bytes == 0) _ _ _ read (λ e. cc) in
    let b = passed (ltb (length bytes) 4) _ _ _ a.1 (λ e. cc) in
    let c = passed (r == 0xFFFFFFFF) _ _ _ b.1 (λ e. sync_no_record marker bytes key value e) in
    let d = passed (leb (2 ^ 31) r) _ _ _ c.1 (λ e. cc) in
    let f = passed (ltb (length bytes) 8) _ _ _ d.1 (λ e. cc) in
    let g = passed (ltb r k || (ltb k 4 || ltb (r - k) 4)) _ _ _ f.1 (λ e. cc) in
    let h = passed (ltb (length bytes) (8 + r)) _ _ _ g.1 (λ e. cc) in
    let i = held (eqb (spelled_at 8 4 bytes + 4) k && eqb (spelled_at (8 + k) 4 bytes + 4) (r - k)) _ _ _ h.1 (λ e. cc) in
    let lengths = or_parts (ltb r k) (ltb k 4 || ltb (r - k) 4) g.0 in
    let parts = or_parts (ltb k 4) (ltb (r - k) 4) lengths.1 in
    let sizes = and_parts (eqb (spelled_at 8 4 bytes + 4) k) (eqb (spelled_at (8 + k) 4 bytes + 4) (r - k)) i.0 in
    let within : k ≤ r = ltb-false r k lengths.0 in
    let rest_some : 4 ≤ r - k = ltb-false (r - k) 4 parts.1 in
    let value_size : spelled_at (8 + k) 4 bytes + 4 ≡ r - k = eqb-true (spelled_at (8 + k) 4 bytes + 4) (r - k) sizes.1 in
    record {
      r = r;
      k = k;
      whole = refl;
      key_part = refl;
      small = leb-false (2 ^ 31) r d.0;
      some = ltb-false k 4 parts.0;
      more = omega arith;
      fits = ltb-false (length bytes) (8 + r) h.0;
      key_size = eqb-true (spelled_at 8 4 bytes + 4) k sizes.0;
      value_size = omega arith;
      key_is = cc;
      value_is = cc;
    }

-- four bytes from a place are those of the number that they spell
four_at : (at : ℕ) (bytes : List ℕ) → AreBytes bytes → at + 4 ≤ length bytes → be32 (spelled_at at 4 bytes) ≡ take 4 (drop at bytes)
four_at at bytes are within =
    let size : length (take 4 (drop at bytes)) ≡ 4 = length-take-le 4 (drop at bytes) (omega (arith, length-drop at bytes)) in
    be32-spelled (take 4 (drop at bytes)) size (λ i. ⊎_elim
    (λ inside. rw (get_or-take 4 (drop at bytes) i 0 inside, get_or-drop at bytes i 0) (are (at + i)))
    (λ past. rw (get_or_past (take 4 (drop at bytes)) i 0 (omega arith)) (omega arith))
    (cases_lt i 4))

-- what stands from a place on, in two parts
pub parted : (n m : ℕ) (bytes : List ℕ) → drop n bytes ≡ take m (drop n bytes) ++ drop (n + m) bytes
parted n m bytes = sym (take-append-drop m (drop n bytes)) ∙ ap (λ x. take m (drop n bytes) ++ x) (drop-drop m n bytes)

-- a record that was read stands there
pub record_found : (marker bytes key value : List ℕ) → AreBytes bytes → entry_at marker bytes ≡ RecordEntry key value
    → (8 + length key + length value < 2 ^ 31) × (bytes ≡ record_entry key value ++ drop (size_of_record key value) bytes)
record_found marker bytes key value are read =
    let w = record_was_read marker bytes key value read in
    let r : ℕ = w.r in
    let k : ℕ = w.k in
    let lk : ℕ = length key in
    let lv : ℕ = length value in
    let rest : List ℕ = drop (size_of_record key value) bytes in
    let some = w.some in
    let more = w.more in
    let fits = w.fits in
    let small = w.small in
    let key_size : lk ≡ k - 4 =
    ap length (sym w.key_is) ∙ length-take-le (k - 4) (drop 12 bytes) (omega (arith, length-drop 12 bytes)) in
    let value_size : lv ≡ r - k - 4 =
    ap length (sym w.value_is) ∙ length-take-le (r - k - 4) (drop (12 + k) bytes) (omega (arith, length-drop (12 + k) bytes)) in
    let first : take 4 bytes ≡ be32 (8 + lk + lv) =
    sym (four_at 0 bytes are (omega arith)) ∙ ap be32 (w.whole ∙ omega arith) in
    let second : take 4 (drop 4 bytes) ≡ be32 (4 + lk) =
    sym (four_at 4 bytes are (omega arith)) ∙ ap be32 (w.key_part ∙ omega arith) in
    let third : take 4 (drop 8 bytes) ≡ be32 lk =
    sym (four_at 8 bytes are (omega arith)) ∙ ap be32 (let size = w.key_size in omega arith) in
    let fourth : take 4 (drop (8 + k) bytes) ≡ be32 lv =
    sym (four_at (8 + k) bytes are (omega arith)) ∙ ap be32 (let size = w.value_size in omega arith) in
    let behind_key : 12 + (k - 4) ≡ 8 + k = omega arith in
    let before_value : 8 + k + 4 ≡ 12 + k = omega arith in
    let behind_value : 12 + k + (r - k - 4) ≡ size_of_record key value = omega arith in
    let value_part : drop (12 + k) bytes ≡ value ++ rest =
    parted (12 + k) (r - k - 4) bytes ∙ ap₂ (λ a n. a ++ drop n bytes) w.value_is behind_value in
    let value_all : drop (8 + k) bytes ≡ be32 lv ++ (value ++ rest) =
    parted (8 + k) 4 bytes ∙ ap₂ (λ a n. a ++ drop n bytes) fourth before_value ∙ ap (λ x. be32 lv ++ x) value_part in
    let key_all : drop 12 bytes ≡ key ++ (be32 lv ++ (value ++ rest)) =
    parted 12 (k - 4) bytes ∙ ap₂ (λ a n. a ++ drop n bytes) w.key_is behind_key ∙ ap (λ x. key ++ x) value_all in
    let parts : bytes ≡ be32 (8 + lk + lv) ++ (be32 (4 + lk) ++ (be32 lk ++ drop 12 bytes)) =
    parted 0 4 bytes ∙ ap₂ (λ a b. a ++ b) first (parted 4 4 bytes ∙ ap₂ (λ a b. a ++ b) second (parted 8 4 bytes ∙ ap (λ a. a ++ drop 12 bytes) third)) in (
      omega arith,
      parts ∙ ap (λ x. be32 (8 + lk + lv) ++ (be32 (4 + lk) ++ (be32 lk ++ x))) (key_all ∙ sym (append_assoc key (with_length value) rest)),
    )

no_sync : (r k : ℕ) (bytes : List ℕ)
    → cond (leb (2 ^ 31) r) (Damaged BadLength) (cond (ltb (length bytes) 8) (Damaged Torn) (record_of r k bytes)) ≡ SyncEntry → ⊥
no_sync r k bytes read =
    let a = passed (leb (2 ^ 31) r) _ _ _ read (λ e. cc) in
    let b = passed (ltb (length bytes) 8) _ _ _ a.1 (λ e. cc) in
    let c = passed (ltb r k || (ltb k 4 || ltb (r - k) 4)) _ _ _ b.1 (λ e. cc) in
    let d = passed (ltb (length bytes) (8 + r)) _ _ _ c.1 (λ e. cc) in
    let f = passed (eqb (spelled_at 8 4 bytes + 4) k && eqb (spelled_at (8 + k) 4 bytes + 4) (r - k)) _ _ _ d.1 (λ e. cc) in
    let wrong = f.1 in cc

-- a sync entry that was read stands there
pub sync_found : (marker bytes : List ℕ) → AreBytes bytes → entry_at marker bytes ≡ SyncEntry → bytes ≡ sync_entry marker ++ drop 20 bytes
unfolding entry_at
sync_found marker bytes are read =
    let r : ℕ = spelled_at 0 4 bytes in
    let a = passed (length bytes == 0) _ _ _ read (λ e. cc) in
    let b = passed (ltb (length bytes) 4) _ _ _ a.1 (λ e. cc) in
    let c = held (r == 0xFFFFFFFF) _ _ _ b.1 (λ e. no_sync r (spelled_at 4 4 bytes) bytes e) in
    let d = passed (ltb (length bytes) 20) _ _ _ c.1 (λ e. cc) in
    let f = held (bytes_eq (take 16 (drop 4 bytes)) marker) _ _ _ d.1 (λ e. cc) in
    let long : 20 ≤ length bytes = ltb-false (length bytes) 20 d.0 in
    let four : take 4 bytes ≡ be32 0xFFFFFFFF = sym (four_at 0 bytes are (omega arith)) ∙ ap be32 (eqb-true r 0xFFFFFFFF c.0) in
    let marker_is : take 16 (drop 4 bytes) ≡ marker = (bytes_eq-Decides (take 16 (drop 4 bytes)) marker).0 f.0 in
    parted 0 4 bytes ∙ ap₂ (λ a b. a ++ b) four (parted 4 16 bytes ∙ ap (λ a. a ++ drop 20 bytes) marker_is)

-- a sync entry begins with four bytes 255
pub sync_number : (marker bytes : List ℕ) → entry_at marker bytes ≡ SyncEntry → spelled_at 0 4 bytes ≡ 0xFFFFFFFF
unfolding entry_at
sync_number marker bytes read =
    let r : ℕ = spelled_at 0 4 bytes in
    let a = passed (length bytes == 0) _ _ _ read (λ e. cc) in
    let b = passed (ltb (length bytes) 4) _ _ _ a.1 (λ e. cc) in
    eqb-true r 0xFFFFFFFF (held (r == 0xFFFFFFFF) _ _ _ b.1 (λ e. no_sync r (spelled_at 4 4 bytes) bytes e)).0

-- a torn entry is shorter than its length says, or than 20 bytes
pub torn_short : (marker bytes : List ℕ) (limit : ℕ) → entry_at marker bytes ≡ Damaged Torn → 12 ≤ limit
    → (4 ≤ length bytes → spelled_at 0 4 bytes < 2 ^ 31 → spelled_at 0 4 bytes ≤ limit) → length bytes < limit + 8
unfolding entry_at
torn_short marker bytes limit read enough fits = cond_both (length bytes == 0) _ _ Short (λ none e. cc)
    (λ some. cond_both (ltb (length bytes) 4) _ _ Short (λ short e. let n = ltb-true (length bytes) 4 short in omega arith)
    (λ four. cond_both (r == 0xFFFFFFFF) _ _ Short (λ sync. short_sync)
    (λ other. cond_both (leb (2 ^ 31) r) _ _ Short (λ large e. cc)
    (λ small. cond_both (ltb (length bytes) 8) _ _ Short (λ short e. let n = ltb-true (length bytes) 8 short in omega arith)
    (λ eight. short_record four small)))))
    read
  where
    r : ℕ
    r = spelled_at 0 4 bytes

    k : ℕ
    k = spelled_at 4 4 bytes

    Short : Entry → Type 0
    Short e = e ≡ Damaged Torn → length bytes < limit + 8

    short_sync : Short (sync_or_not marker bytes)
    short_sync = cond_both (ltb (length bytes) 20) _ _ Short (λ short e. let n = ltb-true (length bytes) 20 short in omega arith)
        (λ long. cond_both (bytes_eq (take 16 (drop 4 bytes)) marker) _ _ Short (λ same e. cc) (λ differs e. cc))

    short_record : ltb (length bytes) 4 ≡ false → leb (2 ^ 31) r ≡ false → Short (record_of r k bytes)
    short_record four small = cond_both (ltb r k || (ltb k 4 || ltb (r - k) 4)) _ _ Short (λ bad e. cc)
        (λ good. cond_both (ltb (length bytes) (8 + r)) _ _ Short
        (λ torn e. let n = ltb-true (length bytes) (8 + r) torn in
        let within = fits (ltb-false (length bytes) 4 four) (leb-false (2 ^ 31) r small) in omega arith)
        (λ whole. cond_both (eqb (spelled_at 8 4 bytes + 4) k && eqb (spelled_at (8 + k) 4 bytes + 4) (r - k)) _ _ Short
        (λ same e. cc) (λ differs e. cc)))

-- something stands there
abbrev IsSomething : Entry → Type 0
IsSomething NoEntry = ⊥
IsSomething SyncEntry = Unit {0}
IsSomething (RecordEntry key value) = Unit {0}
IsSomething (Damaged why) = Unit {0}

sync_something : (marker bytes : List ℕ) → IsSomething (sync_or_not marker bytes)
sync_something marker bytes = cond_both (ltb (length bytes) 20) _ _ IsSomething (λ short. tt)
    (λ long. cond_both (bytes_eq (take 16 (drop 4 bytes)) marker) _ _ IsSomething (λ same. tt) (λ other. tt))

record_something : (r k : ℕ) (bytes : List ℕ) → IsSomething (record_of r k bytes)
record_something r k bytes = cond_both (ltb r k || (ltb k 4 || ltb (r - k) 4)) _ _ IsSomething (λ bad. tt)
    (λ good. cond_both (ltb (length bytes) (8 + r)) _ _ IsSomething (λ torn. tt)
    (λ whole. cond_both (eqb (spelled_at 8 4 bytes + 4) k && eqb (spelled_at (8 + k) 4 bytes + 4) (r - k)) _ _ IsSomething
    (λ fits. tt) (λ other. tt)))

something : (marker : List ℕ) (b : ℕ) (bytes : List ℕ) → IsSomething (entry_at marker (b ∷ bytes))
unfolding entry_at
something marker b bytes = cond_both (length all == 0) _ _ IsSomething
    (λ none. let wrong = eqb-true (length all) 0 none in absurd (omega arith))
    (λ some. cond_both (ltb (length all) 4) _ _ IsSomething (λ short. tt)
    (λ long. cond_both (r == 0xFFFFFFFF) _ _ IsSomething (λ sync. sync_something marker all)
    (λ other. cond_both (leb (2 ^ 31) r) _ _ IsSomething (λ large. tt)
    (λ small. cond_both (ltb (length all) 8) _ _ IsSomething (λ torn. tt)
    (λ enough. record_something r (spelled_at 4 4 all) all)))))
  where
    all : List ℕ
    all = b ∷ bytes

    r : ℕ
    r = spelled_at 0 4 all

-- where nothing stands there are no bytes
pub nothing_found : (marker bytes : List ℕ) → entry_at marker bytes ≡ NoEntry → bytes ≡ []
nothing_found marker [] read = refl
nothing_found marker (b ∷ bytes) read = absurd (subst IsSomething read (something marker b bytes))
