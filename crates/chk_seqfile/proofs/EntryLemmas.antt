-- How an entry that stands first is read.
use Rattle.std.proofs.Common.{◌≡◌, ℕ, ◌+◌, ◌-◌, ◌^◌, ◌<◌, ◌≤◌, List, [], ◌++◌, length, take, drop, inl, inr, arith, true, bytes_eq, refl, ap, ap₂, sym, ◌∙◌}
use Rattle.std.proofs.lemmas.List.{length-append, length-take-le, take_at, take-take, drop-take, drop_at, append_assoc}
use Rattle.std.proofs.lemmas.Bool.Decides.{nat_tests}
use Rattle.std.proofs.lemmas.Slice.Eq.{bytes_eq-Decides}
use Rattle.chk_bytes.specs.Numbers.{be32, spelled, spelled_at, with_length}
use Rattle.chk_seqfile.specs.declared.entries.Why.TheVariants.{Torn}
use Rattle.chk_seqfile.specs.Entries.{NoEntry, SyncEntry, RecordEntry, Damaged, IsEntry, sync_entry, record_entry, size_of_record, entry_at}
use Rattle.chk_bytes.proofs.NumberLemmas.{spelled-be32}

-- how many bytes a record has
pub length-record_entry : (key value : List ℕ)
    → length (record_entry key value) ≡ size_of_record key value
length-record_entry key value = omega (arith, length-append key (with_length value))

-- nothing stands first in no bytes
pub entry_at-nil : (marker : List ℕ) → entry_at marker [] ≡ NoEntry
unfolding entry_at
entry_at-nil marker = refl

-- what stands before a record's value part
abbrev before_value : List ℕ → List ℕ → List ℕ
before_value key value =
    be32 (8 + length key + length value) ++ (be32 (4 + length key) ++ with_length key)

-- a record in three parts
record_split : (key value rest : List ℕ)
    → record_entry key value ++ rest ≡ before_value key value ++ (with_length value ++ rest)
record_split key value rest =
    ap (λ x. be32 (8 + length key + length value) ++ (be32 (4 + length key) ++ (be32 (length key) ++ x)))
    (append_assoc key (with_length value) rest)

-- where the key and the value stand in a record
pub key_in_record : (key value rest : List ℕ)
    → take (length key) (drop 12 (record_entry key value ++ rest)) ≡ key
key_in_record key value rest =
    ap (take (length key)) (append_assoc key (with_length value) rest)
    ∙ take_at key (with_length value ++ rest) (length key) refl

pub value_in_record : (key value rest : List ℕ)
    → take (length value) (drop (16 + length key) (record_entry key value ++ rest)) ≡ value
value_in_record key value rest =
    let front : List ℕ = before_value key value in
    let value_is : drop (16 + length key) (record_entry key value ++ rest) ≡ value ++ rest =
    ap (drop (16 + length key))
    (record_split key value rest ∙ sym (append_assoc front (be32 (length value)) (value ++ rest)))
    ∙ drop_at (front ++ be32 (length value)) (value ++ rest) (16 + length key)
    (omega (arith, length-append key (be32 (length value)))) in
    ap (take (length value)) value_is ∙ take_at value rest (length value) refl

-- a record stands first where its lengths do
record_by_lengths : (marker bytes : List ℕ) (k v : ℕ) → 8 + k + v < 2 ^ 31
    → 16 + k + v ≤ length bytes
    → spelled_at 0 4 bytes ≡ 8 + k + v → spelled_at 4 4 bytes ≡ 4 + k → spelled_at 8 4 bytes ≡ k → spelled_at (8 + (4 + k)) 4 bytes ≡ v
    → entry_at marker bytes ≡ RecordEntry (take k (drop 12 bytes)) (take v (drop (16 + k) bytes))
unfolding entry_at
record_by_lengths marker bytes k v small fits whole key_part key_size value_size =
    grind (arith, nat_tests)

-- a record is read as its key and its value, whatever follows
pub entry_at-record : (marker key value rest : List ℕ) → 8 + length key + length value < 2 ^ 31
    → entry_at marker (record_entry key value ++ rest) ≡ RecordEntry key value
entry_at-record marker key value rest small =
    let k : ℕ = length key in
    let v : ℕ = length value in
    let bytes : List ℕ = record_entry key value ++ rest in
    let size : 16 + k + v ≤ length bytes =
    omega (arith, length-append (key ++ with_length value) rest, length-append key (with_length value)) in
    let same : 8 + (4 + k) ≡ 12 + k = omega arith in
    let value_part : drop (8 + (4 + k)) bytes ≡ with_length value ++ rest =
    ap₂ (λ n x. drop n x) same (record_split key value rest)
    ∙ drop_at (before_value key value) (with_length value ++ rest) (12 + k) (omega arith) in
    let value_size : spelled_at (8 + (4 + k)) 4 bytes ≡ v =
    ap (λ x. spelled (take 4 x)) value_part ∙ spelled-be32 v (omega arith) in
    record_by_lengths marker bytes k v small size (spelled-be32 (8 + k + v) (omega arith))
    (spelled-be32 (4 + k) (omega arith)) (spelled-be32 k (omega arith)) value_size
    ∙ ap₂ RecordEntry (key_in_record key value rest) (value_in_record key value rest)

-- a sync entry is read as one, whatever follows
pub entry_at-sync : (marker rest : List ℕ) → length marker ≡ 16
    → entry_at marker (sync_entry marker ++ rest) ≡ SyncEntry
unfolding entry_at
entry_at-sync marker rest size =
    let all = length-append marker rest in
    let same : bytes_eq (take 16 (marker ++ rest)) marker ≡ true =
    (bytes_eq-Decides (take 16 (marker ++ rest)) marker).1 (take_at marker rest 16 size) in
    grind (arith, nat_tests)

-- a sync entry that is cut is torn
entry_at-torn_sync : (marker : List ℕ) (k : ℕ) → length marker ≡ 16 → 0 < k → k < 20
    → entry_at marker (take k (sync_entry marker)) ≡ Damaged Torn
unfolding entry_at
entry_at-torn_sync marker k wide some fewer =
    let bytes : List ℕ = sync_entry marker in
    let all : length bytes ≡ 20 = omega arith in
    let size : length (take k bytes) ≡ k = length-take-le k bytes (omega arith) in
    let first : 4 ≤ k → spelled_at 0 4 (take k bytes) ≡ 4294967295 =
    λ enough. ap spelled (take-take 4 k bytes enough) in
    grind (arith, nat_tests)

-- a record that is cut is torn
entry_at-torn_record : (marker key value : List ℕ) (k : ℕ) → 8 + length key + length value < 2 ^ 31
    → 0 < k → k < size_of_record key value
    → entry_at marker (take k (record_entry key value)) ≡ Damaged Torn
unfolding entry_at
entry_at-torn_record marker key value k small some fewer =
    let bytes : List ℕ = record_entry key value in
    let all : length bytes ≡ size_of_record key value = length-record_entry key value in
    let size : length (take k bytes) ≡ k = length-take-le k bytes (omega arith) in
    let first : 4 ≤ k → spelled_at 0 4 (take k bytes) ≡ 8 + length key + length value =
    λ enough. ap spelled (take-take 4 k bytes enough) ∙ spelled-be32 (8 + length key + length value) (omega arith) in
    let second : 8 ≤ k → spelled_at 4 4 (take k bytes) ≡ 4 + length key =
    λ enough. let split : k ≡ 4 + (k - 4) = omega arith in
    ap (λ j. spelled (take 4 (drop 4 (take j bytes)))) split
    ∙ ap (λ x. spelled (take 4 x)) (drop-take 4 (k - 4) bytes)
    ∙ ap spelled (take-take 4 (k - 4) (drop 4 bytes) (omega arith))
    ∙ spelled-be32 (4 + length key) (omega arith) in
    grind (arith, nat_tests)

-- an entry that is cut is torn
pub entry_at-torn : (marker e : List ℕ) (k : ℕ) → IsEntry marker e → length marker ≡ 16 → 0 < k
    → k < length e → entry_at marker (take k e) ≡ Damaged Torn
entry_at-torn marker e k (inl sync) wide some fewer =
    let all = ap length sync in
    ap (λ x. entry_at marker (take k x)) sync ∙ entry_at-torn_sync marker k wide some (omega arith)
entry_at-torn marker e k (inr r) wide some fewer =
    let all : length e ≡ size_of_record r.key r.value =
    ap length r.is ∙ length-record_entry r.key r.value in
    ap (λ x. entry_at marker (take k x)) r.is
    ∙ entry_at-torn_record marker r.key r.value k r.small some (omega arith)

-- no entry is empty
pub entry_some : (marker e : List ℕ) → IsEntry marker e → 0 < length e
entry_some marker e (inl sync) = let all = ap length sync in omega arith
entry_some marker e (inr r) =
    let all : length e ≡ size_of_record r.key r.value = ap length r.is ∙ length-record_entry r.key r.value in omega arith
