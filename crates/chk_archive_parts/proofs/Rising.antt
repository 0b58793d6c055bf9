-- Heads whose places rise.
use Rattle.std.proofs.Common.{◌≡◌, ◌⊎◌, inl, inr, ℕ, zero, suc, ◌+◌, ◌-◌, ◌≤◌, ◌<◌, Bool, true, false, if◌then◌else◌, List, [], ◌∷◌, length, take, drop, Option, Some, None, Ok, Err, Result, ap, sym, ◌∙◌, refl, arith}
use Rattle.std.specs.Prelude.{Contains, nat_le, filter_map, option_map, slice_index_or}
use Rattle.std.specs.List.{cons_option}
use Rattle.chk_chunk.specs.Keys.{Chunk}
use Rattle.chk_seqfile.specs.declared.headers.HeaderFault.{HeaderFault}
use Rattle.chk_seqfile.specs.declared.headers.HeaderRef.{HeaderRef}
use Rattle.chk_seqfile.specs.declared.headers.HeaderFault.TheVariants.{Short}
use Rattle.chk_seqfile.specs.Headers.{◌>>=◌, read_fields, read_marker, read_header}
use Rattle.chk_seqfile.specs.Entries.{Placed, Entry, NoEntry, SyncEntry, RecordEntry, Damaged, placed, size_of_record, entry_at, records_from, records_behind, records_of}
use Rattle.chk_world.specs.Books.{chunk_of}
use Rattle.chk_world.proofs.Each.{Each}
use Rattle.chk_record_index.specs.Heads.{Head, head_of, head_at, heads_in}

-- they stand at this place or behind it, each behind the one before
abbrev pub RisesFrom : ℕ → List Head → Type 0
RisesFrom low [] = Unit {0}
RisesFrom low (h ∷ hs) = (low ≤ h.at) × RisesFrom (suc h.at) hs

-- the head is one of these
abbrev pub IsIn : List Head → Head → Type 0
IsIn [] h = ⊥
IsIn (k ∷ ks) h = (h ≡ k) ⊎ IsIn ks h

pub is_in : (ks : List Head) (h : Head) → Contains ks h → IsIn ks h
is_in ks h one = go ks one.0 one.1 one.2
  where
    go : (ks : List Head) (n : ℕ) → n < length ks → slice_index_or ks n h ≡ h → IsIn ks h
    go [] n low is = absurd (let z : ⊥ = omega (arith, low) in z)
    go (k ∷ ks) zero low is = inl (sym is)
    go (k ∷ ks) (suc n) low is = inr (go ks n (omega (arith, low)) is)

-- from a lower place on they rise as well
lower : (low least : ℕ) (hs : List Head) → least ≤ low → RisesFrom low hs → RisesFrom least hs
lower low least [] less rise = tt
lower low least (h ∷ hs) less rise = (let at = rise.0 in omega (arith, less, at), rise.1)

above : (low : ℕ) (ks : List Head) (h : Head) → RisesFrom low ks → IsIn ks h → low ≤ h.at
above low [] h rise one = absurd one
above low (k ∷ ks) h rise (inl is) =
    let same = ap (λ (x : Head). x.at) is in
    let at = rise.0 in
    omega (arith, at, same)
above low (k ∷ ks) h rise (inr one) =
    let at = rise.0 in
    let more = above (suc k.at) ks h rise.1 one in
    omega (arith, at, more)

-- those that stand behind a head aren't it
behind : (low : ℕ) (k : Head) (ks hs : List Head) → k.at < low → RisesFrom low hs
    → Each (IsIn (k ∷ ks)) hs → Each (IsIn ks) hs
behind low k ks [] less rise all = tt
behind low k ks (h ∷ hs) less rise all =
    let at = rise.0 in
    (go all.0, behind (suc h.at) k ks hs (omega (arith, less, at)) rise.1 all.1)
  where
    go : IsIn (k ∷ ks) h → IsIn ks h
    go (inl is) =
        let same = ap (λ (x : Head). x.at) is in
        let at = rise.0 in
        absurd (let z : ⊥ = omega (arith, same, at, less) in z)
    go (inr one) = one

fewer : (low least : ℕ) (hs ks : List Head) → RisesFrom low hs → RisesFrom least ks
    → Each (IsIn ks) hs → length hs ≤ length ks
fewer low least [] ks rise rises all = omega arith
fewer low least (h ∷ hs) [] rise rises all = absurd all.0
fewer low least (h ∷ hs) (k ∷ ks) rise rises all =
    go (fewer (suc h.at) (suc k.at) hs ks rise.1 rises.1)
    (fewer low (suc k.at) (h ∷ hs) ks rise rises.1) all.0
  where
    go : (Each (IsIn ks) hs → length hs ≤ length ks)
        → (Each (IsIn ks) (h ∷ hs) → length (h ∷ hs) ≤ length ks)
        → IsIn (k ∷ ks) h → length (h ∷ hs) ≤ length (k ∷ ks)
    go less more (inl is) =
        let same = ap (λ (x : Head). x.at) is in
        let rest = less (behind (suc h.at) k ks hs (omega (arith, same)) rise.1 all.1) in
        omega (arith, rest)
    go less more (inr one) =
        let high = above (suc k.at) ks h rises.1 one in
        let rest = more (one, behind (suc h.at) k ks hs (omega (arith, high)) rise.1 all.1) in
        omega (arith, rest)

-- as many of them as there are, each behind the one before, are all
pub all_of : (low least : ℕ) (hs ks : List Head) → RisesFrom low hs → RisesFrom least ks
    → Each (IsIn ks) hs → length hs ≡ length ks → hs ≡ ks
all_of low least [] [] rise rises all size = refl
all_of low least [] (k ∷ ks) rise rises all size = absurd (let z : ⊥ = omega (arith, size) in z)
all_of low least (h ∷ hs) [] rise rises all size = absurd all.0
all_of low least (h ∷ hs) (k ∷ ks) rise rises all size =
    go (all_of (suc h.at) (suc k.at) hs ks rise.1 rises.1) all.0
  where
    go : (Each (IsIn ks) hs → length hs ≡ length ks → hs ≡ ks) → IsIn (k ∷ ks) h
        → h ∷ hs ≡ k ∷ ks
    go rest (inl is) =
        let same = ap (λ (x : Head). x.at) is in
        let others = behind (suc h.at) k ks hs (omega (arith, same)) rise.1 all.1 in
        ap (λ l. h ∷ l) (rest others (omega (arith, size))) ∙ ap (λ x. x ∷ ks) is
    go rest (inr one) =
        let high = above (suc k.at) ks h rises.1 one in
        let others = behind (suc h.at) k ks hs (omega (arith, high)) rise.1 all.1 in
        let few = fewer low (suc k.at) (h ∷ hs) ks rise rises.1 (one, others) in
        absurd (let z : ⊥ = omega (arith, few, size) in z)

-- ---- the heads of a file

one_more : (most file at : ℕ) (r : Placed) (rs : List Placed) (o : Option Chunk) → r.at ≡ at
    → RisesFrom (suc at) (filter_map (head_at most file) rs)
    → RisesFrom at (cons_option (option_map (head_of file r.at) o) (filter_map (head_at most file) rs))
one_more most file at r rs None is rest =
    lower (suc at) at (filter_map (head_at most file) rs) (omega arith) rest
one_more most file at r rs (Some c) is rest = (
  omega (arith, is),
  lower (suc at) (suc r.at) (filter_map (head_at most file) rs) (omega (arith, is)) rest,
)

records_rise : (most file fuel : ℕ) (marker : List ℕ) (at : ℕ) (bytes : List ℕ)
    → RisesFrom at (filter_map (head_at most file) (records_from fuel marker at bytes))
records_rise most file zero marker at bytes = tt
records_rise most file (suc fuel) marker at bytes =
    go (entry_at marker bytes) (λ n l. records_rise most file fuel marker n l)
  where
    go : (e : Entry)
        → ((n : ℕ) (l : List ℕ) → RisesFrom n (filter_map (head_at most file) (records_from fuel marker n l)))
        → RisesFrom at (filter_map (head_at most file) (elim e as (λ t. List Placed) [
          | NoEntry ↦ []
          | SyncEntry ↦ records_from fuel marker (at + 20) (drop 20 bytes)
          | RecordEntry key value ↦
              placed at key value
              ∷ records_from fuel marker (at + size_of_record key value) (drop (size_of_record key value) bytes)
          | Damaged why ↦ []
        ]))
    go NoEntry rest = tt
    go SyncEntry rest =
        lower (at + 20) at
        (filter_map (head_at most file) (records_from fuel marker (at + 20) (drop 20 bytes)))
        (omega arith) (rest (at + 20) (drop 20 bytes))
    go (RecordEntry key value) rest =
        let size = size_of_record key value in
        let rs = records_from fuel marker (at + size) (drop size bytes) in
        one_more most file at (placed at key value) rs (chunk_of most (placed at key value)) refl
        (lower (at + size) (suc at) (filter_map (head_at most file) rs) (omega arith)
        (rest (at + size) (drop size bytes)))
    go (Damaged why) rest = tt

pub heads_rise : (most file : ℕ) (bytes : List ℕ) → (low : ℕ) × RisesFrom low (heads_in most file bytes)
unfolding records_of
heads_rise most file bytes = go (read_header bytes)
  where
    go : (r : Result HeaderRef HeaderFault)
        → (low : ℕ) × RisesFrom low (filter_map (head_at most file) (records_behind r bytes))
    go (Ok head) = (
      head.end,
      records_rise most file (length (drop head.end bytes)) head.marker head.end (drop head.end bytes),
    )
    go (Err fault) = (0, tt)

-- ---- none of them stands at the file's begin

abbrev end_of : Result HeaderRef HeaderFault → ℕ
end_of (Ok head) = head.end
end_of (Err fault) = 1

header_low : (bytes : List ℕ) → 1 ≤ end_of (read_header bytes)
unfolding read_header
header_low bytes = go (read_fields (length bytes) bytes)
  where
    go : (r : Result (List ℕ) HeaderFault) → 1 ≤ end_of (r >>= (λ rest. read_marker (length bytes) rest))
    go (Err fault) = omega arith
    go (Ok rest) = mark (nat_le 16 (length rest))
      where
        mark : (b : Bool)
            → 1 ≤ end_of (if b then Ok (record { marker = take 16 rest; end = length bytes - length rest + 16 }) else Err Short)
        mark true = omega arith
        mark false = omega arith

pub heads_past : (most file : ℕ) (bytes : List ℕ) → RisesFrom 1 (heads_in most file bytes)
unfolding records_of
heads_past most file bytes = go (read_header bytes) (header_low bytes)
  where
    go : (r : Result HeaderRef HeaderFault) → 1 ≤ end_of r → RisesFrom 1 (filter_map (head_at most file) (records_behind r bytes))
    go (Ok head) low =
        lower head.end 1 (filter_map (head_at most file) (records_from (length (drop head.end bytes)) head.marker head.end (drop head.end bytes)))
        low (records_rise most file (length (drop head.end bytes)) head.marker head.end (drop head.end bytes))
    go (Err fault) low = tt
