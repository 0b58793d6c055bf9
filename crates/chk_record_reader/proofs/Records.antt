-- The records of a file's bytes stand where their places say.
use Rattle.std.proofs.Common.{◌≡◌, ℕ, zero, suc, ◌+◌, ◌-◌, ◌≤◌, ◌<◌, List, [], ◌∷◌, ◌++◌, length, take, drop, Option, Some, None, Ok, Err, Result, arith, refl, ap, sym, subst, ◌∙◌, true, false, Bool, inl, inr}
use Rattle.std.specs.Prelude.{IsTrue, map, filter_map, nat_lt, nat_le, option_map, ◌&&◌, Contains}
use Rattle.std.specs.List.{cons_option}
use Rattle.std.proofs.lemmas.Bool.{and_parts, ltb-true, leb-true}
use Rattle.std.proofs.lemmas.List.{length-drop, drop-drop, length-append}
use Rattle.std.proofs.lemmas.Option.{same_Some, none-some}
use Rattle.chk_bytes.specs.Numbers.{spelled, spelled_at}
use Rattle.chk_chunk.specs.Keys.{Key, Chunk, IsKey, is_key, has_value, read_key, key_1, key_2, fits_1, chunk_begin, counted_stream, counted}
use Rattle.chk_chunk.proofs.KeyLaws.{read_is_key}
use Rattle.chk_chunk.proofs.KeyLemmas.{key_facts, stream_facts, word_fits}
use Rattle.chk_seqfile.specs.declared.headers.HeaderRef.{HeaderRef}
use Rattle.chk_seqfile.specs.declared.headers.HeaderFault.{HeaderFault}
use Rattle.chk_seqfile.specs.Headers.{read_header}
use Rattle.chk_seqfile.specs.Entries.{Entry, NoEntry, SyncEntry, RecordEntry, Damaged, Placed, placed, size_of_record, entry_at, records_from, records_behind, records_of}
use Rattle.chk_world.specs.Books.{chunk_if, chunk_with, chunk_of, chunks_within}
use Rattle.chk_world.proofs.Each.{Each, each_at}
use Rattle.chk_record_index.specs.Heads.{Head, head_of, head_at, heads_in}
use Rattle.chk_record_reader.specs.Spans.{record_size, key_size, room_of}
use Rattle.chk_record_reader.specs.ReadBack.{value_at, chunk_at}
use Rattle.chk_record_reader.proofs.Sized.{IsSized, record_sized}
use Rattle.chk_record_index.proofs.Records.{valid_key as key_valid}

-- the record stands there
pub record Stands (bytes : List ℕ) (r : Placed) : Type 0 where
  pub whole : record_size r.at bytes ≡ 8 + length r.key + length r.value
  pub key_part : key_size r.at bytes ≡ 4 + length r.key
  pub fits : r.at + (16 + length r.key + length r.value) ≤ length bytes
  pub value_is : value_at r.at bytes ≡ r.value

stands_there : (all bytes : List ℕ) (at : ℕ) (key value : List ℕ) → bytes ≡ drop at all
    → IsSized bytes key value → Stands all (placed at key value)
stands_there all bytes at key value is s =
    let r : spelled_at at 4 all ≡ spelled_at 0 4 bytes = sym (ap (λ b. spelled (take 4 b)) is) in
    let k : spelled_at (at + 4) 4 all ≡ spelled_at 4 4 bytes = sym (ap (λ b. spelled (take 4
    (drop 4 b))) is ∙ ap (λ b. spelled (take 4 b)) (drop-drop 4 at all)) in
    let room = ap length is ∙ length-drop at all in
    record {
      whole = r ∙ s.whole;
      key_part = k ∙ s.key_part;
      fits = omega (arith, s.fits);
      value_is =
          ap (λ n. take (n - key_size at all - 4) (drop (at + 12 + key_size at all) all)) r
          ∙ (ap (λ n. take (spelled_at 0 4 bytes - n - 4) (drop (at + 12 + n) all)) k
          ∙ (ap (λ n. take (spelled_at 0 4 bytes - spelled_at 4 4 bytes - 4) (drop n all))
          (let e : at + 12 + spelled_at 4 4 bytes ≡ at +
          (12 + spelled_at 4 4 bytes) = omega arith in e)
          ∙ (ap (take (spelled_at 0 4 bytes - spelled_at 4 4 bytes - 4)) (sym (drop-drop
          (12 + spelled_at 4 4 bytes) at all))
          ∙ (ap (λ b. take (spelled_at 0 4 bytes - spelled_at 4 4 bytes - 4) (drop
          (12 + spelled_at 4 4 bytes) b)) (sym is)
          ∙ s.value_is))));
    }

all_stand : (all : List ℕ) (fuel : ℕ) (marker : List ℕ) (at : ℕ) (bytes : List ℕ) → bytes
    ≡ drop at all → Each (Stands all) (records_from fuel marker at bytes)
all_stand all zero marker at bytes is = tt
all_stand all (suc fuel) marker at bytes is =
    go (λ n. all_stand all fuel marker (at + n) (drop n bytes) (ap (drop n) is
    ∙ drop-drop n at all)) (entry_at marker bytes) refl
  where
    go : ((n : ℕ) → Each (Stands all) (records_from fuel marker (at + n) (drop n bytes))) →
        (e : Entry) → entry_at marker bytes ≡ e → Each (Stands all) (elim e [
          | NoEntry ↦ []
          | SyncEntry ↦ records_from fuel marker (at + 20) (drop 20 bytes)
          | RecordEntry key value ↦
              placed at key value
              ∷ records_from fuel marker (at + size_of_record key value) (drop
              (size_of_record key value) bytes)
          | Damaged why ↦ []
        ])
    go rest NoEntry e = tt
    go rest SyncEntry e = rest 20
    go rest (RecordEntry key value) e = (
      stands_there all bytes at key value is (record_sized marker bytes key value e),
      rest
          (size_of_record key value),
    )
    go rest (Damaged why) e = tt

pub records_stand : (bytes : List ℕ) → Each (Stands bytes) (records_of bytes)
unfolding records_of
records_stand bytes = go (read_header bytes)
  where
    go : (r : Result HeaderRef HeaderFault) → Each (Stands bytes) (records_behind r bytes)
    go (Ok head) = all_stand bytes (length (drop head.end bytes)) head.marker head.end
        (drop head.end bytes) refl
    go (Err fault) = tt

-- ---- the chunks among them

-- the record is this chunk
pub record IsChunkOf (most : ℕ) (r : Placed) (c : Chunk) : Type 0 where
  pub key : IsKey c.key r.key
  pub value : r.value ≡ c.value
  pub few : length c.value ≤ most
  pub behind : c.key.start + length c.value ≤ c.key.seq
  pub some : 1 ≤ length c.value

is_chunk_of : (most : ℕ) (r : Placed) (c : Chunk) → chunk_of most r ≡ Some c → IsChunkOf most r c
is_chunk_of most r c e = go (read_key r.key) refl e
  where
    pick : (k : Key) → read_key r.key ≡ Some k → (b : Bool) → has_value most k r.value ≡ b
        → chunk_if b k r.value ≡ Some c → IsChunkOf most r c
    pick k read true h e =
        let n : ℕ = length r.value in
        let p = and_parts (nat_lt 0 n) (nat_le n most && nat_le (k.start + n) k.seq) h in
        let q = and_parts (nat_le n most) (nat_le (k.start + n) k.seq) p.1 in
        subst (IsChunkOf most r) (same_Some (record { key = k; value = r.value }) c e)
        (record {
          key = read_is_key k r.key read;
          value = refl;
          few = leb-true n most q.0;
          behind = leb-true (k.start + n) k.seq q.1;
          some = ltb-true 0 n p.0;
        })
    pick k read false h e = absurd (none-some c e)

    go : (o : Option Key) → read_key r.key ≡ o → chunk_with most o r.value ≡ Some c
        → IsChunkOf most r c
    go None read e = absurd (none-some c e)
    go (Some k) read e = pick k read (has_value most k r.value) refl e

-- ---- how long a record may be

stream_long : (k : Key) → length (counted_stream k.stream) ≡ 6 + (length k.stream.source +
    (length k.stream.kind + length k.stream.name))
stream_long k =
    let a = length-append (counted k.stream.source)
    (counted k.stream.kind ++ counted k.stream.name) in
    let b = length-append (counted k.stream.kind) (counted k.stream.name) in
    omega arith

key_long : (k : Key) (bytes : List ℕ) → IsKey k bytes
    → length bytes ≤ 25 + (length k.stream.source + length k.stream.kind + length k.stream.name +
    length k.cluster)
unfolding key_1 key_2
key_long k bytes (inl one) =
    let a = ap length one.1 in
    let s = stream_long k in
    omega arith
key_long k bytes (inr two) =
    let a = ap length two.1 in
    let s = stream_long k in
    let b = length-append (counted_stream k.stream) (counted k.cluster) in
    omega arith

-- ---- the heads

-- by the numbers of its record all of that is there, and no longer than its room
pub record IsWhole (bytes : List ℕ) (h : Head) : Type 0 where
  pub sizes : record_size h.at bytes ≡ key_size h.at bytes + 4 + (h.key.seq - h.begin)
  pub fits : h.at + 12 + key_size h.at bytes + (h.key.seq - h.begin) ≤ length bytes
  pub short : 12 + key_size h.at bytes + (h.key.seq - h.begin) ≤ room_of h

is_whole : (most file : ℕ) (bytes : List ℕ) (r : Placed) (c : Chunk) → most ≤ 1048576
    → Stands bytes r → IsChunkOf most r c → IsWhole bytes (head_of file r.at c)
is_whole most file bytes r c few s is =
    let f = key_facts c.key (key_valid c.key r.key is.key) in
    let t = stream_facts c.key.stream f.stream in
    let a = word_fits c.key.stream.source t.source in
    let b = word_fits c.key.stream.kind t.kind in
    let d = word_fits c.key.stream.name t.name in
    let e = word_fits c.key.cluster f.cluster in
    let n = ap length is.value in
    let k = key_long c.key r.key is.key in
    let size : c.key.seq - (c.key.seq - length c.value) ≡ length c.value = omega
    (arith, is.behind) in
    record {
      sizes = omega (arith, s.whole, s.key_part, size, n);
      fits = omega (arith, s.fits, s.key_part, size, n);
      short = omega (arith, s.key_part, size, n, is.few, few, k, a, b, d, e);
    }

chunk_is : (most file : ℕ) (bytes : List ℕ) (r : Placed) (c : Chunk) → Stands bytes r
    → IsChunkOf most r c → chunk_at bytes (head_of file r.at c) ≡ c
chunk_is most file bytes r c s is = ap (λ (v : List ℕ). record { key = c.key; value = v })
    (s.value_is ∙ is.value)

heads_whole : (most file : ℕ) (bytes : List ℕ) → most ≤ 1048576 → (rs : List Placed) → Each
    (Stands bytes) rs → Each (IsWhole bytes) (filter_map (head_at most file) rs)
heads_whole most file bytes few [] all = tt
heads_whole most file bytes few (r ∷ rs) all = go (heads_whole most file bytes few rs all.1)
    (chunk_of most r) refl
  where
    go : Each (IsWhole bytes) (filter_map (head_at most file) rs) → (o : Option Chunk)
        → chunk_of most r ≡ o
        → Each (IsWhole bytes) (cons_option (option_map (head_of file r.at) o) (filter_map
        (head_at most file) rs))
    go rest None e = rest
    go rest (Some c) e = (is_whole most file bytes r c few all.0 (is_chunk_of most r c e), rest)

heads_are : (most file : ℕ) (bytes : List ℕ) (rs : List Placed) → Each (Stands bytes) rs
    → map (chunk_at bytes) (filter_map (head_at most file) rs) ≡ filter_map (chunk_of most) rs
heads_are most file bytes [] all = refl
heads_are most file bytes (r ∷ rs) all = go (heads_are most file bytes rs all.1)
    (chunk_of most r) refl
  where
    go : map (chunk_at bytes) (filter_map (head_at most file) rs) ≡ filter_map (chunk_of most) rs →
        (o : Option Chunk) → chunk_of most r ≡ o
        → map (chunk_at bytes) (cons_option (option_map (head_of file r.at) o) (filter_map
        (head_at most file) rs))
        ≡ cons_option o (filter_map (chunk_of most) rs)
    go rest None e = rest
    go rest (Some c) e =
        ap (λ d. d ∷ map (chunk_at bytes) (filter_map (head_at most file) rs))
        (chunk_is most file bytes r c all.0 (is_chunk_of most r c e))
        ∙ ap (λ cs. c ∷ cs) rest

-- the heads of a file stand for its chunks
pub chunks_of_heads : (most file : ℕ) (bytes : List ℕ) → map (chunk_at bytes)
    (heads_in most file bytes) ≡ chunks_within most bytes
chunks_of_heads most file bytes = heads_are most file bytes (records_of bytes)
    (records_stand bytes)

-- each head's record is there
pub known_whole : (most file : ℕ) (bytes : List ℕ) (h : Head) → most ≤ 1048576 → Contains
    (heads_in most file bytes) h → IsWhole bytes h
known_whole most file bytes h few one =
    each_at (IsWhole bytes) (heads_in most file bytes) h (heads_whole most file bytes few
    (records_of bytes) (records_stand bytes)) one

begins_so : (most file : ℕ) (bytes : List ℕ) (rs : List Placed) → Each (Stands bytes) rs
    → Each (λ (h : Head). h.begin ≡ chunk_begin (chunk_at bytes h)) (filter_map
    (head_at most file) rs)
begins_so most file bytes [] all = tt
begins_so most file bytes (r ∷ rs) all = go (begins_so most file bytes rs all.1)
    (chunk_of most r) refl
  where
    go : Each (λ (h : Head). h.begin ≡ chunk_begin (chunk_at bytes h)) (filter_map
        (head_at most file) rs) → (o : Option Chunk) → chunk_of most r ≡ o
        → Each (λ (h : Head). h.begin ≡ chunk_begin (chunk_at bytes h)) (cons_option (option_map
        (head_of file r.at) o) (filter_map (head_at most file) rs))
    go rest None e = rest
    go rest (Some c) e = (
      ap chunk_begin (sym (chunk_is most file bytes r c all.0
          (is_chunk_of most r c e))),
      rest,
    )

-- each head begins where its chunk does
pub heads_begin : (most file : ℕ) (bytes : List ℕ) → Each (λ (h : Head). h.begin ≡ chunk_begin
    (chunk_at bytes h)) (heads_in most file bytes)
heads_begin most file bytes = begins_so most file bytes (records_of bytes) (records_stand bytes)

has_bytes_so : (most file : ℕ) (rs : List Placed)
    → Each (λ (h : Head). h.begin < h.key.seq) (filter_map (head_at most file) rs)
has_bytes_so most file [] = tt
has_bytes_so most file (r ∷ rs) = go (has_bytes_so most file rs) (chunk_of most r) refl
  where
    go : Each (λ (h : Head). h.begin < h.key.seq) (filter_map (head_at most file) rs)
        → (o : Option Chunk) → chunk_of most r ≡ o
        → Each (λ (h : Head). h.begin < h.key.seq)
        (cons_option (option_map (head_of file r.at) o) (filter_map (head_at most file) rs))
    go rest None e = rest
    go rest (Some c) e =
        let is = is_chunk_of most r c e in
        let some = is.some in
        let past = is.behind in
        ((let z : chunk_begin c < c.key.seq = omega arith in z), rest)

-- each head has bytes
pub heads_have_bytes : (most file : ℕ) (bytes : List ℕ)
    → Each (λ (h : Head). h.begin < h.key.seq) (heads_in most file bytes)
heads_have_bytes most file bytes = has_bytes_so most file (records_of bytes)
