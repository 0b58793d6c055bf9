-- A key's bytes are read as that key, whatever follows them.
use Rattle.std.proofs.Common.{◌≡◌, ℕ, ◌+◌, ◌-◌, ◌<◌, ◌≤◌, ◌^◌, true, false, cond, List, [], ◌∷◌, ◌++◌, length, take, drop, None, Some, Result, Ok, Err, sym, ap, ◌∙◌, subst, inl, inr, ◌⊎◌, arith, append_assoc}
use Rattle.std.specs.Prelude.{IsTrue}
use Rattle.std.specs.Result.{IfOk, IfErr, IsOkAnd}
use Rattle.std.proofs.lemmas.Bool.{eqb-true, eq-eqb, ne_eqb, and_parts, cond-true, cond-false}
use Rattle.std.proofs.lemmas.List.{length-drop, drop-drop, append-nil}
use Rattle.std.proofs.lemmas.Slice.Eq.{bytes_eq-Decides}
use Rattle.chk_bytes.specs.Numbers.{be64, spelled, spelled_at}
use Rattle.chk_chunk.specs.Keys.{Key, IsKey, is_key, is_key_1, key_1, key_2, no_cluster, start_limit, counted, counted_stream, behind_text, behind_stream, guessed_1, guessed_2, guessed_key, is_version_1}
use Rattle.chk_chunk.specs.declared.faults.ChunkFault.{ChunkFault}
use Rattle.chk_chunk.specs.Faults.{key_fault, rest_1_fault, rest_2_fault}
use Rattle.chk_chunk.proofs.FieldLemmas.{none_parts, none_from, none_left, read_text, read_stream, IsStreamThere, IsTextThere}
use Rattle.chk_chunk.proofs.HeadLemmas.{IsHeadThere, head_there, head_fault-none, read_head}
use Rattle.chk_chunk.proofs.KeyGrammar.{key_by, rest_1_there, rest_1_fault-none, rest_2_there, rest_2_fault-none, key_1_spelled, key_2_spelled, is_key_1-guessed, is_key-guessed}
use Rattle.chk_chunk.proofs.KeyLemmas.{key_facts}
use Rattle.chk_bytes.specs.Laws.{AreBytes}
use Rattle.chk_bytes.proofs.NumberLemmas.{spelled-be64}

-- what the first version says of a key
pub record IsPlain (k : Key) : Type 0 where
  pub key : IsTrue (is_key k)
  pub start : k.start ≡ 0
  pub cluster : k.cluster ≡ no_cluster

pub plain_key : (k : Key) → IsTrue (is_key_1 k) → IsPlain k
plain_key k h =
    let a = and_parts _ _ h in
    let b = and_parts _ _ a.1 in
    record {
      key = a.0;
      start = eqb-true k.start 0 b.0;
      cluster = (bytes_eq-Decides k.cluster no_cluster).0 b.1;
    }

-- what stands there, where a key of version 1 does
pub record IsRead1 (at : ℕ) (bytes : List ℕ) (k : Key) (rest : List ℕ) : Type 0 where
  pub version : spelled_at at 1 bytes ≡ 1
  pub head : IsHeadThere at bytes
  pub some : 0 < spelled_at (at + 1) 8 bytes
  pub stream : IsStreamThere (at + 9) bytes
  pub is : guessed_1 at bytes ≡ k
  pub follows : drop (behind_stream (at + 9) bytes) bytes ≡ rest
  pub size : behind_stream (at + 9) bytes + length rest ≡ length bytes

pub read_1 : (at : ℕ) (bytes : List ℕ) (k : Key) (rest : List ℕ) → IsTrue (is_key_1 k)
    → drop at bytes ≡ key_1 k ++ rest → IsRead1 at bytes k rest
unfolding key_1
read_1 at bytes k rest fits e =
    let plain = plain_key k fits in
    let facts = key_facts k plain.key in
    let low = facts.fits in
    let started = facts.started in
    let parted : drop at bytes ≡ 1 ∷ (be64 k.seq ++ (counted_stream k.stream ++ rest)) =
    e ∙ ap (λ t. 1 ∷ t) (append_assoc (be64 k.seq) (counted_stream k.stream) rest) in
    let head = read_head at bytes 1 k.seq _ (omega arith) parted in
    let stream = read_stream (at + 9) bytes k.stream rest facts.stream head.follows in
    record {
      version = head.first;
      head = record {
        version = inl head.first;
        within = omega (arith, head.size);
        fits = omega (arith, head.second);
      };
      some = omega (arith, head.second);
      stream = stream.there;
      is = key_by _ _ _ _ _ _ _ _ stream.is (sym plain.start) (sym plain.cluster) head.second;
      follows = stream.follows;
      size = stream.size;
    }

-- what stands there, where a key of version 2 does
pub record IsRead2 (at : ℕ) (bytes : List ℕ) (k : Key) (rest : List ℕ) : Type 0 where
  pub version : spelled_at at 1 bytes ≡ 2
  pub head : IsHeadThere at bytes
  pub within : at + 17 ≤ length bytes
  pub low : spelled_at (at + 9) 8 bytes < start_limit
  pub started : spelled_at (at + 9) 8 bytes < spelled_at (at + 1) 8 bytes
  pub stream : IsStreamThere (at + 17) bytes
  pub cluster : IsTextThere (behind_stream (at + 17) bytes) bytes
  pub is : guessed_2 at bytes ≡ k
  pub follows : drop (behind_text (behind_stream (at + 17) bytes) bytes) bytes ≡ rest
  pub size : behind_text (behind_stream (at + 17) bytes) bytes + length rest ≡ length bytes

-- a number of 8 bytes that stands there
start_read : (at start : ℕ) (bytes rest : List ℕ) → start < 2 ^ 64 → drop (at + 9) bytes ≡ be64 start ++ rest
    → (spelled_at (at + 9) 8 bytes ≡ start) × (drop (at + 17) bytes ≡ rest) × (length bytes - (at + 9) ≡ 8 + length rest)
start_read at start bytes rest small e =
    let next : drop (at + 9 + 8) bytes ≡ rest = sym (drop-drop 8 (at + 9) bytes) ∙ ap (drop 8) e in (
      ap (λ t. spelled (take 8 t)) e ∙ spelled-be64 start small,
      ap (λ n. drop n bytes) (omega arith) ∙ next,
      sym (length-drop (at + 9) bytes) ∙ (ap length e ∙ omega arith),
    )

pub read_2 : (at : ℕ) (bytes : List ℕ) (k : Key) (rest : List ℕ) → IsTrue (is_key k)
    → drop at bytes ≡ key_2 k ++ rest → IsRead2 at bytes k rest
unfolding key_2
read_2 at bytes k rest valid e =
    let facts = key_facts k valid in
    let fits = facts.fits in
    let low = facts.low in
    let started = facts.started in
    let texts : (counted_stream k.stream ++ counted k.cluster) ++ rest ≡ counted_stream k.stream ++ (counted k.cluster ++ rest) =
    append_assoc (counted_stream k.stream) (counted k.cluster) rest in
    let parted : drop at bytes ≡ 2 ∷ (be64 k.seq ++ (be64 k.start ++ (counted_stream k.stream ++ (counted k.cluster ++ rest)))) =
    e
    ∙ ap (λ t. 2 ∷ t)
    (append_assoc (be64 k.seq) (be64 k.start ++ (counted_stream k.stream ++ counted k.cluster)) rest
    ∙ ap (λ t. be64 k.seq ++ t)
    (append_assoc (be64 k.start) (counted_stream k.stream ++ counted k.cluster) rest
    ∙ ap (λ t. be64 k.start ++ t) texts)) in
    let head = read_head at bytes 2 k.seq _ (omega arith) parted in
    let start = start_read at k.start bytes _ (omega arith) head.follows in
    let stream = read_stream (at + 17) bytes k.stream _ facts.stream start.1 in
    let cluster = read_text (behind_stream (at + 17) bytes) bytes k.cluster rest facts.cluster stream.follows in
    record {
      version = head.first;
      head = record {
        version = inr head.first;
        within = omega (arith, head.size);
        fits = omega (arith, head.second);
      };
      within = omega (arith, head.size, start.2);
      low = omega (arith, start.0);
      started = omega (arith, start.0, head.second);
      stream = stream.there;
      cluster = cluster.there;
      is = key_by _ _ _ _ _ _ _ _ stream.is start.0 cluster.is head.second;
      follows = cluster.follows;
      size = cluster.size;
    }

-- no fault, and the key, where a key ends with the bytes
pub record IsReadKey (at : ℕ) (bytes : List ℕ) (k : Key) : Type 0 where
  pub fine : key_fault at bytes ≡ None
  pub is : guessed_key at bytes ≡ k

fine_1 : (at : ℕ) (bytes : List ℕ) (k : Key) → IsRead1 at bytes k [] → IsReadKey at bytes k
unfolding key_fault guessed_key
fine_1 at bytes k r =
    let one : is_version_1 at bytes ≡ true = eq-eqb (spelled_at at 1 bytes) 1 r.version in
    let rest = rest_1_fault-none at bytes record { some = r.some; stream = r.stream; last = omega (arith, r.size) } in
    record {
      fine = none_from _ _ (head_fault-none at bytes r.head) (none_from _ _ (cond-true _ _ _ one ∙ rest) none_left);
      is = cond-true _ _ _ one ∙ r.is;
    }

fine_2 : (at : ℕ) (bytes : List ℕ) (k : Key) → IsRead2 at bytes k [] → IsReadKey at bytes k
unfolding key_fault guessed_key
fine_2 at bytes k r =
    let two : is_version_1 at bytes ≡ false = ne_eqb (spelled_at at 1 bytes) 1 (λ e. omega (arith, r.version)) in
    let rest = rest_2_fault-none at bytes record {
      within = r.within;
      low = r.low;
      started = r.started;
      stream = r.stream;
      cluster = r.cluster;
      last = omega (arith, r.size);
    } in
    record {
      fine = none_from _ _ (head_fault-none at bytes r.head) (none_from _ _ (cond-false _ _ _ two ∙ rest) none_left);
      is = cond-false _ _ _ two ∙ r.is;
    }

pub key_read : (at : ℕ) (bytes : List ℕ) (k : Key) → IsKey k (drop at bytes) → IsReadKey at bytes k
key_read at bytes k (inl h) = fine_1 at bytes k (read_1 at bytes k [] h.0 (h.1 ∙ sym (append-nil (key_1 k))))
key_read at bytes k (inr h) = fine_2 at bytes k (read_2 at bytes k [] h.0 (h.1 ∙ sym (append-nil (key_2 k))))

by_version : (at : ℕ) (bytes : List ℕ) → AreBytes bytes → IsHeadThere at bytes
    → (spelled_at at 1 bytes ≡ 1) ⊎ (spelled_at at 1 bytes ≡ 2)
    → cond (is_version_1 at bytes) (rest_1_fault at bytes) (rest_2_fault at bytes) ≡ None
    → IsKey (guessed_key at bytes) (drop at bytes)
unfolding guessed_key
by_version at bytes each head (inl one) h =
    let first : is_version_1 at bytes ≡ true = eq-eqb (spelled_at at 1 bytes) 1 one in
    let there = rest_1_there at bytes (sym (cond-true _ _ _ first) ∙ h) in
    subst (λ k. IsKey k (drop at bytes)) (sym (cond-true _ _ _ first))
    (inl (is_key_1-guessed at bytes head there, key_1_spelled at bytes each head one there))
by_version at bytes each head (inr two) h =
    let other : is_version_1 at bytes ≡ false = ne_eqb (spelled_at at 1 bytes) 1 (λ e. omega arith) in
    let there = rest_2_there at bytes (sym (cond-false _ _ _ other) ∙ h) in
    subst (λ k. IsKey k (drop at bytes)) (sym (cond-false _ _ _ other))
    (inr (is_key-guessed at bytes head there, key_2_spelled at bytes each head two there))

-- bytes without a fault are the key that they are read as
pub key_from_faultless : (at : ℕ) (bytes : List ℕ) → AreBytes bytes → key_fault at bytes ≡ None
    → IsKey (guessed_key at bytes) (drop at bytes)
unfolding key_fault
key_from_faultless at bytes each h =
    let a = none_parts _ _ h in
    let b = none_parts _ _ a.1 in
    by_version at bytes each (head_there at bytes a.0) (head_there at bytes a.0).version b.0

-- an answer that is right at each place is right of the bytes as a key
pub answers_keys : {T : Type 0} (view : T → Key) (r : Result T ChunkFault) (bytes : List ℕ) → AreBytes bytes
    → IfOk r (λ _. key_fault 0 bytes ≡ None) → IfOk r (λ key. view key ≡ guessed_key 0 bytes)
    → IfOk r (λ key. IsKey (view key) bytes)
answers_keys view (Ok key) bytes each fine is =
    subst (λ k. IsKey k bytes) (sym is) (key_from_faultless 0 bytes each fine)
answers_keys view (Err fault) bytes each fine is = tt

pub answers_every_key : {T : Type 0} (view : T → Key) (r : Result T ChunkFault) (bytes : List ℕ)
    → IfErr r (λ fault. key_fault 0 bytes ≡ Some fault) → IfOk r (λ key. view key ≡ guessed_key 0 bytes)
    → (k : Key) → IsKey k bytes → IsOkAnd r (λ key. view key ≡ k)
answers_every_key view (Ok key) bytes wrong is k h = is ∙ (key_read 0 bytes k h).is
answers_every_key view (Err fault) bytes wrong is k h =
    let fine : key_fault 0 bytes ≡ None = (key_read 0 bytes k h).fine in
    absurd (cc)

valid_by_version : (at : ℕ) (bytes : List ℕ) → IsHeadThere at bytes
    → (spelled_at at 1 bytes ≡ 1) ⊎ (spelled_at at 1 bytes ≡ 2)
    → cond (is_version_1 at bytes) (rest_1_fault at bytes) (rest_2_fault at bytes) ≡ None
    → IsTrue (is_key (guessed_key at bytes))
unfolding guessed_key
valid_by_version at bytes head (inl one) h =
    let first : is_version_1 at bytes ≡ true = eq-eqb (spelled_at at 1 bytes) 1 one in
    let there = rest_1_there at bytes (sym (cond-true _ _ _ first) ∙ h) in
    subst (λ (k : Key). IsTrue (is_key k)) (sym (cond-true _ _ _ first))
    (and_parts _ _ (is_key_1-guessed at bytes head there)).0
valid_by_version at bytes head (inr two) h =
    let other : is_version_1 at bytes ≡ false = ne_eqb (spelled_at at 1 bytes) 1 (λ e. omega arith) in
    let there = rest_2_there at bytes (sym (cond-false _ _ _ other) ∙ h) in
    subst (λ (k : Key). IsTrue (is_key k)) (sym (cond-false _ _ _ other)) (is_key-guessed at bytes head there)

-- a key without a fault can be spelled
pub valid_from_faultless : (at : ℕ) (bytes : List ℕ) → key_fault at bytes ≡ None → IsTrue (is_key (guessed_key at bytes))
unfolding key_fault
valid_from_faultless at bytes h =
    let a = none_parts _ _ h in
    let b = none_parts _ _ a.1 in
    valid_by_version at bytes (head_there at bytes a.0) (head_there at bytes a.0).version b.0
