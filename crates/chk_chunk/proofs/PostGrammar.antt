-- Bytes without a fault are a post, and a post's bytes have no fault and are read as its chunks.
use Rattle.std.proofs.Common.{◌≡◌, ℕ, zero, suc, ◌+◌, ◌-◌, ◌<◌, ◌≤◌, ◌^◌, true, List, [], ◌∷◌, ◌++◌, length, take, drop, None, refl, sym, ap, ap₂, ◌∙◌, subst, arith, append_assoc}
use Rattle.std.specs.Prelude.{IsTrue}
use Rattle.std.proofs.lemmas.Bool.{ltb-true, lt-ltb, ltb-false, le-ltb, leb-true, le-leb, eqb-false, ne_eqb, and_parts, and_from}
use Rattle.std.proofs.lemmas.List.{length-drop, length-append, length-take-le, drop-drop, drop_all, drop-take, append-nil, take-append-drop, take_at, drop_at}
use Rattle.chk_bytes.specs.Numbers.{be32, spelled, spelled_at, with_length}
use Rattle.chk_bytes.specs.Words.{BeginsWith}
use Rattle.chk_chunk.specs.Keys.{Key, Chunk, IsKey, is_key, is_chunk, has_value, chunk_limit, guessed_key}
use Rattle.chk_chunk.specs.Posts.{IsPost, ArePostParts, post_part, post_limit, most_chunks, part_at, behind_part, up_to_part, guessed_chunk, behind_chunk, guessed_chunks}
use Rattle.chk_chunk.specs.Faults.{first_fault, key_fault, key_field_fault, value_field_fault, chunk_fault, chunks_fault, post_fault}
use Rattle.chk_chunk.proofs.FieldLemmas.{first_fault-skip, first_fault-only, none_parts, none_from, none_left, fault_if-none, fault_if-false}
use Rattle.chk_chunk.proofs.KeyReading.{key_read, key_from_faultless, valid_from_faultless}
use Rattle.chk_chunk.proofs.KeySizes.{key_size}
use Rattle.chk_chunk.proofs.KeyLemmas.{key_facts}
use Rattle.chk_bytes.specs.Laws.{AreBytes}
use Rattle.chk_bytes.proofs.NumberLemmas.{spelled-be32}
use Rattle.chk_chunk.proofs.NumberLemmas.{AreBytes-take, be32-stands}

part_length : (at : ℕ) (body : List ℕ) → behind_part at body ≤ length body → length (part_at at body) ≡ spelled_at at 4 body
part_length at body within =
    length-take-le (spelled_at at 4 body) (drop (at + 4) body) (let n = length-drop (at + 4) body in omega arith)

-- some bytes behind their length
pub part_spelled : (at : ℕ) (body : List ℕ) → AreBytes body → behind_part at body ≤ length body
    → drop at body ≡ with_length (part_at at body) ++ drop (behind_part at body) body
part_spelled at body each within =
    let size = spelled_at at 4 body in
    let part = part_at at body in
    let size_is : length part ≡ size = part_length at body within in
    let head : take 4 (drop at body) ≡ be32 (length part) =
    sym (be32-stands at body each (omega arith)) ∙ ap be32 (sym size_is) in
    let more : drop (at + 4) body ≡ part ++ drop (at + 4 + size) body =
    sym (take-append-drop size (drop (at + 4) body)) ∙ ap (λ t. part ++ t) (drop-drop size (at + 4) body) in
    sym (take-append-drop 4 (drop at body))
    ∙ (ap (λ t. take 4 (drop at body) ++ t) (drop-drop 4 at body)
    ∙ (ap (λ t. t ++ drop (at + 4) body) head
    ∙ (ap (λ t. be32 (length part) ++ t) more
    ∙ sym (append_assoc (be32 (length part)) part (drop (at + 4 + size) body)))))

-- what stands there, where some bytes behind their length do
pub record IsReadPart (at : ℕ) (body part rest : List ℕ) : Type 0 where
  pub within : behind_part at body ≤ length body
  pub is : part_at at body ≡ part
  pub follows : drop (behind_part at body) body ≡ rest
  pub size : behind_part at body + length rest ≡ length body

pub read_part : (at : ℕ) (body part rest : List ℕ) → length part < 2 ^ 32 → drop at body ≡ with_length part ++ rest
    → IsReadPart at body part rest
read_part at body part rest small e =
    let size_is : spelled_at at 4 body ≡ length part =
    ap (λ t. spelled (take 4 t)) e ∙ spelled-be32 (length part) small in
    let behind : drop (at + 4) body ≡ part ++ rest = sym (drop-drop 4 at body) ∙ ap (drop 4) e in
    let whole : length body - at ≡ 4 + (length part + length rest) =
    sym (length-drop at body) ∙ (ap length e ∙ omega (arith, length-append part rest)) in
    record {
      within = omega arith;
      is = ap (λ n. take n (drop (at + 4) body)) size_is ∙ (ap (take (length part)) behind ∙ take_at part rest (length part) refl);
      follows =
          ap (λ n. drop (at + 4 + n) body) size_is
          ∙ (sym (drop-drop (length part) (at + 4) body)
          ∙ (ap (drop (length part)) behind ∙ drop_at part rest (length part) refl));
      size = omega arith;
    }

-- the key's bytes end where their length says
pub key_part : (at : ℕ) (body : List ℕ) → drop (at + 4) (up_to_part at body) ≡ part_at at body
key_part at body = drop-take (at + 4) (spelled_at at 4 body) body

-- a key stands behind its length
pub record IsKeyThere (at : ℕ) (body : List ℕ) : Type 0 where
  pub within : behind_part at body ≤ length body
  pub fine : key_fault (at + 4) (up_to_part at body) ≡ None

pub key_there : (at : ℕ) (body : List ℕ) → key_field_fault at body ≡ None → IsKeyThere at body
unfolding key_field_fault
key_there at body h =
    let a = none_parts _ _ h in
    let b = none_parts _ _ a.1 in
    let d = none_parts _ _ b.1 in
    record {
      within = ltb-false (length body) (at + 4 + spelled_at at 4 body) (fault_if-none _ _ b.0);
      fine = d.0;
    }

pub key_field_fault-none : (at : ℕ) (body : List ℕ) → IsKeyThere at body → key_field_fault at body ≡ None
unfolding key_field_fault
key_field_fault-none at body there =
    let within = there.within in
    none_from _ _ (fault_if-false _ _ (le-ltb (length body) (at + 4) (omega arith)))
    (none_from _ _ (fault_if-false _ _ (le-ltb (length body) (at + 4 + spelled_at at 4 body) within))
    (none_from _ _ there.fine none_left))

-- the data of a chunk with this key stands behind its length
pub record IsValueThere (key : Key) (at : ℕ) (body : List ℕ) : Type 0 where
  pub within : behind_part at body ≤ length body
  pub some : 0 < spelled_at at 4 body
  pub most : spelled_at at 4 body ≤ chunk_limit
  pub begun : key.start + spelled_at at 4 body ≤ key.seq

pub value_there : (key : Key) (at : ℕ) (body : List ℕ) → value_field_fault key at body ≡ None → IsValueThere key at body
unfolding value_field_fault
value_there key at body h =
    let size = spelled_at at 4 body in
    let a = none_parts _ _ h in
    let b = none_parts _ _ a.1 in
    let d = none_parts _ _ b.1 in
    let e = none_parts _ _ d.1 in
    let f = none_parts _ _ e.1 in
    let some : (size ≡ 0 → ⊥) = eqb-false size 0 (fault_if-none _ _ b.0) in
    record {
      within = ltb-false (length body) (at + 4 + size) (fault_if-none _ _ f.0);
      some = omega arith;
      most = ltb-false chunk_limit size (fault_if-none _ _ d.0);
      begun = ltb-false key.seq (key.start + size) (fault_if-none _ _ e.0);
    }

pub value_field_fault-none : (key : Key) (at : ℕ) (body : List ℕ) → IsValueThere key at body
    → value_field_fault key at body ≡ None
unfolding value_field_fault
value_field_fault-none key at body there =
    let size = spelled_at at 4 body in
    let within = there.within in
    let some = there.some in
    none_from _ _ (fault_if-false _ _ (le-ltb (length body) (at + 4) (omega arith)))
    (none_from _ _ (fault_if-false _ _ (ne_eqb size 0 (λ e. omega arith)))
    (none_from _ _ (fault_if-false _ _ (le-ltb chunk_limit size there.most))
    (none_from _ _ (fault_if-false _ _ (le-ltb key.seq (key.start + size) there.begun))
    (none_from _ _ (fault_if-false _ _ (le-ltb (length body) (at + 4 + size) within)) none_left))))

-- a chunk's value is as a chunk's should be
pub record ValueFacts (key : Key) (value : List ℕ) : Type 0 where
  pub some : 0 < length value
  pub most : length value ≤ chunk_limit
  pub begun : key.start + length value ≤ key.seq

pub value_facts : (key : Key) (value : List ℕ) → has_value chunk_limit key value ≡ true → ValueFacts key value
value_facts key value h =
    let a = and_parts _ _ h in
    let b = and_parts _ _ a.1 in
    record {
      some = ltb-true 0 (length value) a.0;
      most = leb-true (length value) chunk_limit b.0;
      begun = leb-true (key.start + length value) key.seq b.1;
    }

pub value_from_facts : (key : Key) (value : List ℕ) → ValueFacts key value → has_value chunk_limit key value ≡ true
value_from_facts key value f =
    and_from _ _ (lt-ltb 0 (length value) f.some)
    (and_from _ _ (le-leb (length value) chunk_limit f.most) (le-leb (key.start + length value) key.seq f.begun))

-- a chunk stands there
pub record IsChunkThere (at : ℕ) (body : List ℕ) : Type 0 where
  pub key : IsKeyThere at body
  pub value : IsValueThere (guessed_key (at + 4) (up_to_part at body)) (behind_part at body) body

pub chunk_there : (at : ℕ) (body : List ℕ) → chunk_fault at body ≡ None → IsChunkThere at body
unfolding chunk_fault guessed_chunk
chunk_there at body h =
    let a = none_parts _ _ h in
    let b = none_parts _ _ a.1 in
    record { key = key_there at body a.0; value = value_there _ _ body b.0 }

pub chunk_fault-none : (at : ℕ) (body : List ℕ) → IsChunkThere at body → chunk_fault at body ≡ None
unfolding chunk_fault guessed_chunk
chunk_fault-none at body there =
    none_from _ _ (key_field_fault-none at body there.key)
    (none_from _ _ (value_field_fault-none _ (behind_part at body) body there.value) none_left)

-- the chunk that is read there can be spelled
pub chunk_is_valid : (at : ℕ) (body : List ℕ) → IsChunkThere at body → IsTrue (is_chunk (guessed_chunk at body))
unfolding guessed_chunk
chunk_is_valid at body there =
    let size = part_length (behind_part at body) body there.value.within in
    let some = there.value.some in
    let most = there.value.most in
    let begun = there.value.begun in
    and_from _ _ (valid_from_faultless (at + 4) (up_to_part at body) there.key.fine)
    (value_from_facts (guessed_key (at + 4) (up_to_part at body)) (part_at (behind_part at body) body) record {
      some = omega arith;
      most = omega arith;
      begun = omega arith;
    })

-- and it is spelled so
pub chunk_spelled : (at : ℕ) (body : List ℕ) → AreBytes body → IsChunkThere at body
    → drop at body ≡ post_part (part_at at body) (guessed_chunk at body).value ++ drop (behind_chunk at body) body
unfolding guessed_chunk
chunk_spelled at body each there =
    part_spelled at body each there.key.within
    ∙ (ap (λ t. with_length (part_at at body) ++ t) (part_spelled (behind_part at body) body each there.value.within)
    ∙ sym (append_assoc (with_length (part_at at body)) (with_length (part_at (behind_part at body) body)) _))

pub chunk_key_spelled : (at : ℕ) (body : List ℕ) → AreBytes body → IsChunkThere at body
    → IsKey (guessed_chunk at body).key (part_at at body)
unfolding guessed_chunk
chunk_key_spelled at body each there =
    subst (λ (bytes : List ℕ). IsKey (guessed_key (at + 4) (up_to_part at body)) bytes) (key_part at body)
    (key_from_faultless (at + 4) (up_to_part at body) (AreBytes-take (behind_part at body) body each) there.key.fine)

-- what stands there, where a chunk does
pub record IsReadChunk (at : ℕ) (body : List ℕ) (c : Chunk) (rest : List ℕ) : Type 0 where
  pub there : IsChunkThere at body
  pub is : guessed_chunk at body ≡ c
  pub follows : drop (behind_chunk at body) body ≡ rest
  pub size : behind_chunk at body + length rest ≡ length body

pub chunk_by : (k l : Key) (v w : List ℕ) → k ≡ l → v ≡ w → Path Chunk record { key = k; value = v } record { key = l; value = w }
chunk_by k l v w h i = cc

pub read_chunk : (at : ℕ) (body : List ℕ) (c : Chunk) (key rest : List ℕ) → IsTrue (is_chunk c) → IsKey c.key key
    → drop at body ≡ post_part key c.value ++ rest → IsReadChunk at body c rest
unfolding guessed_chunk
read_chunk at body c key rest valid spelled_key e =
    let facts = value_facts c.key c.value (and_parts (is_key c.key) (has_value chunk_limit c.key c.value) valid).1 in
    let some = facts.some in
    let most = facts.most in
    let begun = facts.begun in
    let short = key_size c.key key spelled_key in
    let front = read_part at body key (with_length c.value ++ rest) (omega arith)
    (e ∙ append_assoc (with_length key) (with_length c.value) rest) in
    let back = read_part (behind_part at body) body c.value rest (omega arith) front.follows in
    let read = key_read (at + 4) (up_to_part at body) c.key
    (subst (λ (bytes : List ℕ). IsKey c.key bytes) (sym (key_part at body ∙ front.is)) spelled_key) in
    let size : spelled_at (behind_part at body) 4 body ≡ length c.value =
    sym (part_length (behind_part at body) body back.within) ∙ ap length back.is in
    let key_is : guessed_key (at + 4) (up_to_part at body) ≡ c.key = read.is in
    record {
      there = record {
        key = record { within = front.within; fine = read.fine };
        value = subst (λ (k : Key). IsValueThere k (behind_part at body) body) (sym key_is) record {
          within = back.within;
          some = omega arith;
          most = omega arith;
          begun = omega arith;
        };
      };
      is = chunk_by _ _ _ _ key_is back.is;
      follows = back.follows;
      size = back.size;
    }

-- so many chunks stand there, one after the other
pub chunks_there : (count at : ℕ) (body : List ℕ) → AreBytes body → chunks_fault count at body ≡ None
    → ArePostParts (guessed_chunks count at body) (drop at body)
chunks_there zero at body each h = drop_all at body (ltb-false at (length body) (fault_if-none _ _ h))
chunks_there (suc count) at body each h =
    let a = none_parts _ _ h in
    let b = none_parts _ _ a.1 in
    let there = chunk_there at body a.0 in (
      part_at at body,
      drop (behind_chunk at body) body,
      chunk_is_valid at body there,
      chunk_key_spelled at body each there,
      chunk_spelled at body each there,
      chunks_there count (behind_chunk at body) body each b.0,
    )

pub length-guessed_chunks : (count at : ℕ) (body : List ℕ) → length (guessed_chunks count at body) ≡ count
length-guessed_chunks zero at body = refl
length-guessed_chunks (suc count) at body = ap suc (length-guessed_chunks count (behind_chunk at body) body)

-- the place behind so many chunks
abbrev pub behind_chunks : ℕ → ℕ → List ℕ → ℕ
behind_chunks zero at body = at
behind_chunks (suc count) at body = behind_chunks count (behind_chunk at body) body

-- what stands there, where some chunks do, one after the other
pub record AreReadChunks (at : ℕ) (body : List ℕ) (cs : List Chunk) (rest : List ℕ) : Type 0 where
  pub fine : rest ≡ [] → chunks_fault (length cs) at body ≡ None
  pub are : guessed_chunks (length cs) at body ≡ cs
  pub follows : drop (behind_chunks (length cs) at body) body ≡ rest

pub read_chunks : (cs : List Chunk) (at : ℕ) (body parts rest : List ℕ) → ArePostParts cs parts
    → drop at body ≡ parts ++ rest → AreReadChunks at body cs rest
read_chunks [] at body parts rest none e =
    let follows : drop at body ≡ rest = e ∙ ap (λ t. t ++ rest) none in
    record {
      fine = λ last.
          let size : length body - at ≡ 0 = sym (length-drop at body) ∙ ap length (follows ∙ last) in
          fault_if-false _ _ (le-ltb at (length body) (omega arith));
      are = refl;
      follows = follows;
    }
read_chunks (c ∷ cs) at body parts rest (key, more, valid, spelled_key, is, others) e =
    let first = read_chunk at body c key (more ++ rest) valid spelled_key
    (e ∙ (ap (λ t. t ++ rest) is ∙ append_assoc (post_part key c.value) more rest)) in
    let later = read_chunks cs (behind_chunk at body) body more rest others first.follows in
    record {
      fine = λ last. none_from _ _ (chunk_fault-none at body first.there) (none_from _ _ (later.fine last) none_left);
      are = ap₂ (λ d ds. d ∷ ds) first.is later.are;
      follows = later.follows;
    }

-- bytes without a fault are a post of the chunks that they are read as
pub post_from_faultless : (body : List ℕ) → AreBytes body → post_fault body ≡ None
    → IsPost (guessed_chunks (spelled_at 0 4 body) 4 body) body
unfolding post_fault
post_from_faultless body each h =
    let count : ℕ = spelled_at 0 4 body in
    let a = none_parts _ _ h in
    let b = none_parts _ _ a.1 in
    let d = none_parts _ _ b.1 in
    let e = none_parts _ _ d.1 in
    let f = none_parts _ _ e.1 in
    let some : (count ≡ 0 → ⊥) = eqb-false count 0 (fault_if-none _ _ d.0) in
    let few : count ≤ most_chunks = ltb-false most_chunks count (fault_if-none _ _ e.0) in
    let within : 0 + 4 ≤ length body = ltb-false (length body) (0 + 4) (fault_if-none _ _ b.0) in
    let size : length (guessed_chunks count 4 body) ≡ count = length-guessed_chunks count 4 body in
    record {
      some = omega arith;
      few = omega arith;
      short = ltb-false post_limit (length body) (fault_if-none _ _ a.0);
      parts = drop 4 body;
      is =
          sym (take-append-drop 4 body)
          ∙ ap (λ t. t ++ drop 4 body) (sym (be32-stands 0 body each within) ∙ ap be32 (sym size));
      are = chunks_there count 4 body each f.0;
    }

-- a post is read as its chunks, whatever follows it
pub record IsReadPost (body : List ℕ) (cs : List Chunk) (rest : List ℕ) : Type 0 where
  pub count : spelled_at 0 4 body ≡ length cs
  pub chunks : AreReadChunks 4 body cs rest

pub read_post_of : (body post : List ℕ) (cs : List Chunk) (rest : List ℕ) → IsPost cs post → body ≡ post ++ rest
    → IsReadPost body cs rest
read_post_of body post cs rest h e =
    let few = h.few in
    let whole : body ≡ be32 (length cs) ++ (h.parts ++ rest) =
    e ∙ (ap (λ t. t ++ rest) h.is ∙ append_assoc (be32 (length cs)) h.parts rest) in
    record {
      count = ap (λ t. spelled (take 4 t)) whole ∙ spelled-be32 (length cs) (omega arith);
      chunks = read_chunks cs 4 body h.parts rest h.are (ap (drop 4) whole);
    }

pub record IsReadWhole (body : List ℕ) (cs : List Chunk) : Type 0 where
  pub fine : post_fault body ≡ None
  pub are : guessed_chunks (spelled_at 0 4 body) 4 body ≡ cs

pub post_read : (body : List ℕ) (cs : List Chunk) → IsPost cs body → IsReadWhole body cs
unfolding post_fault
post_read body cs h =
    let r = read_post_of body body cs [] h (sym (append-nil body)) in
    let count : spelled_at 0 4 body ≡ length cs = r.count in
    let some = h.some in
    let few = h.few in
    let four : 4 ≤ length body = omega (arith, ap length h.is) in
    record {
      fine =
          none_from _ _ (fault_if-false _ _ (le-ltb post_limit (length body) h.short))
          (none_from _ _ (fault_if-false _ _ (le-ltb (length body) (0 + 4) (omega arith)))
          (none_from _ _ (fault_if-false _ _ (ne_eqb (spelled_at 0 4 body) 0 (λ e. omega arith)))
          (none_from _ _ (fault_if-false _ _ (le-ltb most_chunks (spelled_at 0 4 body) (omega arith)))
          (none_from _ _ (ap (λ n. chunks_fault n 4 body) count ∙ r.chunks.fine refl) none_left))));
      are = ap (λ n. guessed_chunks n 4 body) count ∙ r.chunks.are;
    }

-- the laws of posts
pub one_post : (cs ds : List Chunk) (body : List ℕ) → IsPost cs body → IsPost ds body → cs ≡ ds
one_post cs ds body h i = sym (post_read body cs h).are ∙ (post_read body ds i).are

pub post_alone : (cs ds : List Chunk) (a b : List ℕ) → IsPost cs a → IsPost ds b → BeginsWith b a → a ≡ b
post_alone cs ds a b h i begins =
    let x = read_post_of b a cs begins.0 h begins.1 in
    let y = read_post_of b b ds [] i (sym (append-nil b)) in
    let count : length cs ≡ length ds = sym x.count ∙ y.count in
    let nothing : begins.0 ≡ [] =
    sym x.chunks.follows ∙ (ap (λ n. drop (behind_chunks n 4 b) b) count ∙ y.chunks.follows) in
    sym (begins.1 ∙ (ap (λ t. a ++ t) nothing ∙ append-nil a))

-- the start of a key without a fault is low
pub start_below : (at : ℕ) (body : List ℕ) (k : Key) → key_field_fault at body ≡ None
    → k ≡ guessed_key (at + 4) (up_to_part at body) → k.start < 2 ^ 62
start_below at body k h is =
    let valid = valid_from_faultless (at + 4) (up_to_part at body) (key_there at body h).fine in
    let low : (guessed_key (at + 4) (up_to_part at body)).start < 2 ^ 62 = (key_facts _ valid).low in
    let same : k.start ≡ (guessed_key (at + 4) (up_to_part at body)).start = ap (λ (x : Key). x.start) is in
    omega arith

-- one of so many chunks
pub chunks_step : (count at : ℕ) (body : List ℕ) → (count ≡ 0 → ⊥)
    → chunks_fault count at body ≡ first_fault (chunk_fault at body ∷ chunks_fault (count - 1) (behind_chunk at body) body ∷ [])
chunks_step zero at body some = absurd (some refl)
chunks_step (suc count) at body some =
    ap (λ n. first_fault (chunk_fault at body ∷ chunks_fault n (behind_chunk at body) body ∷ [])) (omega arith)

pub one_and_more : (count at : ℕ) (body : List ℕ) → (count ≡ 0 → ⊥) → chunks_fault count at body ≡ None
    → (chunk_fault at body ≡ None) × (chunks_fault (count - 1) (behind_chunk at body) body ≡ None)
one_and_more count at body some h =
    let a = none_parts _ _ (sym (chunks_step count at body some) ∙ h) in
    (a.0, (none_parts _ _ a.1).0)

pub chunks_next : (count at n end : ℕ) (body : List ℕ) → (count ≡ 0 → ⊥) → chunk_fault at body ≡ None
    → n ≡ count - 1 → end ≡ behind_chunk at body → chunks_fault n end body ≡ chunks_fault count at body
chunks_next count at n end body some fine less behind =
    ap₂ (λ m e. chunks_fault m e body) less behind
    ∙ sym (chunks_step count at body some ∙ (first_fault-skip _ _ fine ∙ first_fault-only _))

pub chunks_from_post : (count : ℕ) (body : List ℕ) → post_fault body ≡ None → count ≡ spelled_at 0 4 body
    → chunks_fault count 4 body ≡ None
unfolding post_fault
chunks_from_post count body h is =
    let a = none_parts _ _ h in
    let b = none_parts _ _ a.1 in
    let d = none_parts _ _ b.1 in
    let e = none_parts _ _ d.1 in
    ap (λ n. chunks_fault n 4 body) is ∙ (none_parts _ _ e.1).0
