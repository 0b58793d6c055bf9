-- Bytes without a fault are a message, and a message's bytes have no fault and are read as its chunks.
use Rattle.std.proofs.Common.{◌≡◌, ℕ, zero, suc, ◌+◌, ◌-◌, ◌≤◌, true, false, Bool, cond, Some, Option, List, [], ◌∷◌, ◌++◌, length, take, drop, None, refl, sym, ap, ap₂, ◌∙◌, subst, arith, append_assoc}
use Rattle.std.specs.Prelude.{IsTrue, ◌↔◌, nat_lt, bytes_eq, ◌&&◌}
use Rattle.std.proofs.lemmas.Bool.{ltb-true, ltb-false, le-ltb, eqb-false, ne_eqb, and_parts, and_from, or_parts, or_from, cond-true, cond-false, false_from_ne_true}
use Rattle.std.proofs.lemmas.List.{length-drop, length-append, drop-drop, drop_all, append-nil, take-append-drop, take_all, take_at}
use Rattle.std.proofs.lemmas.Slice.Eq.{bytes_eq-Decides}
use Rattle.chk_bytes.specs.Laws.{AreBytes}
use Rattle.chk_bytes.specs.Numbers.{be32, be64, spelled, spelled_at}
use Rattle.chk_bytes.specs.Stems.{Stem, is_stem, is_count, stem_text}
use Rattle.chk_bytes.specs.Words.{BeginsWith}
use Rattle.chk_bytes.proofs.NumberLemmas.{spelled-be32}
use Rattle.chk_chunk.specs.Keys.{Chunk, Key, IsKey, is_chunk, counted, text_at, behind_text, guessed_key}
use Rattle.chk_chunk.specs.Posts.{post_part, part_at, behind_part, up_to_part, guessed_chunk}
use Rattle.chk_chunk.proofs.NumberLemmas.{be32-stands}
use Rattle.chk_chunk.proofs.PostGrammar.{IsChunkThere, chunk_is_valid, chunk_spelled, chunk_key_spelled, read_chunk, chunk_by}
use Rattle.chk_tee.specs.Messages.{Teed, IsTee, AreTeeParts, tee_part, tee_mark, is_teed, tee_limit, most_teed, stem_in, chunk_at, guessed_teed, behind_teed, guessed_teeds}
use Rattle.chk_tee.specs.Faults.{first_wrong, wrong_if, mark_wrong, offset_wrong, key_wrong, value_wrong, teed_wrong, teeds_wrong, tee_fault}
use Rattle.chk_tee.specs.Fields.{IsStemAt, IsOffsetAt, IsKeyAt, IsValueAt, IsTeedAt}
use Rattle.chk_tee.specs.declared.faults.TeeFault.{TeeFault}
use Rattle.chk_tee.specs.declared.faults.TeeFault.TheVariants.{NotTee, Short}
use Rattle.chk_tee.proofs.WrongLemmas.{wrong_parts, fine_left, fine_from, wrong_if-none, wrong_if-false, first_wrong-skip, first_wrong-only, first_wrong-stop}
use Rattle.chk_tee.proofs.FieldLemmas.{IsStemThere, stem_there, stem_wrong-none, stem_valid, stem_spelled, read_stem_at, IsOffsetThere, offset_there, offset_wrong-none, offset_spelled, read_offset_at, key_there, key_wrong-none, key_there_is_key, value_there, value_wrong-none}

-- ---- one chunk

-- a chunk stands there, behind its stem and its offset
pub record IsTeedThere (at : ℕ) (bytes : List ℕ) : Type 0 where
  pub stem : IsStemThere at bytes
  pub offset : IsOffsetThere (behind_text at bytes) bytes
  pub chunk : IsChunkThere (chunk_at at bytes) bytes

pub teed_there : (at : ℕ) (bytes : List ℕ) → AreBytes bytes → teed_wrong at bytes ≡ None → IsTeedThere at bytes
unfolding teed_wrong guessed_chunk
teed_there at bytes each h =
    let a = wrong_parts _ _ h in
    let b = wrong_parts _ _ a.1 in
    let d = wrong_parts _ _ b.1 in
    let e = wrong_parts _ _ d.1 in
    record {
      stem = stem_there at bytes a.0;
      offset = offset_there (behind_text at bytes) bytes b.0;
      chunk = record { key = key_there (chunk_at at bytes) bytes each d.0; value = value_there _ _ bytes e.0 };
    }

pub teed_wrong-none : (at : ℕ) (bytes : List ℕ) → AreBytes bytes → IsTeedThere at bytes → teed_wrong at bytes ≡ None
unfolding teed_wrong guessed_chunk
teed_wrong-none at bytes each there =
    let key = there.chunk.key in
    fine_from _ _ (stem_wrong-none at bytes there.stem)
    (fine_from _ _ (offset_wrong-none (behind_text at bytes) bytes there.offset)
    (fine_from _ _ (key_wrong-none (chunk_at at bytes) bytes _ key.within (key_there_is_key (chunk_at at bytes) bytes each key))
    (fine_from _ _ (value_wrong-none _ (behind_part (chunk_at at bytes) bytes) bytes there.chunk.value) fine_left)))

-- it can be spelled
pub teed_valid : (at : ℕ) (bytes : List ℕ) → IsTeedThere at bytes → IsTrue (is_teed (guessed_teed at bytes))
unfolding guessed_teed
teed_valid at bytes there =
    and_from _ _ (stem_valid at bytes there.stem)
    (and_from _ _ there.offset.count (chunk_is_valid (chunk_at at bytes) bytes there.chunk))

pub tee_part-parts : (t : Teed) (key rest : List ℕ)
    → tee_part t key ++ rest ≡ counted (stem_text t.stem) ++ (be64 t.offset ++ (post_part key t.chunk.value ++ rest))
tee_part-parts t key rest =
    append_assoc (counted (stem_text t.stem)) (be64 t.offset ++ post_part key t.chunk.value) rest
    ∙ ap (λ l. counted (stem_text t.stem) ++ l) (append_assoc (be64 t.offset) (post_part key t.chunk.value) rest)

-- and is spelled so
pub teed_spelled : (at : ℕ) (bytes : List ℕ) → AreBytes bytes → IsTeedThere at bytes
    → drop at bytes ≡ tee_part (guessed_teed at bytes) (part_at (chunk_at at bytes) bytes) ++ drop (behind_teed at bytes) bytes
unfolding guessed_teed
teed_spelled at bytes each there =
    let place : ℕ = behind_text at bytes in
    stem_spelled at bytes each there.stem
    ∙ (ap (λ l. counted (stem_text (stem_in (text_at at bytes))) ++ l)
    (offset_spelled place bytes each there.offset.within
    ∙ ap (λ l. be64 (spelled_at place 8 bytes) ++ l) (chunk_spelled (chunk_at at bytes) bytes each there.chunk))
    ∙ sym (tee_part-parts (guessed_teed at bytes) (part_at (chunk_at at bytes) bytes) (drop (behind_teed at bytes) bytes)))

pub teed_key_spelled : (at : ℕ) (bytes : List ℕ) → AreBytes bytes → IsTeedThere at bytes
    → IsKey (guessed_teed at bytes).chunk.key (part_at (chunk_at at bytes) bytes)
unfolding guessed_teed
teed_key_spelled at bytes each there = chunk_key_spelled (chunk_at at bytes) bytes each there.chunk

-- what stands there, where a chunk of a message does
pub record IsReadTeed (at : ℕ) (bytes : List ℕ) (t : Teed) (rest : List ℕ) : Type 0 where
  pub there : IsTeedThere at bytes
  pub is : guessed_teed at bytes ≡ t
  pub follows : drop (behind_teed at bytes) bytes ≡ rest

teed_by : (x y : Stem) (m n : ℕ) (c d : Chunk) → x ≡ y → m ≡ n → c ≡ d
    → Path Teed record { stem = x; offset = m; chunk = c } record { stem = y; offset = n; chunk = d }
teed_by x y m n c d p q r = cc

pub read_teed : (at : ℕ) (bytes : List ℕ) (t : Teed) (key rest : List ℕ) → IsTrue (is_teed t) → IsKey t.chunk.key key
    → drop at bytes ≡ tee_part t key ++ rest → IsReadTeed at bytes t rest
unfolding guessed_teed
read_teed at bytes t key rest valid spelled_key e =
    let a = and_parts (is_stem t.stem) (is_count t.offset && is_chunk t.chunk) valid in
    let b = and_parts (is_count t.offset) (is_chunk t.chunk) a.1 in
    let stem = read_stem_at at bytes t.stem _ a.0 (e ∙ tee_part-parts t key rest) in
    let offset = read_offset_at (behind_text at bytes) bytes t.offset _ b.0 stem.there.within stem.follows in
    let chunk = read_chunk (chunk_at at bytes) bytes t.chunk key rest b.1 spelled_key offset.follows in
    record {
      there = record { stem = stem.there; offset = offset.there; chunk = chunk.there };
      is = teed_by _ _ _ _ _ _ stem.is offset.is chunk.is;
      follows = chunk.follows;
    }

-- ---- so many chunks

pub teeds_there : (count at : ℕ) (bytes : List ℕ) → AreBytes bytes → teeds_wrong count at bytes ≡ None
    → AreTeeParts (guessed_teeds count at bytes) (drop at bytes)
teeds_there zero at bytes each h = drop_all at bytes (ltb-false at (length bytes) (wrong_if-none _ _ h))
teeds_there (suc count) at bytes each h =
    let a = wrong_parts _ _ h in
    let b = wrong_parts _ _ a.1 in
    let there = teed_there at bytes each a.0 in (
      part_at (chunk_at at bytes) bytes,
      drop (behind_teed at bytes) bytes,
      teed_valid at bytes there,
      teed_key_spelled at bytes each there,
      teed_spelled at bytes each there,
      teeds_there count (behind_teed at bytes) bytes each b.0,
    )

pub length-guessed_teeds : (count at : ℕ) (bytes : List ℕ) → length (guessed_teeds count at bytes) ≡ count
length-guessed_teeds zero at bytes = refl
length-guessed_teeds (suc count) at bytes = ap suc (length-guessed_teeds count (behind_teed at bytes) bytes)

-- the place behind so many chunks
abbrev pub behind_teeds : ℕ → ℕ → List ℕ → ℕ
behind_teeds zero at bytes = at
behind_teeds (suc count) at bytes = behind_teeds count (behind_teed at bytes) bytes

-- what stands there, where some chunks of a message do, one after the other
pub record AreReadTeeds (at : ℕ) (bytes : List ℕ) (ts : List Teed) (rest : List ℕ) : Type 0 where
  pub fine : AreBytes bytes → rest ≡ [] → teeds_wrong (length ts) at bytes ≡ None
  pub are : guessed_teeds (length ts) at bytes ≡ ts
  pub follows : drop (behind_teeds (length ts) at bytes) bytes ≡ rest

pub read_teeds : (ts : List Teed) (at : ℕ) (bytes parts rest : List ℕ) → AreTeeParts ts parts
    → drop at bytes ≡ parts ++ rest → AreReadTeeds at bytes ts rest
read_teeds [] at bytes parts rest none e =
    let follows : drop at bytes ≡ rest = e ∙ ap (λ t. t ++ rest) none in
    record {
      fine = λ each last.
          let size : length bytes - at ≡ 0 = sym (length-drop at bytes) ∙ ap length (follows ∙ last) in
          wrong_if-false _ _ (le-ltb at (length bytes) (omega arith));
      are = refl;
      follows = follows;
    }
read_teeds (t ∷ ts) at bytes parts rest (key, more, valid, spelled_key, is, others) e =
    let first = read_teed at bytes t key (more ++ rest) valid spelled_key
    (e ∙ (ap (λ l. l ++ rest) is ∙ append_assoc (tee_part t key) more rest)) in
    let later = read_teeds ts (behind_teed at bytes) bytes more rest others first.follows in
    record {
      fine = λ each last. fine_from _ _ (teed_wrong-none at bytes each first.there) (fine_from _ _ (later.fine each last) fine_left);
      are = ap₂ (λ d ds. d ∷ ds) first.is later.are;
      follows = later.follows;
    }

-- ---- the mark

mark_rest : (bytes : List ℕ) → take 5 bytes ≡ take (length bytes) tee_mark → 5 ≤ length bytes → take 5 bytes ≡ tee_mark
mark_rest bytes e long = e ∙ take_all (length bytes) tee_mark long

pub mark_there : (bytes : List ℕ) → mark_wrong bytes ≡ None → (take 5 bytes ≡ tee_mark) × (5 ≤ length bytes)
unfolding mark_wrong
mark_there bytes h = by_test (bytes_eq (take 5 bytes) (take (length bytes) tee_mark)) refl h
  where
    by_test : (b : Bool) → bytes_eq (take 5 bytes) (take (length bytes) tee_mark) ≡ b
        → cond b (wrong_if (nat_lt (length bytes) (0 + 5)) (Short 0)) (Some NotTee) ≡ None
        → (take 5 bytes ≡ tee_mark) × (5 ≤ length bytes)
    by_test true e h =
        let long : 5 ≤ length bytes = ltb-false (length bytes) (0 + 5) (wrong_if-none _ _ h) in
        (mark_rest bytes ((bytes_eq-Decides _ _).0 e) long, long)
    by_test false e h = absurd (cc)

pub mark_wrong-none : (bytes rest : List ℕ) → bytes ≡ tee_mark ++ rest → mark_wrong bytes ≡ None
unfolding mark_wrong
mark_wrong-none bytes rest e =
    let front : take 5 bytes ≡ tee_mark = ap (take 5) e in
    let size : length bytes ≡ 5 + length rest = ap length e ∙ omega arith in
    let whole : take (length bytes) tee_mark ≡ tee_mark = take_all (length bytes) tee_mark (omega arith) in
    cond-true _ _ _ ((bytes_eq-Decides _ _).1 (front ∙ sym whole))
    ∙ wrong_if-false _ _ (le-ltb (length bytes) (0 + 5) (omega arith))

-- ---- messages

pub tee_from_faultless : (bytes : List ℕ) → AreBytes bytes → tee_fault bytes ≡ None
    → IsTee (guessed_teeds (spelled_at 5 4 bytes) 9 bytes) bytes
unfolding tee_fault
tee_from_faultless bytes each h =
    let count : ℕ = spelled_at 5 4 bytes in
    let a = wrong_parts _ _ h in
    let b = wrong_parts _ _ a.1 in
    let d = wrong_parts _ _ b.1 in
    let e = wrong_parts _ _ d.1 in
    let f = wrong_parts _ _ e.1 in
    let mark = mark_there bytes b.0 in
    let bounds = or_parts _ _ (wrong_if-none _ _ e.0) in
    let some : (count ≡ 0 → ⊥) = eqb-false count 0 bounds.0 in
    let few : count ≤ 1000 = ltb-false most_teed count bounds.1 in
    let within : 5 + 4 ≤ length bytes = ltb-false (length bytes) (5 + 4) (wrong_if-none _ _ d.0) in
    let size : length (guessed_teeds count 9 bytes) ≡ count = length-guessed_teeds count 9 bytes in
    record {
      some = omega arith;
      few = omega arith;
      short = ltb-false tee_limit (length bytes) (wrong_if-none _ _ a.0);
      parts = drop 9 bytes;
      is =
          sym (take-append-drop 5 bytes)
          ∙ (ap (λ t. t ++ drop 5 bytes) mark.0
          ∙ ap (λ t. tee_mark ++ t)
          (sym (take-append-drop 4 (drop 5 bytes))
          ∙ (ap (λ t. take 4 (drop 5 bytes) ++ t) (drop-drop 4 5 bytes)
          ∙ ap (λ t. t ++ drop 9 bytes) (sym (be32-stands 5 bytes each within) ∙ ap be32 (sym size)))));
      are = teeds_there count 9 bytes each f.0;
    }

-- a message is read as its chunks, whatever follows it
pub record IsReadTee (bytes : List ℕ) (ts : List Teed) (rest : List ℕ) : Type 0 where
  pub count : spelled_at 5 4 bytes ≡ length ts
  pub chunks : AreReadTeeds 9 bytes ts rest

pub read_tee_of : (bytes tee : List ℕ) (ts : List Teed) (rest : List ℕ) → IsTee ts tee → bytes ≡ tee ++ rest
    → IsReadTee bytes ts rest
read_tee_of bytes tee ts rest h e =
    let few = h.few in
    let whole : bytes ≡ tee_mark ++ (be32 (length ts) ++ (h.parts ++ rest)) =
    e ∙ (ap (λ t. t ++ rest) h.is ∙ ap (λ t. tee_mark ++ t) (append_assoc (be32 (length ts)) h.parts rest)) in
    record {
      count = ap (λ t. spelled (take 4 (drop 5 t))) whole ∙ spelled-be32 (length ts) (omega arith);
      chunks = read_teeds ts 9 bytes h.parts rest h.are (ap (drop 9) whole);
    }

pub record IsReadWhole (bytes : List ℕ) (ts : List Teed) : Type 0 where
  pub fine : AreBytes bytes → tee_fault bytes ≡ None
  pub are : guessed_teeds (spelled_at 5 4 bytes) 9 bytes ≡ ts

pub tee_read : (bytes : List ℕ) (ts : List Teed) → IsTee ts bytes → IsReadWhole bytes ts
unfolding tee_fault
tee_read bytes ts h =
    let r = read_tee_of bytes bytes ts [] h (sym (append-nil bytes)) in
    let count : spelled_at 5 4 bytes ≡ length ts = r.count in
    let some = h.some in
    let few = h.few in
    let nine : 9 ≤ length bytes = omega (arith, ap length h.is) in
    record {
      fine =
          λ each.
          fine_from _ _ (wrong_if-false _ _ (le-ltb tee_limit (length bytes) h.short))
          (fine_from _ _ (mark_wrong-none bytes _ h.is)
          (fine_from _ _ (wrong_if-false _ _ (le-ltb (length bytes) (5 + 4) (omega arith)))
          (fine_from _ _
          (wrong_if-false _ _
          (or_from _ _ (ne_eqb (spelled_at 5 4 bytes) 0 (λ e. omega arith)) (le-ltb most_teed (spelled_at 5 4 bytes) (omega arith))))
          (fine_from _ _ (ap (λ n. teeds_wrong n 9 bytes) count ∙ r.chunks.fine each refl) fine_left))));
      are = ap (λ n. guessed_teeds n 9 bytes) count ∙ r.chunks.are;
    }

-- the laws of messages
pub one_tee : (ts us : List Teed) (bytes : List ℕ) → IsTee ts bytes → IsTee us bytes → ts ≡ us
one_tee ts us bytes h i = sym (tee_read bytes ts h).are ∙ (tee_read bytes us i).are

pub tee_alone : (ts us : List Teed) (a b : List ℕ) → IsTee ts a → IsTee us b → BeginsWith b a → a ≡ b
tee_alone ts us a b h i begins =
    let x = read_tee_of b a ts begins.0 h begins.1 in
    let y = read_tee_of b b us [] i (sym (append-nil b)) in
    let count : length ts ≡ length us = sym x.count ∙ y.count in
    let nothing : begins.0 ≡ [] =
    sym x.chunks.follows ∙ (ap (λ n. drop (behind_teeds n 9 b) b) count ∙ y.chunks.follows) in
    sym (begins.1 ∙ (ap (λ t. a ++ t) nothing ∙ append-nil a))

-- ---- what the functions that read need

-- the fields that were found are a chunk
pub teed_found : (at : ℕ) (bytes : List ℕ) (x : Stem) (p n : ℕ) (key : Key) (q : ℕ) (value : List ℕ) (end : ℕ) → AreBytes bytes
    → IsStemAt at bytes x p → IsOffsetAt p bytes n → IsKeyAt (p + 8) bytes key q → IsValueAt key q bytes value end
    → IsTeedAt at bytes record { stem = x; offset = n; chunk = record { key = key; value = value } } end
unfolding teed_wrong guessed_teed guessed_chunk
teed_found at bytes x p n key q value end each s o k v =
    let place : p ≡ behind_text at bytes = s.behind in
    let last : q ≡ behind_part (chunk_at at bytes) bytes = k.behind ∙ ap (λ m. behind_part (m + 8) bytes) place in
    let same : key ≡ guessed_key (chunk_at at bytes + 4) (up_to_part (chunk_at at bytes) bytes) =
    k.is ∙ ap (λ m. guessed_key (m + 8 + 4) (up_to_part (m + 8) bytes)) place in
    let fine : teed_wrong at bytes ≡ None =
    fine_from _ _ s.fine
    (fine_from _ _ (ap (λ m. offset_wrong m bytes) (sym place) ∙ o.fine)
    (fine_from _ _ (ap (λ m. key_wrong (m + 8) bytes) (sym place) ∙ k.fine)
    (fine_from _ _ (ap₂ (λ l m. value_wrong l m bytes) (sym same) (sym last) ∙ v.fine) fine_left))) in
    let is : Path Teed record { stem = x; offset = n; chunk = record { key = key; value = value } } (guessed_teed at bytes) =
    teed_by _ _ _ _ _ _ s.is (o.is ∙ ap (λ m. spelled_at m 8 bytes) place)
    (chunk_by _ _ _ _ same (v.is ∙ ap (λ m. part_at m bytes) last)) in
    record {
      fine = fine;
      is = is;
      valid = subst (λ (t : Teed). IsTrue (is_teed t)) (sym is) (teed_valid at bytes (teed_there at bytes each fine));
      behind = v.behind ∙ ap (λ m. behind_part m bytes) last;
      within = v.within;
    }

pub teeds_step : (count at : ℕ) (bytes : List ℕ) → (count ≡ 0 → ⊥)
    → teeds_wrong count at bytes ≡ first_wrong (teed_wrong at bytes ∷ teeds_wrong (count - 1) (behind_teed at bytes) bytes ∷ [])
teeds_step zero at bytes some = absurd (some refl)
teeds_step (suc count) at bytes some =
    ap (λ n. first_wrong (teed_wrong at bytes ∷ teeds_wrong n (behind_teed at bytes) bytes ∷ [])) (omega arith)

pub one_and_more : (count at : ℕ) (bytes : List ℕ) → (count ≡ 0 → ⊥) → teeds_wrong count at bytes ≡ None
    → (teed_wrong at bytes ≡ None) × (teeds_wrong (count - 1) (behind_teed at bytes) bytes ≡ None)
one_and_more count at bytes some h =
    let a = wrong_parts _ _ (sym (teeds_step count at bytes some) ∙ h) in
    (a.0, (wrong_parts _ _ a.1).0)

pub teeds_next : (count at n end : ℕ) (bytes : List ℕ) → (count ≡ 0 → ⊥) → teed_wrong at bytes ≡ None
    → n ≡ count - 1 → end ≡ behind_teed at bytes → teeds_wrong n end bytes ≡ teeds_wrong count at bytes
teeds_next count at n end bytes some fine less behind =
    ap₂ (λ m e. teeds_wrong m e bytes) less behind
    ∙ sym (teeds_step count at bytes some ∙ (first_wrong-skip _ _ fine ∙ first_wrong-only _))

pub teeds_stop : (count at : ℕ) (bytes : List ℕ) (fault : TeeFault) → (count ≡ 0 → ⊥) → teed_wrong at bytes ≡ Some fault
    → teeds_wrong count at bytes ≡ Some fault
teeds_stop count at bytes fault some wrong = teeds_step count at bytes some ∙ first_wrong-stop _ _ fault wrong

pub teeds_from_tee : (count : ℕ) (bytes : List ℕ) → tee_fault bytes ≡ None → count ≡ spelled_at 5 4 bytes
    → teeds_wrong count 9 bytes ≡ None
unfolding tee_fault
teeds_from_tee count bytes h is =
    let a = wrong_parts _ _ h in
    let b = wrong_parts _ _ a.1 in
    let d = wrong_parts _ _ b.1 in
    let e = wrong_parts _ _ d.1 in
    ap (λ n. teeds_wrong n 9 bytes) is ∙ (wrong_parts _ _ e.1).0

-- the first bytes are no others' exactly where neither begins the other
no_short : (b : Bool) → Path (Option TeeFault) (wrong_if b (Short 0)) (Some NotTee) → ⊥
unfolding wrong_if
no_short true h = cc
no_short false h = cc

marks_apart : (bytes : List ℕ) → mark_wrong bytes ≡ Some NotTee → (take 5 bytes ≡ take (length bytes) tee_mark → ⊥)
unfolding mark_wrong wrong_if
marks_apart bytes h e =
    let same : bytes_eq (take 5 bytes) (take (length bytes) tee_mark) ≡ true = (bytes_eq-Decides _ _).1 e in
    no_short (nat_lt (length bytes) (0 + 5)) (sym (cond-true _ _ _ same) ∙ h)

long_begins : (bytes : List ℕ) → take 5 bytes ≡ take (length bytes) tee_mark → 5 ≤ length bytes → BeginsWith bytes tee_mark
long_begins bytes e long =
    (drop 5 bytes, sym (take-append-drop 5 bytes) ∙ ap (λ t. t ++ drop 5 bytes) (mark_rest bytes e long))

short_begins : (bytes : List ℕ) → take 5 bytes ≡ take (length bytes) tee_mark → length bytes ≤ 5 → BeginsWith tee_mark bytes
short_begins bytes e short = (
  drop (length bytes) tee_mark,
  sym (take-append-drop (length bytes) tee_mark)
      ∙ ap (λ t. t ++ drop (length bytes) tee_mark) (sym e ∙ take_all 5 bytes short),
)

neither : (bytes : List ℕ) → take 5 bytes ≡ take (length bytes) tee_mark
    → (BeginsWith bytes tee_mark → ⊥) × (BeginsWith tee_mark bytes → ⊥) → ⊥
neither bytes e apart = by_long (nat_lt (length bytes) 5) refl
  where
    by_long : (b : Bool) → nat_lt (length bytes) 5 ≡ b → ⊥
    by_long true t = apart.1 (short_begins bytes e (let low = ltb-true (length bytes) 5 t in omega arith))
    by_long false t = apart.0 (long_begins bytes e (ltb-false (length bytes) 5 t))

pub not_tee : (bytes : List ℕ)
    → (mark_wrong bytes ≡ Some NotTee) ↔ ((BeginsWith bytes tee_mark → ⊥) × (BeginsWith tee_mark bytes → ⊥))
unfolding mark_wrong
not_tee bytes = (
  λ h. (
    λ (rest, e). let none = mark_wrong-none bytes rest e in absurd (cc),
    λ (rest, e).
        let size : 5 ≡ length bytes + length rest = ap length e ∙ length-append bytes rest in
        marks_apart bytes h
        (take_all 5 bytes (omega arith) ∙ (sym (take_at bytes rest (length bytes) refl) ∙ ap (take (length bytes)) (sym e))),
  ),
  λ apart.
      let other : bytes_eq (take 5 bytes) (take (length bytes) tee_mark) ≡ false =
      false_from_ne_true _ (λ t. neither bytes ((bytes_eq-Decides _ _).0 t) apart) in
      cond-false _ _ _ other,
)
