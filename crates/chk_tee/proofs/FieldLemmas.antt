-- When the fields of a message are as they should be.
use Rattle.std.proofs.Common.{◌≡◌, ℕ, ◌+◌, ◌-◌, ◌<◌, ◌≤◌, ◌^◌, Bool, true, false, not, List, [], ◌++◌, length, take, drop, Option, Some, None, refl, sym, ap, ◌∙◌, subst, arith}
use Rattle.std.specs.Prelude.{IsTrue, unwrap_or, is_none, nat_lt}
use Rattle.std.proofs.lemmas.Bool.{ltb-true, ltb-false, le-ltb, eqb-false, ne_eqb, and_parts, or_from}
use Rattle.std.proofs.lemmas.List.{length-drop, length-take-le, drop-drop, take-append-drop}
use Rattle.chk_bytes.specs.Laws.{AreBytes}
use Rattle.chk_bytes.specs.Numbers.{be64, spelled, spelled_at}
use Rattle.chk_bytes.specs.Stems.{Stem, is_stem, is_count, stem_text, stem_of, read_stem}
use Rattle.chk_bytes.specs.Words.{is_word}
use Rattle.chk_bytes.proofs.NumberLemmas.{spelled-be64}
use Rattle.chk_bytes.proofs.StemLemmas.{read_stem-Some, read_stem-stem_text, length-stem_text, stem_text_plain}
use Rattle.chk_bytes.proofs.WordLemmas.{plain_word}
use Rattle.chk_chunk.specs.Keys.{Key, IsKey, is_key, counted, text_at, behind_text, guessed_key, chunk_limit}
use Rattle.chk_chunk.specs.Posts.{part_at, behind_part, up_to_part}
use Rattle.chk_chunk.specs.Faults.{key_fault}
use Rattle.chk_chunk.specs.declared.faults.ChunkFault.{ChunkFault}
use Rattle.chk_chunk.proofs.NumberLemmas.{AreBytes-take, be64-stands}
use Rattle.chk_chunk.proofs.FieldLemmas.{text_spelled, read_text, text_length}
use Rattle.chk_chunk.proofs.KeyLemmas.{key_facts}
use Rattle.chk_chunk.proofs.KeyReading.{key_read, key_from_faultless, valid_from_faultless}
use Rattle.chk_chunk.proofs.PostGrammar.{IsKeyThere, IsValueThere, key_part}
use Rattle.chk_tee.specs.Messages.{stem_in}
use Rattle.chk_tee.specs.Fields.{IsKeyAt}
use Rattle.chk_tee.specs.Faults.{stem_wrong, offset_wrong, key_wrong, value_wrong, bad_part, stem_limit}
use Rattle.chk_chunk.proofs.NumberLemmas.{AreBytes-drop}
use Rattle.chk_tee.proofs.WrongLemmas.{wrong_parts, fine_left, fine_from, wrong_if-none, wrong_if-false}

-- ---- stems

-- a stem stands behind its length
pub record IsStemThere (at : ℕ) (bytes : List ℕ) : Type 0 where
  pub within : behind_text at bytes ≤ length bytes
  pub stem : read_stem (text_at at bytes) ≡ Some (stem_in (text_at at bytes))

some_is : (o : Option Stem) (d : Stem) → is_none o ≡ false → o ≡ Some (unwrap_or o d)
some_is None d h = absurd (cc)
some_is (Some x) d h = refl

is_some : (o : Option Stem) (x : Stem) → o ≡ Some x → is_none o ≡ false
is_some None x h = absurd (cc)
is_some (Some y) x h = refl

pub stem_there : (at : ℕ) (bytes : List ℕ) → stem_wrong at bytes ≡ None → IsStemThere at bytes
unfolding stem_wrong
stem_there at bytes h =
    let a = wrong_parts _ _ h in
    let b = wrong_parts _ _ a.1 in
    let d = wrong_parts _ _ b.1 in
    let e = wrong_parts _ _ d.1 in
    record {
      within = ltb-false (length bytes) (at + 2 + spelled_at at 2 bytes) (wrong_if-none _ _ d.0);
      stem = some_is (read_stem (text_at at bytes)) (stem_of [] 0 0) (wrong_if-none _ _ e.0);
    }

pub stem_wrong-none : (at : ℕ) (bytes : List ℕ) → IsStemThere at bytes → stem_wrong at bytes ≡ None
unfolding stem_wrong
stem_wrong-none at bytes there =
    let size = spelled_at at 2 bytes in
    let within = there.within in
    let size_is = text_length at bytes within in
    let read = read_stem-Some (text_at at bytes) (stem_in (text_at at bytes)) there.stem in
    let same : length (stem_text (stem_in (text_at at bytes))) ≡ length (text_at at bytes) = ap length read.0 in
    let long = length-stem_text (stem_in (text_at at bytes)) read.1 in
    let some : 0 < length (stem_text (stem_in (text_at at bytes))) = long.0 in
    let most : length (stem_text (stem_in (text_at at bytes))) ≤ 104 = long.1 in
    fine_from _ _ (wrong_if-false _ _ (le-ltb (length bytes) (at + 2) (omega arith)))
    (fine_from _ _ (wrong_if-false _ _ (or_from _ _ (ne_eqb size 0 (λ e. omega arith)) (le-ltb stem_limit size (omega arith))))
    (fine_from _ _ (wrong_if-false _ _ (le-ltb (length bytes) (at + 2 + size) (omega arith)))
    (fine_from _ _ (wrong_if-false _ _ (is_some _ _ there.stem)) fine_left)))

pub stem_valid : (at : ℕ) (bytes : List ℕ) → IsStemThere at bytes → IsTrue (is_stem (stem_in (text_at at bytes)))
stem_valid at bytes there = (read_stem-Some (text_at at bytes) (stem_in (text_at at bytes)) there.stem).1

pub stem_spelled : (at : ℕ) (bytes : List ℕ) → AreBytes bytes → IsStemThere at bytes
    → drop at bytes ≡ counted (stem_text (stem_in (text_at at bytes))) ++ drop (behind_text at bytes) bytes
stem_spelled at bytes each there =
    text_spelled at bytes each there.within
    ∙ ap (λ t. counted t ++ drop (behind_text at bytes) bytes)
    (sym (read_stem-Some (text_at at bytes) (stem_in (text_at at bytes)) there.stem).0)

-- what stands there, where a stem behind its length does
pub record IsReadStem (at : ℕ) (bytes : List ℕ) (x : Stem) (rest : List ℕ) : Type 0 where
  pub there : IsStemThere at bytes
  pub is : stem_in (text_at at bytes) ≡ x
  pub follows : drop (behind_text at bytes) bytes ≡ rest
  pub size : behind_text at bytes + length rest ≡ length bytes

pub stem_is_word : (x : Stem) → IsTrue (is_stem x) → IsTrue (is_word (stem_text x))
stem_is_word x valid =
    let long = length-stem_text x valid in
    plain_word (stem_text x) (stem_text_plain x valid) long.0 (omega (arith, long.1))

pub read_stem_at : (at : ℕ) (bytes : List ℕ) (x : Stem) (rest : List ℕ) → IsTrue (is_stem x)
    → drop at bytes ≡ counted (stem_text x) ++ rest → IsReadStem at bytes x rest
read_stem_at at bytes x rest valid e =
    let text = read_text at bytes (stem_text x) rest (stem_is_word x valid) e in
    let read : read_stem (text_at at bytes) ≡ Some x = ap read_stem text.is ∙ read_stem-stem_text x valid in
    let is : stem_in (text_at at bytes) ≡ x = ap (λ (o : Option Stem). unwrap_or o (stem_of [] 0 0)) read in
    record {
      there = record { within = text.there.within; stem = read ∙ ap (λ (y : Stem). Some y) (sym is) };
      is = is;
      follows = text.follows;
      size = text.size;
    }

-- ---- offsets

pub record IsOffsetThere (at : ℕ) (bytes : List ℕ) : Type 0 where
  pub within : at + 8 ≤ length bytes
  pub count : is_count (spelled_at at 8 bytes) ≡ true

not_false : (b : Bool) → not b ≡ false → b ≡ true
not_false true h = refl
not_false false h = absurd (cc)

pub offset_there : (at : ℕ) (bytes : List ℕ) → offset_wrong at bytes ≡ None → IsOffsetThere at bytes
unfolding offset_wrong
offset_there at bytes h =
    let a = wrong_parts _ _ h in
    let b = wrong_parts _ _ a.1 in
    record {
      within = ltb-false (length bytes) (at + 8) (wrong_if-none _ _ a.0);
      count = not_false _ (wrong_if-none _ _ b.0);
    }

pub offset_wrong-none : (at : ℕ) (bytes : List ℕ) → IsOffsetThere at bytes → offset_wrong at bytes ≡ None
unfolding offset_wrong
offset_wrong-none at bytes there =
    fine_from _ _ (wrong_if-false _ _ (le-ltb (length bytes) (at + 8) there.within))
    (fine_from _ _ (wrong_if-false _ _ (ap not there.count)) fine_left)

pub offset_spelled : (at : ℕ) (bytes : List ℕ) → AreBytes bytes → at + 8 ≤ length bytes
    → drop at bytes ≡ be64 (spelled_at at 8 bytes) ++ drop (at + 8) bytes
offset_spelled at bytes each within =
    sym (take-append-drop 8 (drop at bytes))
    ∙ (ap (λ t. t ++ drop 8 (drop at bytes)) (sym (be64-stands at bytes each within))
    ∙ ap (λ t. be64 (spelled_at at 8 bytes) ++ t) (drop-drop 8 at bytes))

-- what stands there, where an offset does
pub record IsReadOffset (at : ℕ) (bytes : List ℕ) (n : ℕ) (rest : List ℕ) : Type 0 where
  pub there : IsOffsetThere at bytes
  pub is : spelled_at at 8 bytes ≡ n
  pub follows : drop (at + 8) bytes ≡ rest

pub read_offset_at : (at : ℕ) (bytes : List ℕ) (n : ℕ) (rest : List ℕ) → is_count n ≡ true → at ≤ length bytes
    → drop at bytes ≡ be64 n ++ rest → IsReadOffset at bytes n rest
read_offset_at at bytes n rest count starts e =
    let low : n < 2 ^ 63 = ltb-true n (2 ^ 63) (and_parts (nat_lt 0 n) (nat_lt n (2 ^ 63)) count).1 in
    let is : spelled_at at 8 bytes ≡ n = ap (λ t. spelled (take 8 t)) e ∙ spelled-be64 n (omega arith) in
    let whole : length bytes - at ≡ 8 + length rest = sym (length-drop at bytes) ∙ (ap length e ∙ omega arith) in
    record {
      there = record { within = omega arith; count = ap is_count is ∙ count };
      is = is;
      follows = sym (drop-drop 8 at bytes) ∙ ap (drop 8) e;
    }

-- ---- keys

no_bad_part : (from : ℕ) (o : Option ChunkFault) → bad_part from o ≡ None → o ≡ None
no_bad_part from None h = refl
no_bad_part from (Some fault) h = absurd (cc)

pub part_bytes : (at : ℕ) (bytes : List ℕ) → AreBytes bytes → AreBytes (part_at at bytes)
part_bytes at bytes each = AreBytes-take (spelled_at at 4 bytes) (drop (at + 4) bytes) (AreBytes-drop (at + 4) bytes each)

-- what is a key of its own is one where it stands
pub key_stands : (at : ℕ) (bytes : List ℕ) (k : Key) → behind_part at bytes ≤ length bytes → IsKey k (part_at at bytes)
    → IsKeyThere at bytes × (guessed_key (at + 4) (up_to_part at bytes) ≡ k)
key_stands at bytes k within key =
    let read = key_read (at + 4) (up_to_part at bytes) k (subst (λ (t : List ℕ). IsKey k t) (sym (key_part at bytes)) key) in
    (record { within = within; fine = read.fine }, read.is)

pub key_there : (at : ℕ) (bytes : List ℕ) → AreBytes bytes → key_wrong at bytes ≡ None → IsKeyThere at bytes
unfolding key_wrong
key_there at bytes each h =
    let a = wrong_parts _ _ h in
    let b = wrong_parts _ _ a.1 in
    let d = wrong_parts _ _ b.1 in
    let fine : key_fault 0 (part_at at bytes) ≡ None = no_bad_part (at + 4) _ d.0 in
    (key_stands at bytes (guessed_key 0 (part_at at bytes))
    (ltb-false (length bytes) (at + 4 + spelled_at at 4 bytes) (wrong_if-none _ _ b.0))
    (key_from_faultless 0 (part_at at bytes) (part_bytes at bytes each) fine)).0

pub key_wrong-none : (at : ℕ) (bytes : List ℕ) (k : Key) → behind_part at bytes ≤ length bytes → IsKey k (part_at at bytes)
    → key_wrong at bytes ≡ None
unfolding key_wrong
key_wrong-none at bytes k within key =
    let fine : key_fault 0 (part_at at bytes) ≡ None = (key_read 0 (part_at at bytes) k key).fine in
    fine_from _ _ (wrong_if-false _ _ (le-ltb (length bytes) (at + 4) (omega arith)))
    (fine_from _ _ (wrong_if-false _ _ (le-ltb (length bytes) (at + 4 + spelled_at at 4 bytes) within))
    (fine_from _ _ (ap (bad_part (at + 4)) fine) fine_left))

pub key_there_is_key : (at : ℕ) (bytes : List ℕ) → AreBytes bytes → IsKeyThere at bytes
    → IsKey (guessed_key (at + 4) (up_to_part at bytes)) (part_at at bytes)
key_there_is_key at bytes each there =
    subst (λ (t : List ℕ). IsKey (guessed_key (at + 4) (up_to_part at bytes)) t) (key_part at bytes)
    (key_from_faultless (at + 4) (up_to_part at bytes) (AreBytes-take (behind_part at bytes) bytes each) there.fine)

-- the start of such a key is low
pub key_is_low : (k : Key) → IsTrue (is_key k) → k.start < 2 ^ 62
key_is_low k valid = (key_facts k valid).low

-- the part behind its length
pub part_sliced : (at size : ℕ) (bytes : List ℕ) → size ≡ spelled_at at 4 bytes
    → take (at + 4 + size - (at + 4)) (drop (at + 4) bytes) ≡ part_at at bytes
part_sliced at size bytes is = ap (λ n. take n (drop (at + 4) bytes)) (omega arith)

-- what reading a key finds
pub key_found : (at size : ℕ) (bytes : List ℕ) (k : Key) → size ≡ spelled_at at 4 bytes → at + 4 + size ≤ length bytes
    → IsKey k (take (at + 4 + size - (at + 4)) (drop (at + 4) bytes)) → IsKeyAt at bytes k (at + 4 + size)
key_found at size bytes k is within key =
    let there : IsKey k (part_at at bytes) = subst (λ (t : List ℕ). IsKey k t) (part_sliced at size bytes is) key in
    let inside : behind_part at bytes ≤ length bytes = omega arith in
    let read = key_read 0 (part_at at bytes) k there in
    let valid : IsTrue (is_key k) =
    subst (λ (l : Key). IsTrue (is_key l)) read.is (valid_from_faultless 0 (part_at at bytes) read.fine) in
    record {
      fine = key_wrong-none at bytes k inside there;
      is = sym (key_stands at bytes k inside there).1;
      behind = omega arith;
      within = within;
      valid = valid;
      low = key_is_low k valid;
    }

-- ---- data

pub value_there : (key : Key) (at : ℕ) (bytes : List ℕ) → value_wrong key at bytes ≡ None → IsValueThere key at bytes
unfolding value_wrong
value_there key at bytes h =
    let size = spelled_at at 4 bytes in
    let a = wrong_parts _ _ h in
    let b = wrong_parts _ _ a.1 in
    let d = wrong_parts _ _ b.1 in
    let e = wrong_parts _ _ d.1 in
    let f = wrong_parts _ _ e.1 in
    let some : (size ≡ 0 → ⊥) = eqb-false size 0 (wrong_if-none _ _ b.0) in
    record {
      within = ltb-false (length bytes) (at + 4 + size) (wrong_if-none _ _ f.0);
      some = omega arith;
      most = ltb-false chunk_limit size (wrong_if-none _ _ d.0);
      begun = ltb-false key.seq (key.start + size) (wrong_if-none _ _ e.0);
    }

pub value_wrong-none : (key : Key) (at : ℕ) (bytes : List ℕ) → IsValueThere key at bytes → value_wrong key at bytes ≡ None
unfolding value_wrong
value_wrong-none key at bytes there =
    let size = spelled_at at 4 bytes in
    let within = there.within in
    let some = there.some in
    fine_from _ _ (wrong_if-false _ _ (le-ltb (length bytes) (at + 4) (omega arith)))
    (fine_from _ _ (wrong_if-false _ _ (ne_eqb size 0 (λ e. omega arith)))
    (fine_from _ _ (wrong_if-false _ _ (le-ltb chunk_limit size there.most))
    (fine_from _ _ (wrong_if-false _ _ (le-ltb key.seq (key.start + size) there.begun))
    (fine_from _ _ (wrong_if-false _ _ (le-ltb (length bytes) (at + 4 + size) within)) fine_left))))
