-- Bytes without a fault are a key, and a key's bytes have no fault and are read as that key.
use Rattle.std.proofs.Common.{◌≡◌, ℕ, ◌+◌, ◌<◌, ◌≤◌, List, ◌∷◌, ◌++◌, length, drop, None, refl, sym, ap, ◌∙◌, arith}
use Rattle.std.specs.Prelude.{IsTrue}
use Rattle.std.specs.Str.{is_utf8, chars}
use Rattle.std.proofs.lemmas.Bool.{ltb-false, le-ltb, leb-false, lt-leb, or_parts, or_from, eqb-false, ne_eqb, and_from}
use Rattle.std.proofs.lemmas.List.{drop-drop, drop_all, append-nil, take-append-drop}
use Rattle.chk_bytes.specs.Numbers.{be64, spelled_at}
use Rattle.chk_bytes.specs.Words.{is_word}
use Rattle.chk_chunk.specs.Keys.{Key, Stream, is_key, is_key_1, key_1, key_2, no_cluster, start_limit, counted, counted_stream, stream_at, text_at, behind_text, behind_stream, guessed_1, guessed_2}
use Rattle.chk_chunk.specs.Faults.{rest_1_fault, rest_2_fault}
use Rattle.chk_chunk.proofs.FieldLemmas.{none_parts, none_from, none_left, fault_if-none, fault_if-false, IsTextThere, text_there, text_fault-none, text_spelled, IsStreamThere, stream_there, stream_fault-none, stream_spelled}
use Rattle.chk_chunk.proofs.HeadLemmas.{IsHeadThere, head_spelled}
use Rattle.chk_chunk.proofs.KeyLemmas.{is_key-from_facts}
use Rattle.chk_bytes.specs.Laws.{AreBytes}
use Rattle.chk_chunk.proofs.NumberLemmas.{be64-stands}

-- the cluster of a key that names none is a word
pub no_cluster_is_word : IsTrue (is_word no_cluster)
unfolding is_word is_utf8 chars lib.Utf8.encode
no_cluster_is_word = refl

-- each part of a key
pub key_by : (s t : Stream) (m n : ℕ) (c d : List ℕ) (p q : ℕ) → s ≡ t → m ≡ n → c ≡ d → p ≡ q
    → Path Key record { stream = s; start = m; cluster = c; seq = p } record { stream = t; start = n; cluster = d; seq = q }
key_by s t m n c d p q h i j k = cc

-- the rest of a key of version 1 is there
pub record IsRest1There (at : ℕ) (bytes : List ℕ) : Type 0 where
  pub some : 0 < spelled_at (at + 1) 8 bytes
  pub stream : IsStreamThere (at + 9) bytes
  pub last : length bytes ≤ behind_stream (at + 9) bytes

pub rest_1_there : (at : ℕ) (bytes : List ℕ) → rest_1_fault at bytes ≡ None → IsRest1There at bytes
unfolding rest_1_fault
rest_1_there at bytes h =
    let a = none_parts _ _ h in
    let b = none_parts _ _ a.1 in
    let d = none_parts _ _ b.1 in
    let some : (spelled_at (at + 1) 8 bytes ≡ 0 → ⊥) = eqb-false (spelled_at (at + 1) 8 bytes) 0 (fault_if-none _ _ a.0) in
    record {
      some = omega arith;
      stream = stream_there _ _ b.0;
      last = ltb-false (behind_stream (at + 9) bytes) (length bytes) (fault_if-none _ _ d.0);
    }

pub rest_1_fault-none : (at : ℕ) (bytes : List ℕ) → IsRest1There at bytes → rest_1_fault at bytes ≡ None
unfolding rest_1_fault
rest_1_fault-none at bytes there =
    let some = there.some in
    none_from _ _ (fault_if-false _ _ (ne_eqb (spelled_at (at + 1) 8 bytes) 0 (λ e. omega arith)))
    (none_from _ _ (stream_fault-none (at + 9) bytes there.stream)
    (none_from _ _ (fault_if-false _ _ (le-ltb (behind_stream (at + 9) bytes) (length bytes) there.last)) none_left))

-- the rest of a key of version 2 is there
pub record IsRest2There (at : ℕ) (bytes : List ℕ) : Type 0 where
  pub within : at + 17 ≤ length bytes
  pub low : spelled_at (at + 9) 8 bytes < start_limit
  pub started : spelled_at (at + 9) 8 bytes < spelled_at (at + 1) 8 bytes
  pub stream : IsStreamThere (at + 17) bytes
  pub cluster : IsTextThere (behind_stream (at + 17) bytes) bytes
  pub last : length bytes ≤ behind_text (behind_stream (at + 17) bytes) bytes

pub rest_2_there : (at : ℕ) (bytes : List ℕ) → rest_2_fault at bytes ≡ None → IsRest2There at bytes
unfolding rest_2_fault
rest_2_there at bytes h =
    let seq = spelled_at (at + 1) 8 bytes in
    let start = spelled_at (at + 9) 8 bytes in
    let cluster_at = behind_stream (at + 17) bytes in
    let a = none_parts _ _ h in
    let b = none_parts _ _ a.1 in
    let d = none_parts _ _ b.1 in
    let e = none_parts _ _ d.1 in
    let f = none_parts _ _ e.1 in
    let high = or_parts _ _ (fault_if-none _ _ b.0) in
    record {
      within = omega (arith, ltb-false (length bytes) (at + 9 + 8) (fault_if-none _ _ a.0));
      low = leb-false start_limit start high.0;
      started = leb-false seq start high.1;
      stream = stream_there _ _ d.0;
      cluster = text_there _ _ e.0;
      last = ltb-false (behind_text cluster_at bytes) (length bytes) (fault_if-none _ _ f.0);
    }

pub rest_2_fault-none : (at : ℕ) (bytes : List ℕ) → IsRest2There at bytes → rest_2_fault at bytes ≡ None
unfolding rest_2_fault
rest_2_fault-none at bytes there =
    let seq = spelled_at (at + 1) 8 bytes in
    let start = spelled_at (at + 9) 8 bytes in
    let cluster_at = behind_stream (at + 17) bytes in
    let within = there.within in
    none_from _ _ (fault_if-false _ _ (le-ltb (length bytes) (at + 9 + 8) (omega arith)))
    (none_from _ _ (fault_if-false _ _ (or_from _ _ (lt-leb start_limit start there.low) (lt-leb seq start there.started)))
    (none_from _ _ (stream_fault-none (at + 17) bytes there.stream)
    (none_from _ _ (text_fault-none cluster_at bytes there.cluster)
    (none_from _ _ (fault_if-false _ _ (le-ltb (behind_text cluster_at bytes) (length bytes) there.last)) none_left))))

-- what stands there is spelled so
ends_so : (n : ℕ) (bytes : List ℕ) → length bytes ≤ n → (xs : List ℕ) → xs ++ drop n bytes ≡ xs
ends_so n bytes last xs = ap (λ t. xs ++ t) (drop_all n bytes last) ∙ append-nil xs

pub key_1_spelled : (at : ℕ) (bytes : List ℕ) → AreBytes bytes → IsHeadThere at bytes → spelled_at at 1 bytes ≡ 1
    → IsRest1There at bytes → drop at bytes ≡ key_1 (guessed_1 at bytes)
unfolding key_1
key_1_spelled at bytes each head one there =
    head_spelled at bytes each head.within
    ∙ (ap (λ n. n ∷ (be64 (spelled_at (at + 1) 8 bytes) ++ drop (at + 9) bytes)) one
    ∙ ap (λ t. 1 ∷ (be64 (spelled_at (at + 1) 8 bytes) ++ t))
    (stream_spelled (at + 9) bytes each there.stream.within ∙ ends_so _ bytes there.last _))

pub key_2_spelled : (at : ℕ) (bytes : List ℕ) → AreBytes bytes → IsHeadThere at bytes → spelled_at at 1 bytes ≡ 2
    → IsRest2There at bytes → drop at bytes ≡ key_2 (guessed_2 at bytes)
unfolding key_2
key_2_spelled at bytes each head two there =
    let seq = spelled_at (at + 1) 8 bytes in
    let start = spelled_at (at + 9) 8 bytes in
    let cluster_at = behind_stream (at + 17) bytes in
    let start_there : drop (at + 9) bytes ≡ be64 start ++ drop (at + 17) bytes =
    sym (take-append-drop 8 (drop (at + 9) bytes))
    ∙ (ap (λ t. t ++ drop 8 (drop (at + 9) bytes)) (sym (be64-stands (at + 9) bytes each (omega (arith, there.within))))
    ∙ ap (λ t. be64 start ++ t) (drop-drop 8 (at + 9) bytes ∙ ap (λ n. drop n bytes) (omega arith))) in
    let texts_there : drop (at + 17) bytes ≡ counted_stream (stream_at (at + 17) bytes) ++ counted (text_at cluster_at bytes) =
    stream_spelled (at + 17) bytes each there.stream.within
    ∙ ap (λ t. counted_stream (stream_at (at + 17) bytes) ++ t)
    (text_spelled cluster_at bytes each there.cluster.within ∙ ends_so _ bytes there.last _) in
    head_spelled at bytes each head.within
    ∙ (ap (λ n. n ∷ (be64 seq ++ drop (at + 9) bytes)) two
    ∙ ap (λ t. 2 ∷ (be64 seq ++ t)) (start_there ∙ ap (λ t. be64 start ++ t) texts_there))

-- and can be
pub is_key_1-guessed : (at : ℕ) (bytes : List ℕ) → IsHeadThere at bytes → IsRest1There at bytes
    → IsTrue (is_key_1 (guessed_1 at bytes))
is_key_1-guessed at bytes head there =
    and_from _ _
    (is_key-from_facts (guessed_1 at bytes) record {
      stream = there.stream.words;
      cluster = no_cluster_is_word;
      low = omega arith;
      started = there.some;
      fits = head.fits;
    })
    refl

pub is_key-guessed : (at : ℕ) (bytes : List ℕ) → IsHeadThere at bytes → IsRest2There at bytes
    → IsTrue (is_key (guessed_2 at bytes))
is_key-guessed at bytes head there =
    is_key-from_facts (guessed_2 at bytes) record {
      stream = there.stream.words;
      cluster = there.cluster.word;
      low = there.low;
      started = there.started;
      fits = head.fits;
    }
