-- When the fields of a text are as they should be.
use Rattle.std.proofs.Common.{◌≡◌, ℕ, ◌+◌, ◌-◌, ◌<◌, ◌≤◌, Bool, true, false, not, cond, List, [], ◌∷◌, ◌++◌, length, take, drop, Option, Some, None, refl, sym, ap, ◌∙◌, subst, arith, append_assoc}
use Rattle.std.specs.Prelude.{IsTrue, position}
use Rattle.std.specs.Option.{option_map}
use Rattle.std.specs.Str.{is_utf8, IsUtf8}
use Rattle.std.specs.Str.Lossy.{utf8_valid_len}
use Rattle.std.proofs.lemmas.Str.{IsUtf8-from_is_utf8, is_utf8-from_IsUtf8}
use Rattle.std.proofs.lemmas.Bool.{cond-true, cond-false, false_from_ne_true, ltb-false, le-ltb, eqb-false, ne_eqb}
use Rattle.std.proofs.lemmas.List.{length-drop, length-take-le, length-append, drop-drop, take-append-drop, take_at, drop_at}
use Rattle.chk_bytes.specs.Numbers.{be16, spelled, spelled_at}
use Rattle.chk_bytes.specs.Words.{is_word, is_word_byte}
use Rattle.chk_bytes.specs.WordFaults.{word_fault_of}
use Rattle.chk_bytes.specs.declared.word.WordFault.{WordFault}
use Rattle.chk_bytes.specs.declared.word.WordFault.TheVariants.{NotWord as BadByte}
use Rattle.chk_bytes.proofs.WordLemmas.{word_facts}
use Rattle.chk_bytes.proofs.FaultLemmas.{is_word-from_faultless, faultless-from_is_word}
use Rattle.chk_chunk.specs.Keys.{Stream, is_stream, counted, counted_stream, text_at, behind_text, stream_at, behind_stream}
use Rattle.chk_chunk.specs.Faults.{first_fault, fault_if, letters_fault, text_fault, stream_fault, word_limit}
use Rattle.chk_chunk.specs.declared.faults.ChunkFault.{ChunkFault}
use Rattle.chk_chunk.specs.declared.faults.ChunkFault.TheVariants.{NotWord, NotUtf8}
use Rattle.chk_chunk.proofs.KeyLemmas.{stream_facts, is_stream-from_facts}
use Rattle.chk_bytes.specs.Laws.{AreBytes}
use Rattle.chk_bytes.proofs.NumberLemmas.{spelled-be16}
use Rattle.chk_chunk.proofs.NumberLemmas.{be16-stands}

-- the first of several faults
pub none_parts : (f : Option ChunkFault) (fs : List (Option ChunkFault)) → first_fault (f ∷ fs) ≡ None
    → (f ≡ None) × (first_fault fs ≡ None)
unfolding first_fault
none_parts None fs h = (refl, h)
none_parts (Some fault) fs h = absurd (cc)

pub none_left : first_fault [] ≡ None
unfolding first_fault
none_left = refl

pub none_from : (f : Option ChunkFault) (fs : List (Option ChunkFault)) → f ≡ None → first_fault fs ≡ None
    → first_fault (f ∷ fs) ≡ None
unfolding first_fault
none_from None fs e h = h
none_from (Some fault) fs e h = absurd (cc)

pub first_fault-skip : (f : Option ChunkFault) (fs : List (Option ChunkFault)) → f ≡ None
    → first_fault (f ∷ fs) ≡ first_fault fs
unfolding first_fault
first_fault-skip None fs e = refl
first_fault-skip (Some fault) fs e = absurd (cc)

pub first_fault-only : (f : Option ChunkFault) → first_fault (f ∷ []) ≡ f
unfolding first_fault
first_fault-only None = refl
first_fault-only (Some fault) = refl

pub fault_if-none : (b : Bool) (fault : ChunkFault) → fault_if b fault ≡ None → b ≡ false
unfolding fault_if
fault_if-none true fault h = absurd (cc)
fault_if-none false fault h = refl

pub fault_if-false : (b : Bool) (fault : ChunkFault) → b ≡ false → fault_if b fault ≡ None
unfolding fault_if
fault_if-false true fault e = absurd (cc)
fault_if-false false fault e = refl

-- the bytes of a text have no fault exactly where it is a word
words_too : (u : Bool) (p : Option ℕ) (at : ℕ) (x : ChunkFault) (y : WordFault)
    → cond u (option_map (λ i. NotWord (at + i)) p) (Some x) ≡ None → cond u (option_map BadByte p) (Some y) ≡ None
words_too true None at x y h = refl
words_too true (Some i) at x y h = absurd (cc)
words_too false p at x y h = absurd (cc)

letters_too : (u : Bool) (p : Option ℕ) (at : ℕ) (x : ChunkFault) (y : WordFault)
    → cond u (option_map BadByte p) (Some y) ≡ None → cond u (option_map (λ i. NotWord (at + i)) p) (Some x) ≡ None
letters_too true None at x y h = refl
letters_too true (Some i) at x y h = absurd (cc)
letters_too false p at x y h = absurd (cc)

pub word_from_letters : (at : ℕ) (text : List ℕ) → 0 < length text → length text ≤ 4096 → letters_fault at text ≡ None
    → IsTrue (is_word text)
unfolding letters_fault word_fault_of
word_from_letters at text some short h =
    let full : (length text ≡ 0 → ⊥) = λ e. omega arith in
    is_word-from_faultless text (rw (ne_eqb (length text) 0 full, le-ltb 4096 (length text) short) (words_too _ _ at _ _ h))

pub letters_from_word : (at : ℕ) (text : List ℕ) → IsTrue (is_word text) → letters_fault at text ≡ None
unfolding letters_fault word_fault_of
letters_from_word at text word =
    let w = word_facts text word in
    let full : (length text ≡ 0 → ⊥) = λ e. omega (arith, w.some_byte) in
    let fine = rw (ne_eqb (length text) 0 full, le-ltb 4096 (length text) w.at_most) at (faultless-from_is_word text word) in
    letters_too _ _ at _ _ fine

-- which fault the bytes of a text have
pub letters_not_utf8 : (at n : ℕ) (text : List ℕ) → (IsUtf8 text → ⊥) → n ≡ utf8_valid_len text
    → letters_fault at text ≡ Some (NotUtf8 (at + n))
unfolding letters_fault
letters_not_utf8 at n text no_text valid =
    let other : is_utf8 text ≡ false = false_from_ne_true (is_utf8 text) (λ t. no_text (IsUtf8-from_is_utf8 text t)) in
    cond-false _ _ _ other ∙ ap (λ m. Some (NotUtf8 (at + m))) (sym valid)

pub letters_utf8 : (at : ℕ) (text : List ℕ) (found : Option ℕ) → IsUtf8 text
    → found ≡ position (λ b. not (is_word_byte b)) text
    → letters_fault at text ≡ option_map (λ i. NotWord (at + i)) found
unfolding letters_fault
letters_utf8 at text found utf8 place =
    cond-true _ _ _ (is_utf8-from_IsUtf8 text utf8) ∙ ap (option_map (λ i. NotWord (at + i))) (sym place)

-- a word stands behind its length
pub record IsTextThere (at : ℕ) (bytes : List ℕ) : Type 0 where
  pub word : IsTrue (is_word (text_at at bytes))
  pub within : behind_text at bytes ≤ length bytes

pub text_length : (at : ℕ) (bytes : List ℕ) → behind_text at bytes ≤ length bytes → length (text_at at bytes) ≡ spelled_at at 2 bytes
text_length at bytes within =
    length-take-le (spelled_at at 2 bytes) (drop (at + 2) bytes) (let n = length-drop (at + 2) bytes in omega arith)

pub text_there : (at : ℕ) (bytes : List ℕ) → text_fault at bytes ≡ None → IsTextThere at bytes
unfolding text_fault
text_there at bytes h =
    let size = spelled_at at 2 bytes in
    let a = none_parts _ _ h in
    let b = none_parts _ _ a.1 in
    let d = none_parts _ _ b.1 in
    let e = none_parts _ _ d.1 in
    let f = none_parts _ _ e.1 in
    let some : (size ≡ 0 → ⊥) = eqb-false size 0 (fault_if-none _ _ b.0) in
    let short : size ≤ word_limit = ltb-false word_limit size (fault_if-none _ _ d.0) in
    let within : at + 2 + size ≤ length bytes = ltb-false (length bytes) (at + 2 + size) (fault_if-none _ _ e.0) in
    let size_is = text_length at bytes within in
    record {
      word = word_from_letters (at + 2) (text_at at bytes) (omega arith) (omega arith) f.0;
      within = within;
    }

pub text_fault-none : (at : ℕ) (bytes : List ℕ) → IsTextThere at bytes → text_fault at bytes ≡ None
unfolding text_fault
text_fault-none at bytes there =
    let size = spelled_at at 2 bytes in
    let within = there.within in
    let size_is = text_length at bytes within in
    let w = word_facts (text_at at bytes) there.word in
    let some = w.some_byte in
    let most = w.at_most in
    none_from _ _ (fault_if-false _ _ (le-ltb (length bytes) (at + 2) (omega arith)))
    (none_from _ _ (fault_if-false _ _ (ne_eqb size 0 (λ e. omega arith)))
    (none_from _ _ (fault_if-false _ _ (le-ltb word_limit size (omega arith)))
    (none_from _ _ (fault_if-false _ _ (le-ltb (length bytes) (at + 2 + size) (omega arith)))
    (none_from _ _ (letters_from_word (at + 2) (text_at at bytes) there.word) none_left))))

-- the bytes from the place on are then the text behind its length, and what follows
pub text_spelled : (at : ℕ) (bytes : List ℕ) → AreBytes bytes → behind_text at bytes ≤ length bytes
    → drop at bytes ≡ counted (text_at at bytes) ++ drop (behind_text at bytes) bytes
text_spelled at bytes each within =
    let size = spelled_at at 2 bytes in
    let size_is : length (text_at at bytes) ≡ size = text_length at bytes within in
    let head : take 2 (drop at bytes) ≡ be16 (length (text_at at bytes)) =
    sym (be16-stands at bytes each (omega arith)) ∙ ap be16 (sym size_is) in
    let more : drop (at + 2) bytes ≡ text_at at bytes ++ drop (at + 2 + size) bytes =
    sym (take-append-drop size (drop (at + 2) bytes)) ∙ ap (λ t. text_at at bytes ++ t) (drop-drop size (at + 2) bytes) in
    let split : drop at bytes ≡ take 2 (drop at bytes) ++ drop (at + 2) bytes =
    sym (take-append-drop 2 (drop at bytes)) ∙ ap (λ t. take 2 (drop at bytes) ++ t) (drop-drop 2 at bytes) in
    split
    ∙ (ap (λ t. t ++ drop (at + 2) bytes) head
    ∙ (ap (λ t. be16 (length (text_at at bytes)) ++ t) more
    ∙ sym (append_assoc (be16 (length (text_at at bytes))) (text_at at bytes) (drop (at + 2 + size) bytes))))

-- what stands there, where a text behind its length does
pub record IsReadText (at : ℕ) (bytes text rest : List ℕ) : Type 0 where
  pub there : IsTextThere at bytes
  pub is : text_at at bytes ≡ text
  pub follows : drop (behind_text at bytes) bytes ≡ rest
  pub size : behind_text at bytes + length rest ≡ length bytes

pub read_text : (at : ℕ) (bytes text rest : List ℕ) → IsTrue (is_word text) → drop at bytes ≡ counted text ++ rest
    → IsReadText at bytes text rest
read_text at bytes text rest word e =
    let w = word_facts text word in
    let most = w.at_most in
    let size_is : spelled_at at 2 bytes ≡ length text =
    ap (λ t. spelled (take 2 t)) e ∙ spelled-be16 (length text) (omega arith) in
    let behind : drop (at + 2) bytes ≡ text ++ rest = sym (drop-drop 2 at bytes) ∙ ap (drop 2) e in
    let text_is : text_at at bytes ≡ text =
    ap (λ n. take n (drop (at + 2) bytes)) size_is ∙ (ap (take (length text)) behind ∙ take_at text rest (length text) refl) in
    let rest_is : drop (behind_text at bytes) bytes ≡ rest =
    ap (λ n. drop (at + 2 + n) bytes) size_is
    ∙ (sym (drop-drop (length text) (at + 2) bytes)
    ∙ (ap (drop (length text)) behind ∙ drop_at text rest (length text) refl)) in
    let whole : length bytes - at ≡ 2 + (length text + length rest) =
    sym (length-drop at bytes) ∙ (ap length e ∙ omega (arith, length-append text rest)) in
    record {
      there = record {
        word = subst (λ t. IsTrue (is_word t)) (sym text_is) word;
        within = omega arith;
      };
      is = text_is;
      follows = rest_is;
      size = omega arith;
    }

-- three words stand behind their lengths
pub record IsStreamThere (at : ℕ) (bytes : List ℕ) : Type 0 where
  pub words : IsTrue (is_stream (stream_at at bytes))
  pub within : behind_stream at bytes ≤ length bytes

pub stream_there : (at : ℕ) (bytes : List ℕ) → stream_fault at bytes ≡ None → IsStreamThere at bytes
unfolding stream_fault
stream_there at bytes h =
    let a = none_parts _ _ h in
    let b = none_parts _ _ a.1 in
    let d = none_parts _ _ b.1 in
    let source = text_there _ _ a.0 in
    let kind = text_there _ _ b.0 in
    let name = text_there _ _ d.0 in
    record {
      words = is_stream-from_facts (stream_at at bytes) record { source = source.word; kind = kind.word; name = name.word };
      within = name.within;
    }

pub stream_fault-none : (at : ℕ) (bytes : List ℕ) → IsStreamThere at bytes → stream_fault at bytes ≡ None
unfolding stream_fault
stream_fault-none at bytes there =
    let w = stream_facts (stream_at at bytes) there.words in
    let within : behind_stream at bytes ≤ length bytes = there.within in
    let kind_at : ℕ = behind_text at bytes in
    let name_at : ℕ = behind_text kind_at bytes in
    none_from _ _ (text_fault-none at bytes record { word = w.source; within = omega arith })
    (none_from _ _ (text_fault-none kind_at bytes record { word = w.kind; within = omega arith })
    (none_from _ _ (text_fault-none name_at bytes record { word = w.name; within = within }) none_left))

three_texts : (a b c rest : List ℕ) → a ++ (b ++ (c ++ rest)) ≡ (a ++ (b ++ c)) ++ rest
three_texts a b c rest = sym (append_assoc a (b ++ c) rest ∙ ap (λ t. a ++ t) (append_assoc b c rest))

pub stream_spelled : (at : ℕ) (bytes : List ℕ) → AreBytes bytes → behind_stream at bytes ≤ length bytes
    → drop at bytes ≡ counted_stream (stream_at at bytes) ++ drop (behind_stream at bytes) bytes
stream_spelled at bytes each within =
    let kind_at : ℕ = behind_text at bytes in
    let name_at : ℕ = behind_text kind_at bytes in
    text_spelled at bytes each (omega arith)
    ∙ (ap (λ t. counted (text_at at bytes) ++ t)
    (text_spelled kind_at bytes each (omega arith)
    ∙ ap (λ t. counted (text_at kind_at bytes) ++ t) (text_spelled name_at bytes each within))
    ∙ three_texts (counted (text_at at bytes)) (counted (text_at kind_at bytes)) (counted (text_at name_at bytes)) _)

-- what stands there, where a stream's three texts do
pub record IsReadStream (at : ℕ) (bytes : List ℕ) (stream : Stream) (rest : List ℕ) : Type 0 where
  pub there : IsStreamThere at bytes
  pub is : stream_at at bytes ≡ stream
  pub follows : drop (behind_stream at bytes) bytes ≡ rest
  pub size : behind_stream at bytes + length rest ≡ length bytes

stream_by : (a b c x y z : List ℕ) → a ≡ x → b ≡ y → c ≡ z
    → Path Stream record { source = a; kind = b; name = c } record { source = x; kind = y; name = z }
stream_by a b c x y z p q r = cc

pub read_stream : (at : ℕ) (bytes : List ℕ) (s : Stream) (rest : List ℕ) → IsTrue (is_stream s)
    → drop at bytes ≡ counted_stream s ++ rest → IsReadStream at bytes s rest
read_stream at bytes s rest words e =
    let w = stream_facts s words in
    let parted = e ∙ sym (three_texts (counted s.source) (counted s.kind) (counted s.name) rest) in
    let source = read_text at bytes s.source _ w.source parted in
    let kind = read_text (behind_text at bytes) bytes s.kind _ w.kind source.follows in
    let name = read_text (behind_text (behind_text at bytes) bytes) bytes s.name rest w.name kind.follows in
    let is : Path Stream (stream_at at bytes) s = stream_by _ _ _ _ _ _ source.is kind.is name.is in
    record {
      there = record {
        words = subst (λ (t : Stream). IsTrue (is_stream t)) (sym is) words;
        within = name.there.within;
      };
      is = is;
      follows = name.follows;
      size = name.size;
    }
