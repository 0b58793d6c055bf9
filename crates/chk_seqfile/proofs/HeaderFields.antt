-- Each field of a header is read as its grammar says.
use Rattle.std.proofs.Common.{◌≡◌, ℕ, zero, suc, ◌+◌, ◌-◌, ◌*◌, ◌<◌, ◌≤◌, ◌^◌, ◌⊎◌, Bool, true, false, ◌&&◌, ◌||◌, cond, ltb, leb, List, [], ◌∷◌, ◌++◌, length, take, drop, replicate, slice_index, Result, Ok, Err, inl, inr, ⊎_elim, arith, refl, ap, ap₂, sym, subst, ◌∙◌}
use Rattle.std.proofs.lemmas.List.{length-append, length-take-le, length-replicate, get_or_append_left, get_or-take, take_at, drop_at, take-append-drop, take_all}
use Rattle.std.proofs.lemmas.Bool.{cond-true, cond-false, cond_both, and_parts, lt-ltb, le-ltb, le-leb, lt-leb, ltb-true, ltb-false, leb-true, leb-false, and_from, or_from, or_parts}
use Rattle.std.proofs.lemmas.Bool.Decides.{nat_tests}
use Rattle.std.specs.Prelude.{codes}
use Rattle.chk_bytes.specs.Numbers.{spelled}
use Rattle.chk_seqfile.specs.declared.headers.HeaderFault.{HeaderFault}
use Rattle.chk_seqfile.specs.declared.headers.HeaderFault.TheVariants.{NotSeq, Compressed, OtherClass, Short, BadMeta}
use Rattle.chk_seqfile.specs.Headers.{class_text, expect, read_version, spelled_34, read_class, read_digits, read_length, skip, read_text, read_texts, read_front, read_metadata, read_fields}
use Rattle.chk_seqfile.specs.HeaderGrammar.{IsDigits, IsLength, Alone, Behind, IsClass, IsText, AreTexts, IsMetadata}
use Rattle.chk_seqfile.proofs.SpelledLemmas.{spelled-append-zeros, spelled-zeros-append, spelled-take_le, spelled_small}
use Rattle.chk_seqfile.proofs.FieldLemmas.{IsNumberField, IsField, Both, two_fields, number_then, wanted, expect-append, expect-sound, expect-cut, expect-short}

-- ---- the version

version_sound : (bytes rest : List ℕ) → read_version bytes ≡ Ok rest → bytes ≡ (6 ∷ []) ++ rest
version_sound [] rest read = cc
version_sound (b ∷ bytes) rest read = grind (arith, nat_tests)

version_short : (bytes : List ℕ) → read_version bytes ≡ Err Short → bytes ≡ []
version_short [] read = refl
version_short (b ∷ bytes) read = grind (arith, nat_tests)

pub version_field : IsField (λ bytes. bytes ≡ 6 ∷ []) (λ total bytes. read_version bytes)
version_field = record {
  reads = λ total c rest is. ap (λ x. read_version (x ++ rest)) is;
  sound = λ total bytes rest read. (6 ∷ [], refl, version_sound bytes rest read);
  cut = λ total k c is fewer. let none : k ≡ 0 = (let size = ap length is in omega arith) in ap (λ n. read_version (take n c)) none;
  short = λ total bytes read. (6 ∷ [], ap (λ x. x ++ 6 ∷ []) (version_short bytes read));
  some = (6 ∷ [], refl);
}

-- ---- numbers of so many bytes

module _ (place count : ℕ) where
  pub digits_reads : (n : ℕ) (c rest : List ℕ) → IsDigits count n c
      → read_digits place count (c ++ rest) ≡ Ok (n, rest)
  digits_reads n c rest d =
      let size = d.size in
      let all : length (c ++ rest) ≡ length c + length rest = length-append c rest in
      let front : take count (c ++ rest) ≡ c = take_at c rest count size in
      let none : count - length (c ++ rest) ≡ 0 = omega arith in
      let value : spelled (take count (c ++ rest)) * 256 ^ (count - length (c ++ rest)) ≡ n =
      ap₂ (λ x e. spelled x * 256 ^ e) front none ∙ (let is = d.is in omega arith) in
      let small = d.small in
      cond-true _ _ _ (lt-ltb (spelled (take count (c ++ rest)) * 256 ^ (count - length (c ++ rest))) (2 ^ 31) (omega arith))
      ∙ cond-true _ _ _ (le-leb count (length (c ++ rest)) (omega arith))
      ∙ ap₂ (λ a b. Ok (a, b)) (ap spelled front ∙ d.is) (drop_at c rest count size)

  pub digits_cut : (k n : ℕ) (c : List ℕ) → IsDigits count n c → k < length c
      → read_digits place count (take k c) ≡ Err Short
  digits_cut k n c d fewer =
      let size = d.size in
      let cut_size : length (take k c) ≡ k = length-take-le k c (omega arith) in
      let front : take count (take k c) ≡ take k c = take_all count (take k c) (omega arith) in
      let missing : count - length (take k c) ≡ length c - k = omega arith in
      let value : spelled (take count (take k c)) * 256 ^ (count - length (take k c)) ≡ spelled (take k c) * 256 ^ (length c - k) =
      ap₂ (λ x e. spelled x * 256 ^ e) front missing in
      let below = spelled-take_le k c in
      let small = d.small in
      let is = d.is in
      cond-true _ _ _ (lt-ltb (spelled (take count (take k c)) * 256 ^ (count - length (take k c))) (2 ^ 31) (omega arith))
      ∙ cond-false _ _ _ (lt-leb count (length (take k c)) (omega arith))

-- which of three answers it was
digits_taken : (small whole : Bool) (x y : ℕ × List ℕ) (place : ℕ)
    → cond small (cond whole (Ok x) (Err Short)) (Err (BadMeta place)) ≡ Ok y → (small ≡ true) × (whole ≡ true) × (x ≡ y)
digits_taken true true x y place read = (refl, refl, cc)
digits_taken true false x y place read = cc
digits_taken false whole x y place read = cc

digits_cut_short : (small whole : Bool) (x : ℕ × List ℕ) (place : ℕ)
    → cond small (cond whole (Ok x) (Err Short)) (Err (BadMeta place)) ≡ Err Short → (small ≡ true) × (whole ≡ false)
digits_cut_short true true x place read = cc
digits_cut_short true false x place read = (refl, refl)
digits_cut_short false whole x place read = cc

module _ (place count : ℕ) where
  pub digits_sound : (n : ℕ) (bytes rest : List ℕ) → read_digits place count bytes ≡ Ok (n, rest)
      → (c : List ℕ) × IsDigits count n c × (bytes ≡ c ++ rest)
  digits_sound n bytes rest read =
      let value : ℕ = spelled (take count bytes) * 256 ^ (count - length bytes) in
      let was =
      digits_taken (ltb value (2 ^ 31)) (leb count (length bytes)) (spelled (take count bytes), drop count bytes) (n, rest) place read in
      let number : spelled (take count bytes) ≡ n = ap (λ p. p.0) was.2 in
      let behind : drop count bytes ≡ rest = ap (λ p. p.1) was.2 in
      let enough : count ≤ length bytes = leb-true count (length bytes) was.1 in
      let none : count - length bytes ≡ 0 = omega arith in
      let alone : value ≡ n = ap (λ e. spelled (take count bytes) * 256 ^ e) none ∙ omega arith in
      let below : value < 2 ^ 31 = ltb-true value (2 ^ 31) was.0 in (
        take count bytes,
        record { size = length-take-le count bytes enough; is = number; small = omega arith },
        sym (take-append-drop count bytes) ∙ ap (λ x. take count bytes ++ x) behind,
      )

  pub digits_short : (bytes : List ℕ) → read_digits place count bytes ≡ Err Short
      → (n : ℕ) × (c : List ℕ) × IsDigits count n (bytes ++ c)
  digits_short bytes read =
      let value : ℕ = spelled (take count bytes) * 256 ^ (count - length bytes) in
      let was =
      digits_cut_short (ltb value (2 ^ 31)) (leb count (length bytes)) (spelled (take count bytes), drop count bytes) place read in
      let fewer : length bytes < count = leb-false count (length bytes) was.1 in
      let below : value < 2 ^ 31 = ltb-true value (2 ^ 31) was.0 in
      let missing : ℕ = count - length bytes in
      let front : take count bytes ≡ bytes = take_all count bytes (omega arith) in (
        value,
        replicate missing 0,
        record {
          size = length-append bytes (replicate missing 0)
              ∙ ap (λ e. length bytes + e) (length-replicate missing 0) ∙ omega arith;
          is = spelled-append-zeros bytes missing ∙ ap (λ x. spelled x * 256 ^ missing) (sym front);
          small = below;
        },
      )

pub digits_field : (count : ℕ)
    → IsNumberField (IsDigits count) (λ total bytes. read_digits (total - length bytes) count bytes)
digits_field count = record {
  reads = λ total n c rest is. digits_reads (total - length (c ++ rest)) count n c rest is;
  sound = λ total n bytes rest read. digits_sound (total - length bytes) count n bytes rest read;
  cut = λ total k n c is fewer. digits_cut (total - length (take k c)) count k n c is fewer;
  short = λ total bytes read. digits_short (total - length bytes) count bytes read;
}

-- ---- numbers of variable length

pub length_reads : (place n : ℕ) (c rest : List ℕ) → IsLength n c
    → read_length place (c ++ rest) ≡ Ok (n, rest)
length_reads place n c rest (Alone m small) = cond-true _ _ _ (lt-ltb m 128 small)
length_reads place n c rest (Behind count m digits some few is) =
    let b : ℕ = 144 - count in
    let same : 144 - b ≡ count = omega arith in
    cond-false _ _ _ (le-ltb b 128 (omega arith))
    ∙ cond-false _ _ _ (or_from _ _ (le-ltb b 136 (omega arith)) (lt-leb 144 b (omega arith)))
    ∙ ap (λ k. read_digits place k (digits ++ rest)) same
    ∙ digits_reads place count m digits rest is

pub length_cut : (place k n : ℕ) (c : List ℕ) → IsLength n c → k < length c
    → read_length place (take k c) ≡ Err Short
length_cut place zero n c is fewer = refl
length_cut place (suc k) n c (Alone m small) fewer = absurd (omega arith)
length_cut place (suc k) n c (Behind count m digits some few is) fewer =
    let b : ℕ = 144 - count in
    let same : 144 - b ≡ count = omega arith in
    cond-false _ _ _ (le-ltb b 128 (omega arith))
    ∙ cond-false _ _ _ (or_from _ _ (le-ltb b 136 (omega arith)) (lt-leb 144 b (omega arith)))
    ∙ ap (λ j. read_digits place j (take k digits)) same
    ∙ digits_cut place count k m digits is (omega arith)

-- which of three answers it was
length_taken : (alone other : Bool) (x y : ℕ × List ℕ) (place : ℕ) (behind : Result (ℕ × List ℕ) HeaderFault)
    → cond alone (Ok x) (cond other (Err (BadMeta place)) behind) ≡ Ok y
    → ((alone ≡ true) × (x ≡ y)) ⊎ ((alone ≡ false) × (other ≡ false) × (behind ≡ Ok y))
length_taken true other x y place behind read = inl (refl, cc)
length_taken false true x y place behind read = cc
length_taken false false x y place behind read = inr (refl, refl, read)

length_cut_short : (alone other : Bool) (x : ℕ × List ℕ) (place : ℕ) (behind : Result (ℕ × List ℕ) HeaderFault)
    → cond alone (Ok x) (cond other (Err (BadMeta place)) behind) ≡ Err Short → (alone ≡ false) × (other ≡ false) × (behind ≡ Err Short)
length_cut_short true other x place behind read = cc
length_cut_short false true x place behind read = cc
length_cut_short false false x place behind read = (refl, refl, read)

-- a first byte behind which digits follow
behind_byte : (b n : ℕ) (digits : List ℕ) → ltb b 128 ≡ false → (ltb b 136 || leb 144 b) ≡ false
    → IsDigits (144 - b) n digits
    → IsLength n (b ∷ digits)
behind_byte b n digits not_alone not_other is =
    let outside = or_parts (ltb b 136) (leb 144 b) not_other in
    let low : 136 ≤ b = ltb-false b 136 outside.0 in
    let high : b < 144 = leb-false 144 b outside.1 in
    let same : 144 - (144 - b) ≡ b = omega arith in
    subst (λ x. IsLength n (x ∷ digits)) same (Behind (144 - b) n digits (omega arith) (omega arith) is)

pub length_sound : (place n : ℕ) (bytes rest : List ℕ) → read_length place bytes ≡ Ok (n, rest)
    → (c : List ℕ) × IsLength n c × (bytes ≡ c ++ rest)
length_sound place n [] rest read = cc
length_sound place n (b ∷ bytes) rest read = ⊎_elim
    (λ alone. let number : b ≡ n = ap (λ p. p.0) alone.1 in
    let behind : bytes ≡ rest = ap (λ p. p.1) alone.1 in
    let small : b < 128 = ltb-true b 128 alone.0 in
    (n ∷ [], Alone n (omega arith), ap₂ (λ x y. x ∷ y) number behind))
    (λ longer. let found = digits_sound place (144 - b) n bytes rest longer.2 in
    (b ∷ found.0, behind_byte b n found.0 longer.0 longer.1 found.1, ap (λ x. b ∷ x) found.2))
    (length_taken (ltb b 128) (ltb b 136 || leb 144 b) (b, bytes) (n, rest) place (read_digits place (144 - b) bytes) read)

pub length_short : (place : ℕ) (bytes : List ℕ) → read_length place bytes ≡ Err Short
    → (n : ℕ) × (c : List ℕ) × IsLength n (bytes ++ c)
length_short place [] read = (0, 0 ∷ [], Alone 0 (omega arith))
length_short place (b ∷ bytes) read =
    let was =
    length_cut_short (ltb b 128) (ltb b 136 || leb 144 b) (b, bytes) place (read_digits place (144 - b) bytes) read in
    let more = digits_short place (144 - b) bytes was.2 in
    (more.0, more.1, behind_byte b more.0 (bytes ++ more.1) was.0 was.1 more.2)

pub length_field : IsNumberField IsLength (λ total bytes. read_length (total - length bytes) bytes)
length_field = record {
  reads = λ total n c rest is. length_reads (total - length (c ++ rest)) n c rest is;
  sound = λ total n bytes rest read. length_sound (total - length bytes) n bytes rest read;
  cut = λ total k n c is fewer. length_cut (total - length (take k c)) k n c is fewer;
  short = λ total bytes read. length_short (total - length bytes) bytes read;
}

-- ---- so many bytes

skip_taken : (whole : Bool) (x y : List ℕ) → cond whole (Ok x) (Err Short) ≡ Ok y
    → (whole ≡ true) × (x ≡ y)
skip_taken true x y read = (refl, cc)
skip_taken false x y read = cc

skip_short : (whole : Bool) (x : List ℕ) → cond whole (Ok x) (Err Short) ≡ Err Short → whole ≡ false
skip_short true x read = cc
skip_short false x read = refl

pub skip_field : (n : ℕ) → IsField (λ bytes. length bytes ≡ n) (λ total bytes. skip n bytes)
skip_field n = record {
  reads = λ total c rest is.
      cond-true _ _ _ (le-leb n (length (c ++ rest)) (omega (arith, length-append c rest)))
      ∙ ap (λ x. Ok x) (drop_at c rest n is);
  sound = λ total bytes rest read.
      let was = skip_taken (leb n (length bytes)) (drop n bytes) rest read in (
        take n bytes,
        length-take-le n bytes (leb-true n (length bytes) was.0),
        sym (take-append-drop n bytes) ∙ ap (λ x. take n bytes ++ x) was.1,
      );
  cut = λ total k c is fewer.
      cond-false _ _ _ (lt-leb n (length (take k c)) (let size = length-take-le k c (omega arith) in omega arith));
  short = λ total bytes read.
      let fewer =
      leb-false n (length bytes) (skip_short (leb n (length bytes)) (drop n bytes) read) in
      let missing : ℕ = n - length bytes in (
        replicate missing 0,
        length-append bytes (replicate missing 0)
            ∙ ap (λ e. length bytes + e) (length-replicate missing 0) ∙ omega arith,
      );
  some = (replicate n 0, length-replicate n 0);
}

-- ---- texts and the metadata

pub text_field : IsField IsText read_text
text_field = number_then length_field skip_field (0, 0 ∷ [], Alone 0 (omega arith))

pub texts_field : (n : ℕ) → IsField (AreTexts n) (λ total bytes. read_texts total n bytes)
texts_field zero = record {
  reads = λ total c rest is. ap (λ x. Ok (x ++ rest)) is;
  sound = λ total bytes rest read. ([], refl, cc);
  cut = λ total k c is fewer. absurd (let size = ap length is in omega arith);
  short = λ total bytes read. cc;
  some = ([], refl);
}
texts_field (suc n) = two_fields text_field (texts_field n)

pub metadata_field : IsField IsMetadata read_metadata
metadata_field =
    number_then (digits_field 4) (λ n. texts_field (2 * n))
    (0, 0 ∷ 0 ∷ 0 ∷ 0 ∷ [], record { size = refl; is = refl; small = omega arith })

-- ---- a class

-- the spelling of 34 that begins with a byte
spelled_34-is : (b : ℕ) → IsLength 34 (spelled_34 b)
spelled_34-is b =
    cond_both (leb 136 b && ltb b 144) (b ∷ (replicate (143 - b) 0 ++ 34 ∷ [])) (34 ∷ []) (IsLength 34)
    (λ inside. let low : 136 ≤ b = leb-true 136 b (and_parts (leb 136 b) (ltb b 144) inside).0 in
    let high : b < 144 = ltb-true b 144 (and_parts (leb 136 b) (ltb b 144) inside).1 in
    let zeros : List ℕ = replicate (143 - b) 0 in
    behind_byte b 34 (zeros ++ 34 ∷ []) (le-ltb b 128 (omega arith)) (or_from _ _ (le-ltb b 136 low) (lt-leb 144 b high)) (record {
      size = length-append zeros (34 ∷ []) ∙ ap (λ n. n + 1) (length-replicate (143 - b) 0)
          ∙ omega arith;
      is = spelled-zeros-append (143 - b) (34 ∷ []);
      small = omega arith;
    }))
    (λ outside. Alone 34 (omega arith))

-- a spelling of 34 is the one that begins with its first byte
spelling_of_34 : (n : ℕ) (size : List ℕ) → IsLength n size → n ≡ 34
    → size ≡ spelled_34 (slice_index size 0)
spelling_of_34 n size (Alone m small) same = subst (λ x. x ∷ [] ≡ spelled_34 x) (sym same) refl
spelling_of_34 n size (Behind count m digits some few is) same =
    let b : ℕ = 144 - count in
    let zeros : digits ≡ replicate (count - 1) 0 ++ m ∷ [] =
    spelled_small m (count - 1) digits (omega arith) (is.size ∙ omega arith) is.is in
    let as_many : count - 1 ≡ 143 - b = omega arith in
    ap (λ x. b ∷ x) (zeros ∙ ap₂ (λ n x. replicate n 0 ++ x ∷ []) as_many same)
    ∙ sym (cond-true _ _ _ (and_from _ _ (le-leb 136 b (omega arith)) (lt-ltb b 144 (omega arith))))

-- no spelling is empty
length_some : (n : ℕ) (size : List ℕ) → IsLength n size → 0 < length size
length_some n size (Alone m small) = omega arith
length_some n size (Behind count m digits some few is) = omega arith

-- a class is its length, in the spelling that begins with its first byte, and its name
class_is : (bytes : List ℕ) → IsClass bytes → bytes ≡ spelled_34 (slice_index bytes 0) ++ class_text
class_is bytes form =
    let size : List ℕ = form.0 in
    let first : slice_index bytes 0 ≡ slice_index size 0 =
    ap (λ x. slice_index x 0) form.2
    ∙ get_or_append_left size class_text 0 0 (length_some 34 size form.1) in
    form.2
    ∙ ap (λ x. x ++ class_text) (spelling_of_34 34 size form.1 refl ∙ ap spelled_34 (sym first))

class_some : (bytes : List ℕ) → IsClass bytes → 0 < length bytes
class_some bytes form =
    let some = length_some 34 form.0 form.1 in
    let all = ap length form.2 ∙ length-append form.0 class_text in
    omega arith

-- a proper front of a class is Short
class_cut : (k : ℕ) (c : List ℕ) → IsClass c → k < length c → read_class (take k c) ≡ Err Short
unfolding read_class
class_cut zero c form fewer =
    let some = length_some 34 (spelled_34 0) (spelled_34-is 0) in
    expect-cut (spelled_34 0 ++ class_text) OtherClass 0 (omega (arith, length-append (spelled_34 0) class_text))
class_cut (suc k) c form fewer =
    let b : ℕ = slice_index c 0 in
    let is : c ≡ spelled_34 b ++ class_text = class_is c form in
    let first : slice_index (take (suc k) c) 0 ≡ b = get_or-take (suc k) c 0 0 (omega arith) in
    let size = ap length is in
    ap₂ (λ x y. expect (spelled_34 x ++ class_text) OtherClass (take (suc k) y)) first is
    ∙ expect-cut (spelled_34 b ++ class_text) OtherClass (suc k) (omega arith)

pub class_field : IsField IsClass (λ total bytes. read_class bytes)
unfolding read_class
class_field = record {
  reads = λ total c rest form.
      let b : ℕ = slice_index c 0 in
      let first : slice_index (c ++ rest) 0 ≡ b =
      get_or_append_left c rest 0 0 (class_some c form) in
      ap₂ (λ x y. expect (spelled_34 x ++ class_text) OtherClass (y ++ rest)) first (class_is c form)
      ∙ expect-append (spelled_34 b ++ class_text) OtherClass rest;
  sound = λ total bytes rest read.
      let b : ℕ = slice_index bytes 0 in (
        spelled_34 b ++ class_text,
        (spelled_34 b, spelled_34-is b, refl),
        expect-sound (spelled_34 b ++ class_text) OtherClass bytes rest read,
      );
  cut = λ total k c form fewer. class_cut k c form fewer;
  short = λ total bytes read.
      let b : ℕ = slice_index bytes 0 in (
        drop (length bytes) (spelled_34 b ++ class_text),
        (spelled_34 b, spelled_34-is b, expect-short (spelled_34 b ++ class_text) OtherClass bytes (λ e. cc) read),
      );
  some = (spelled_34 34 ++ class_text, (spelled_34 34, spelled_34-is 34, refl));
}

-- ---- all fields before the marker

-- the fields before the metadata, one after the other
abbrev pub AreFront : List ℕ → Type 0
AreFront =
    Both (λ bytes. bytes ≡ codes "SEQ")
    (Both (λ bytes. bytes ≡ 6 ∷ []) (Both IsClass (Both IsClass (λ bytes. bytes ≡ 0 ∷ 0 ∷ []))))

pub front_field : IsField AreFront (λ total bytes. read_front bytes)
unfolding read_front
front_field =
    two_fields (wanted (codes "SEQ") NotSeq (λ e. cc))
    (two_fields version_field
    (two_fields class_field (two_fields class_field (wanted (0 ∷ 0 ∷ []) Compressed (λ e. cc)))))

-- and the metadata
abbrev pub AreFields : List ℕ → Type 0
AreFields = Both AreFront IsMetadata

pub fields_field : IsField AreFields read_fields
unfolding read_fields
fields_field = two_fields front_field metadata_field
