-- What is read as a header is one, and a header is read, whatever follows.
use Rattle.std.proofs.Common.{IfOk, Result, ◌≡◌, ℕ, ◌+◌, ◌-◌, ◌<◌, ◌≤◌, Bool, true, false, cond, leb, List, [], ◌∷◌, ◌++◌, length, take, replicate, Ok, Err, ⊎_elim, arith, refl, ap, ap₂, sym, subst, ◌∙◌}
use Rattle.std.proofs.lemmas.List.{length-append, length-take-le, length-replicate, take_at, append_assoc}
use Rattle.std.proofs.lemmas.Bool.{le-leb, lt-leb, leb-true, leb-false, cond-true, cond-false, cases_lt}
use Rattle.std.specs.Prelude.{codes}
use Rattle.chk_seqfile.specs.declared.headers.HeaderRef.{HeaderRef}
use Rattle.chk_seqfile.specs.declared.headers.HeaderFault.{HeaderFault}
use Rattle.chk_seqfile.specs.declared.headers.HeaderFault.TheVariants.{Short}
use Rattle.md5.proofs.StandardFacts.{length-md5}
use Rattle.chk_seqfile.specs.Headers.{marker_of, ◌>>=◌, class_text, written_front, header, read_fields, read_header, read_marker}
use Rattle.chk_seqfile.specs.HeaderGrammar.{IsHeaderFront, IsHeader, IsClass, Alone}
use Rattle.chk_seqfile.proofs.FieldLemmas.{Both, bind_ok, bind_err, take_within, take_past}
use Rattle.chk_seqfile.proofs.HeaderFields.{AreFront, AreFields, fields_field}

-- the fields before the metadata, and then more
front_and_more : (key value more : List ℕ)
    → (codes "SEQ" ++ (6 ∷ (key ++ (value ++ 0 ∷ 0 ∷ [])))) ++ more
    ≡ codes "SEQ" ++ (6 ∷ (key ++ (value ++ (0 ∷ 0 ∷ more))))
front_and_more key value more =
    ap (λ x. codes "SEQ" ++ (6 ∷ x))
    (append_assoc key (value ++ 0 ∷ 0 ∷ []) more ∙ ap (λ x. key ++ x) (append_assoc value (0 ∷ 0 ∷ []) more))

-- the fields and the marker are a header
header_from_fields : (marker fields : List ℕ) → AreFields fields → length marker ≡ 16
    → IsHeader marker (fields ++ marker)
header_from_fields marker fields (front, metadata, behind_seq, form, whole) size =
    let behind_version = behind_seq.3 in
    let behind_key = behind_version.3 in
    let behind_value = behind_key.3 in
    let key : List ℕ = behind_key.0 in
    let value : List ℕ = behind_value.0 in
    let key_is : behind_version.1 ≡ key ++ (value ++ 0 ∷ 0 ∷ []) =
    behind_key.4 ∙ ap (λ x. key ++ x) (behind_value.4 ∙ ap (λ x. value ++ x) behind_value.3) in
    let front_is : front ≡ codes "SEQ" ++ (6 ∷ (key ++ (value ++ 0 ∷ 0 ∷ []))) =
    behind_seq.4 ∙ ap₂ (λ a b. a ++ b) behind_seq.2 (behind_version.4 ∙ ap₂ (λ a b. a ++ b) behind_version.2 key_is) in
    record {
      key_class = key;
      value_class = value;
      metadata = metadata;
      key_form = behind_key.2;
      value_form = behind_value.2;
      metadata_form = form;
      marker_size = size;
      is = ap (λ x. x ++ marker) whole ∙ append_assoc front metadata marker
          ∙ ap (λ x. x ++ (metadata ++ marker)) front_is ∙ front_and_more key value (metadata ++ marker);
    }

-- a header is its fields and the marker
fields_of_header : (marker bytes : List ℕ) → IsHeader marker bytes
    → (fields : List ℕ) × AreFields fields × (bytes ≡ fields ++ marker)
fields_of_header marker bytes h =
    let key : List ℕ = h.key_class in
    let value : List ℕ = h.value_class in
    let flags : List ℕ = 0 ∷ 0 ∷ [] in
    let front : List ℕ = codes "SEQ" ++ (6 ∷ (key ++ (value ++ flags))) in
    let behind_key : Both IsClass (λ x. x ≡ flags) (value ++ flags) = (value, flags, h.value_form, refl, refl) in
    let behind_version : Both IsClass (Both IsClass (λ x. x ≡ flags)) (key ++ (value ++ flags)) =
    (key, value ++ flags, h.key_form, behind_key, refl) in
    let classes : List ℕ = key ++ (value ++ flags) in
    let front_form : AreFront front =
    (codes "SEQ", 6 ∷ classes, refl, (6 ∷ [], classes, refl, behind_version, refl), refl) in (
      front ++ h.metadata,
      (front, h.metadata, front_form, h.metadata_form, refl),
      h.is ∙ sym (append_assoc front h.metadata marker ∙ front_and_more key value (h.metadata ++ marker)),
    )

-- the marker is read, whatever follows
marker_reads : (total : ℕ) (marker rest : List ℕ) → length marker ≡ 16
    → length (marker ++ rest) ≤ total
    → read_marker total (marker ++ rest) ≡ Ok (record { marker = marker; end = total - length rest })
marker_reads total marker rest size within =
    let all = length-append marker rest in
    cond-true _ _ _ (le-leb 16 (length (marker ++ rest)) (omega arith))
    ∙ ap₂ (λ m e. Ok (record { marker = m; end = e })) (take_at marker rest 16 size) (omega arith)

-- a header is read, whatever follows
pub read_header-append : (marker bytes rest : List ℕ) → IsHeader marker bytes
    → read_header (bytes ++ rest) ≡ Ok (record { marker = marker; end = length bytes })
unfolding read_header
read_header-append marker bytes rest h =
    let found = fields_of_header marker bytes h in
    let fields : List ℕ = found.0 in
    let split : bytes ++ rest ≡ fields ++ (marker ++ rest) =
    ap (λ x. x ++ rest) found.2 ∙ append_assoc fields marker rest in
    let total : ℕ = length (bytes ++ rest) in
    let all : total ≡ length bytes + length rest = length-append bytes rest in
    let parts : total ≡ length fields + length (marker ++ rest) =
    ap length split ∙ length-append fields (marker ++ rest) in
    ap (λ r. r >>= read_marker total) (ap (read_fields total) split ∙ fields_field.reads total fields (marker ++ rest) found.1)
    ∙ marker_reads total marker rest h.marker_size (omega arith)
    ∙ ap (λ e. Ok (record { marker = marker; end = e })) (omega arith)

marker_taken : (whole : Bool) (x y : HeaderRef) → cond whole (Ok x) (Err Short) ≡ Ok y
    → (whole ≡ true) × (x ≡ y)
marker_taken true x y read = (refl, cc)
marker_taken false x y read = cc

marker_cut_short : (whole : Bool) (x : HeaderRef) → cond whole (Ok x) (Err Short) ≡ Err Short
    → whole ≡ false
marker_cut_short true x read = cc
marker_cut_short false x read = refl

-- what is read is a header
pub read_header-sound : (bytes : List ℕ) (head : HeaderRef) → read_header bytes ≡ Ok head
    → (head.end ≤ length bytes) × IsHeader head.marker (take head.end bytes)
unfolding read_header
read_header-sound bytes head read =
    let total : ℕ = length bytes in
    let steps = bind_ok (read_fields total bytes) (read_marker total) head read in
    let behind : List ℕ = steps.0 in
    let found = fields_field.sound total bytes behind steps.1 in
    let fields : List ℕ = found.0 in
    let was =
    marker_taken (leb 16 (length behind)) (record { marker = take 16 behind; end = total - length behind + 16 }) head steps.2 in
    let enough : 16 ≤ length behind = leb-true 16 (length behind) was.0 in
    let marker_is : take 16 behind ≡ head.marker = ap (λ h. h.marker) was.1 in
    let end_is : total - length behind + 16 ≡ head.end = ap (λ h. h.end) was.1 in
    let all : total ≡ length fields + length behind =
    ap length found.2 ∙ length-append fields behind in
    let sixteen : total - length behind + 16 - length fields ≡ 16 = omega arith in
    let cut : take head.end bytes ≡ fields ++ head.marker =
    ap₂ take (sym end_is) found.2
    ∙ take_past (total - length behind + 16) fields behind (omega arith)
    ∙ ap (λ x. fields ++ x) (ap (λ n. take n behind) sixteen ∙ marker_is) in (
      omega arith,
      subst (IsHeader head.marker) (sym cut)
          (header_from_fields head.marker fields found.1 (sym (ap length marker_is) ∙ length-take-le 16 behind enough)),
    )

-- a proper front of a header is Short
pub read_header-cut : (marker bytes : List ℕ) (k : ℕ) → IsHeader marker bytes → k < length bytes
    → read_header (take k bytes) ≡ Err Short
unfolding read_header
read_header-cut marker bytes k h fewer =
    let found = fields_of_header marker bytes h in
    let fields : List ℕ = found.0 in
    let total : ℕ = length (take k bytes) in
    let size = h.marker_size in
    let all : length bytes ≡ length fields + length marker =
    ap length found.2 ∙ length-append fields marker in
    ap (λ x. read_fields total x >>= read_marker total) (ap (take k) found.2)
    ∙ ⊎_elim
    (λ inside. ap (λ x. read_fields total x >>= read_marker total) (take_within k fields marker (omega arith))
    ∙ ap (λ r. r >>= read_marker total) (fields_field.cut total k fields found.1 inside))
    (λ past. let left : List ℕ = take (k - length fields) marker in
    let left_size : length left ≡ k - length fields =
    length-take-le (k - length fields) marker (omega arith) in
    ap (λ x. read_fields total x >>= read_marker total) (take_past k fields marker past)
    ∙ ap (λ r. r >>= read_marker total) (fields_field.reads total fields left found.1)
    ∙ cond-false _ _ _ (lt-leb 16 (length left) (omega arith)))
    (cases_lt k (length fields))

-- what is Short is a proper front of a header
pub read_header-short : (bytes : List ℕ) → read_header bytes ≡ Err Short
    → (more : List ℕ) × (marker : List ℕ) × (0 < length more) × IsHeader marker (bytes ++ more)
unfolding read_header
read_header-short bytes read = ⊎_elim
    (λ in_fields. let found = fields_field.short total bytes in_fields in
    let zeros : List ℕ = replicate 16 0 in (
      found.0 ++ zeros,
      zeros,
      omega (arith, length-append found.0 zeros),
      subst (IsHeader zeros) (append_assoc bytes found.0 zeros) (header_from_fields zeros (bytes ++ found.0) found.1 refl),
    ))
    (λ in_marker. let behind : List ℕ = in_marker.0 in
    let found = fields_field.sound total bytes behind in_marker.1 in
    let fewer = leb-false 16 (length behind)
    (marker_cut_short (leb 16 (length behind)) (record { marker = take 16 behind; end = total - length behind + 16 }) in_marker.2) in
    let zeros : List ℕ = replicate (16 - length behind) 0 in
    let size : length zeros ≡ 16 - length behind = length-replicate (16 - length behind) 0 in (
      zeros,
      behind ++ zeros,
      omega arith,
      subst (IsHeader (behind ++ zeros)) (sym (ap (λ x. x ++ zeros) found.2 ∙ append_assoc found.0 behind zeros))
          (header_from_fields (behind ++ zeros) found.0 found.1 (length-append behind zeros ∙ omega arith)),
    ))
    (bind_err (read_fields total bytes) (read_marker total) Short read)
  where
    total : ℕ
    total = length bytes

-- 80 bytes are written before the marker
pub length-written_front : length written_front ≡ 80
unfolding written_front class_text
length-written_front = refl

-- a written header has 96 bytes
pub length-header : (marker : List ℕ) → length marker ≡ 16 → length (header marker) ≡ 96
length-header marker size =
    length-append written_front marker ∙ ap₂ (λ a b. a + b) length-written_front size

-- what is written is a header
pub IsHeader-header : (marker : List ℕ) → length marker ≡ 16 → IsHeader marker (header marker)
unfolding written_front class_text
IsHeader-header marker size =
    let class : List ℕ = 34 ∷ class_text in
    let form : IsClass class = (34 ∷ [], Alone 34 (omega arith), refl) in
    record {
      key_class = class;
      value_class = class;
      metadata = 0 ∷ 0 ∷ 0 ∷ 0 ∷ [];
      key_form = form;
      value_form = form;
      metadata_form = (0, 0 ∷ 0 ∷ 0 ∷ 0 ∷ [], [], record { size = refl; is = refl; small = omega arith }, refl, refl);
      marker_size = size;
      is = refl;
    }

-- the marker of a stem has 16 bytes
pub length-marker_of : (stem : List ℕ) → length (marker_of stem) ≡ 16
unfolding marker_of
length-marker_of stem = length-md5 stem

-- what an answer says that is what is read
pub found_header : (bytes : List ℕ) (r : Result HeaderRef HeaderFault) → r ≡ read_header bytes
    → IfOk r (λ head. (head.end ≤ length bytes) × IsHeader head.marker (take head.end bytes))
found_header bytes (Ok head) read = read_header-sound bytes head (sym read)
found_header bytes (Err fault) read = tt

-- just the proper fronts of headers are Short
pub read_header-front : (bytes : List ℕ) → IsHeaderFront bytes → read_header bytes ≡ Err Short
read_header-front bytes (more, marker, some, h) =
    ap read_header (sym (take_at bytes more (length bytes) refl))
    ∙ read_header-cut marker (bytes ++ more) (length bytes) h (omega (arith, length-append bytes more))
