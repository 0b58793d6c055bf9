-- A header that is read in steps is read as it is at once.
use Rattle.std.proofs.Common.{◌≡◌, ℕ, suc, ◌-◌, ◌*◌, ◌<◌, List, [], ◌++◌, length, take, drop, Option, Some, None, Result, Ok, Err, ⊎_elim, arith, ap, ap₂, sym, ◌∙◌}
use Rattle.std.proofs.lemmas.List.{length-append, drop_at, take-append-drop, drop-append-le, append_assoc, append-nil}
use Rattle.chk_seqfile.specs.declared.headers.HeaderFault.{HeaderFault}
use Rattle.chk_seqfile.specs.declared.headers.TextsLeft.{TextsLeft}
use Rattle.chk_seqfile.specs.Headers.{◌>>=◌, read_front, read_digits, read_text, read_texts, read_metadata, read_fields, read_marker, read_header}
use Rattle.chk_seqfile.specs.HeaderSteps.{read_first_text, header_from, HasComeTo, HasCome}
use Rattle.chk_seqfile.proofs.FieldLemmas.{bind_ok, bind_err, field_more, number_more}
use Rattle.chk_seqfile.proofs.HeaderFields.{front_field, digits_field, text_field}

-- what stands last begins where so many bytes are left
behind_place : (bytes front rest : List ℕ) → bytes ≡ front ++ rest → drop (length bytes - length rest) bytes ≡ rest
behind_place bytes front rest split =
    let size : length front ≡ length bytes - length rest =
    (let all = ap length split in omega (arith, length-append front rest)) in
    ap (drop (length bytes - length rest)) split ∙ drop_at front rest (length bytes - length rest) size

-- ---- up to the first text

-- what the front and the count of a header are read as
record ReadFirst (bytes : List ℕ) (left : TextsLeft) : Type 0 where
  behind_front : List ℕ
  count : ℕ
  behind_count : List ℕ
  front : read_front bytes ≡ Ok behind_front
  digits : read_digits (length bytes - length behind_front) 4 behind_front ≡ Ok (count, behind_count)
  is : left ≡ record { place = length bytes - length behind_count; texts = 2 * count }

-- where the texts are, by the count
abbrev texts_at : ℕ → ℕ × List ℕ → TextsLeft
texts_at total count = record { place = total - length count.1; texts = 2 * count.0 }

-- the count and the texts, behind the front
abbrev texts_behind : ℕ → List ℕ → Result TextsLeft HeaderFault
texts_behind total behind = read_digits (total - length behind) 4 behind >>= (λ count. Ok (texts_at total count))

read_first : (bytes : List ℕ) (left : TextsLeft) → read_first_text bytes ≡ Ok left → ReadFirst bytes left
unfolding read_first_text
read_first bytes left read =
    let total : ℕ = length bytes in
    let first = bind_ok (read_front bytes) (texts_behind total) left read in
    let second =
    bind_ok (read_digits (total - length first.0) 4 first.0) (λ count. Ok (texts_at total count)) left first.2 in
    record {
      behind_front = first.0;
      count = second.0.0;
      behind_count = second.0.1;
      front = first.1;
      digits = second.1;
      is = cc;
    }

-- the bytes behind the count stand at the place
behind_first : (bytes : List ℕ) (left : TextsLeft) (r : ReadFirst bytes left) → drop left.place bytes ≡ r.behind_count
behind_first bytes left r =
    let front = front_field.sound (length bytes) bytes r.behind_front r.front in
    let count = (digits_field 4).sound (length bytes) r.count r.behind_front r.behind_count r.digits in
    let split : bytes ≡ (front.0 ++ count.0) ++ r.behind_count =
    front.2 ∙ ap (λ x. front.0 ++ x) count.2 ∙ sym (append_assoc front.0 count.0 r.behind_count) in
    ap (λ l. drop l.place bytes) r.is ∙ behind_place bytes (front.0 ++ count.0) r.behind_count split

-- with more bytes it is read so too
first_more : (bytes more : List ℕ) (left : TextsLeft) → ReadFirst bytes left → ReadFirst (bytes ++ more) left
first_more bytes more left r =
    let total : ℕ = length bytes in
    let longer : ℕ = length (bytes ++ more) in record {
      behind_front = r.behind_front ++ more;
      count = r.count;
      behind_count = r.behind_count ++ more;
      front = field_more front_field total longer bytes r.behind_front more r.front;
      digits = number_more (digits_field 4) total longer r.count r.behind_front r.behind_count more r.digits;
      is = r.is ∙ ap (λ n. record { place = n; texts = 2 * r.count })
          (omega (arith, length-append bytes more, length-append r.behind_count more));
    }

header_behind : (bytes : List ℕ) (left : TextsLeft) → ReadFirst bytes left → read_header bytes ≡ header_from left bytes
unfolding read_header read_fields
header_behind bytes left r =
    let total : ℕ = length bytes in
    let texts : 2 * r.count ≡ left.texts = ap (λ l. l.texts) (sym r.is) in
    ap (λ x. x >>= read_metadata total >>= read_marker total) r.front
    ∙ ap (λ x. x >>= (λ count. read_texts total (2 * count.0) count.1) >>= read_marker total) r.digits
    ∙ ap₂ (λ n x. read_texts total n x >>= read_marker total) texts (sym (behind_first bytes left r))

-- where it was read, the header is read on from there
pub come_first : (bytes : List ℕ) (left : TextsLeft) → read_first_text bytes ≡ Ok left → HasComeTo left bytes
come_first bytes left read =
    let r = read_first bytes left read in
    record {
      within = (let place = ap (λ l. l.place) r.is in omega arith);
      on = λ more. header_behind (bytes ++ more) left (first_more bytes more left r);
    }

no_count : {A B : Type 0} (r : Result A HeaderFault) (f : A → B) (fault : HeaderFault)
    → (r >>= (λ x. Ok (f x))) ≡ Err fault → r ≡ Err fault
no_count (Ok x) f fault read = cc
no_count (Err other) f fault read = let same : other ≡ fault = cc in ap (λ x. Err x) same

-- where it can't be read, nor can the header
pub first_refused : (bytes : List ℕ) (fault : HeaderFault) → read_first_text bytes ≡ Err fault
    → read_header bytes ≡ Err fault
unfolding read_header read_fields read_first_text
first_refused bytes fault read =
    let total : ℕ = length bytes in
    ⊎_elim
    (λ front. ap (λ x. x >>= read_metadata total >>= read_marker total) front)
    (λ behind. ap (λ x. x >>= read_metadata total >>= read_marker total) behind.1
    ∙ ap (λ x. x >>= (λ count. read_texts total (2 * count.0) count.1) >>= read_marker total)
    (no_count (read_digits (total - length behind.0) 4 behind.0) (texts_at total) fault behind.2))
    (bind_err (read_front bytes) (texts_behind total) fault read)

-- ---- on over texts

-- without more
come_now : (left : TextsLeft) (bytes : List ℕ) → HasComeTo left bytes → read_header bytes ≡ header_from left bytes
come_now left bytes come =
    ap read_header (sym (append-nil bytes)) ∙ come.on [] ∙ ap (header_from left) (append-nil bytes)

-- over a text that is whole
pub come_text : (left : TextsLeft) (bytes rest : List ℕ) → HasComeTo left bytes → 0 < left.texts
    → read_text (length bytes) (drop left.place bytes) ≡ Ok rest
    → HasComeTo (record { place = length bytes - length rest; texts = left.texts - 1 }) bytes
come_text left bytes rest come some read = record {
  within = omega arith;
  on = λ more.
      let all : List ℕ = bytes ++ more in
      let total : ℕ = length all in
      let place : ℕ = length bytes - length rest in
      let within = come.within in
      let one_more : left.texts ≡ suc (left.texts - 1) = omega arith in
      let found = text_field.sound (length bytes) (drop left.place bytes) rest read in
      let front : List ℕ = take left.place bytes ++ found.0 in
      let split : bytes ≡ front ++ rest =
      sym (take-append-drop left.place bytes) ∙ ap (λ x. take left.place bytes ++ x) found.2
      ∙ sym (append_assoc (take left.place bytes) found.0 rest) in
      let text : read_text total (drop left.place all) ≡ Ok (rest ++ more) =
      ap (read_text total) (drop-append-le left.place bytes more within)
      ∙ field_more text_field (length bytes) total (drop left.place bytes) rest more read in
      let there : rest ++ more ≡ drop place all =
      sym (drop-append-le place bytes more (omega arith) ∙ ap (λ x. x ++ more) (behind_place bytes front rest split)) in
      come.on more ∙ ap (λ n. read_texts total n (drop left.place all) >>= read_marker total) one_more
      ∙ ap (λ r. r >>= read_texts total (left.texts - 1) >>= read_marker total) text
      ∙ ap (λ x. read_texts total (left.texts - 1) x >>= read_marker total) there;
}

-- where the next text can't be read, nor can the header
pub text_refused : (left : TextsLeft) (bytes : List ℕ) (fault : HeaderFault) → HasComeTo left bytes → 0 < left.texts
    → read_text (length bytes) (drop left.place bytes) ≡ Err fault → read_header bytes ≡ Err fault
text_refused left bytes fault come some read =
    let total : ℕ = length bytes in
    let one_more : left.texts ≡ suc (left.texts - 1) = omega arith in
    come_now left bytes come ∙ ap (λ n. read_texts total n (drop left.place bytes) >>= read_marker total) one_more
    ∙ ap (λ r. r >>= read_texts total (left.texts - 1) >>= read_marker total) read

-- behind the last one
pub come_marker : (left : TextsLeft) (bytes : List ℕ) → HasComeTo left bytes → left.texts ≡ 0
    → read_header bytes ≡ read_marker (length bytes) (drop left.place bytes)
come_marker left bytes come none =
    let total : ℕ = length bytes in
    come_now left bytes come ∙ ap (λ n. read_texts total n (drop left.place bytes) >>= read_marker total) none

-- ---- more bytes

-- what was read stays read
pub HasCome-append : (from : Option TextsLeft) (bytes more : List ℕ) → HasCome from bytes → HasCome from (bytes ++ more)
HasCome-append None bytes more come = tt
HasCome-append (Some left) bytes more come =
    let within = come.within in
    record {
      within = omega (arith, length-append bytes more);
      on = λ further. ap read_header (append_assoc bytes more further) ∙ come.on (more ++ further)
          ∙ ap (header_from left) (sym (append_assoc bytes more further));
    }
