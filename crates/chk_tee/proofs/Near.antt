-- The places of a key's faults are near its beginning.
use Rattle.std.proofs.Common.{refl, zero, suc, ◌^◌, ◌≡◌, ℕ, ◌+◌, ◌<◌, ◌≤◌, Bool, true, false, cond, List, [], ◌∷◌, length, take, drop, Option, Some, None, arith, subst, not}
use Rattle.std.specs.Prelude.{position}
use Rattle.std.specs.Option.{option_map}
use Rattle.std.specs.Str.{is_utf8}
use Rattle.std.proofs.lemmas.List.{get_or-drop}
use Rattle.std.proofs.lemmas.List.Quantifiers.{position-Some}
use Rattle.std.proofs.lemmas.Str.{utf8_valid_len_le}
use Rattle.chk_bytes.specs.Laws.{AreBytes}
use Rattle.chk_bytes.specs.Numbers.{spelled, spelled_at}
use Rattle.chk_bytes.specs.Words.{is_word_byte}
use Rattle.chk_bytes.proofs.NumberLemmas.{spelled_below}
use Rattle.chk_chunk.proofs.NumberLemmas.{AreBytes-take, AreBytes-drop}
use Rattle.chk_chunk.specs.Keys.{text_at, behind_text, behind_stream, is_version_1}
use Rattle.chk_chunk.specs.Faults.{first_fault, fault_if, letters_fault, text_fault, stream_fault, head_fault, rest_1_fault, rest_2_fault, key_fault}
use Rattle.chk_chunk.specs.declared.faults.ChunkFault.{ChunkFault}
use Rattle.chk_chunk.specs.declared.faults.ChunkFault.TheVariants.{NotWord}
use Rattle.chk_tee.specs.Faults.{IsNear, nearest}

-- it is near, where there is one
abbrev pub MayBeNear : Option ChunkFault → Type 0
MayBeNear None = Unit {0}
MayBeNear (Some fault) = IsNear fault

near_first : (f : Option ChunkFault) (fs : List (Option ChunkFault)) → MayBeNear f → MayBeNear (first_fault fs)
    → MayBeNear (first_fault (f ∷ fs))
unfolding first_fault
near_first None fs p q = q
near_first (Some fault) fs p q = p

near_last : MayBeNear (first_fault [])
unfolding first_fault
near_last = tt

near_if : (b : Bool) (fault : ChunkFault) → IsNear fault → MayBeNear (fault_if b fault)
unfolding fault_if
near_if true fault p = p
near_if false fault p = tt

near_cond : (b : Bool) (f g : Option ChunkFault) → MayBeNear f → MayBeNear g → MayBeNear (cond b f g)
near_cond true f g p q = p
near_cond false f g p q = q

near_mapped : (at : ℕ) (o : Option ℕ) → ((i : ℕ) → o ≡ Some i → at + i ≤ nearest) → MayBeNear (option_map (λ i. NotWord (at + i)) o)
near_mapped at None p = tt
near_mapped at (Some i) p = p i refl

length_take_most : (n : ℕ) (xs : List ℕ) → length (take n xs) ≤ n
length_take_most zero xs = omega arith
length_take_most (suc n) [] = omega arith
length_take_most (suc n) (x ∷ xs) = omega (arith, length_take_most n xs)

-- no number of two bytes is more
pub spelled_2 : (at : ℕ) (bytes : List ℕ) → AreBytes bytes → spelled_at at 2 bytes < 65536
spelled_2 at bytes each =
    let part : List ℕ = take 2 (drop at bytes) in
    let below : spelled part < 256 ^ length part = spelled_below part (AreBytes-take 2 (drop at bytes) (AreBytes-drop at bytes each)) in
    by_size (spelled part) (length part) (length_take_most 2 (drop at bytes)) below
  where
    by_size : (n size : ℕ) → size ≤ 2 → n < 256 ^ size → n < 65536
    by_size n zero most below = omega (arith, below)
    by_size n (suc zero) most below = omega (arith, below)
    by_size n (suc (suc zero)) most below = omega (arith, below)
    by_size n (suc (suc (suc k))) most below = absurd (omega arith)

text_at-short : (at : ℕ) (bytes : List ℕ) → AreBytes bytes → length (text_at at bytes) < 65536
text_at-short at bytes each =
    omega (arith, spelled_2 at bytes each, length_take_most (spelled_at at 2 bytes) (drop (at + 2) bytes))

near_letters : (at : ℕ) (text : List ℕ) → at + 65536 ≤ nearest → length text < 65536 → MayBeNear (letters_fault at text)
unfolding letters_fault
near_letters at text low short =
    near_cond (is_utf8 text) _ _
    (near_mapped at (position (λ b. not (is_word_byte b)) text)
    (λ i e. let w = (position-Some (λ b. not (is_word_byte b)) text i 0 e).0 in omega arith))
    (omega (arith, utf8_valid_len_le text))

near_text : (at : ℕ) (bytes : List ℕ) → AreBytes bytes → at + 65538 ≤ nearest → MayBeNear (text_fault at bytes)
unfolding text_fault
near_text at bytes each low =
    near_first _ _ (near_if _ _ (omega arith))
    (near_first _ _ (near_if _ _ (omega arith))
    (near_first _ _ (near_if _ _ tt)
    (near_first _ _ (near_if _ _ (omega arith))
    (near_first _ _ (near_letters (at + 2) (text_at at bytes) (omega arith) (text_at-short at bytes each)) near_last))))

behind_near : (at : ℕ) (bytes : List ℕ) → AreBytes bytes → behind_text at bytes ≤ at + 65538
behind_near at bytes each = omega (arith, spelled_2 at bytes each)

near_stream : (at : ℕ) (bytes : List ℕ) → AreBytes bytes → at + 196614 ≤ nearest → MayBeNear (stream_fault at bytes)
unfolding stream_fault
near_stream at bytes each low =
    let kind : ℕ = behind_text at bytes in
    let name : ℕ = behind_text kind bytes in
    let a : kind ≤ at + 65538 = behind_near at bytes each in
    let b : name ≤ kind + 65538 = behind_near kind bytes each in
    near_first _ _ (near_text at bytes each (omega arith))
    (near_first _ _ (near_text kind bytes each (omega arith))
    (near_first _ _ (near_text name bytes each (omega arith)) near_last))

stream_near : (at : ℕ) (bytes : List ℕ) → AreBytes bytes → behind_stream at bytes ≤ at + 196614
stream_near at bytes each =
    let kind : ℕ = behind_text at bytes in
    let name : ℕ = behind_text kind bytes in
    let a : kind ≤ at + 65538 = behind_near at bytes each in
    let b : name ≤ kind + 65538 = behind_near kind bytes each in
    let d : behind_text name bytes ≤ name + 65538 = behind_near name bytes each in
    omega arith

near_head : (bytes : List ℕ) → MayBeNear (head_fault 0 bytes)
unfolding head_fault
near_head bytes =
    near_first _ _ (near_if _ _ (omega arith))
    (near_first _ _ (near_if _ _ tt)
    (near_first _ _ (near_if _ _ (omega arith))
    (near_first _ _ (near_if _ _ tt) near_last)))

near_1 : (bytes : List ℕ) → AreBytes bytes → MayBeNear (rest_1_fault 0 bytes)
unfolding rest_1_fault
near_1 bytes each =
    near_first _ _ (near_if _ _ tt)
    (near_first _ _ (near_stream 9 bytes each (omega arith))
    (near_first _ _ (near_if _ _ (omega (arith, stream_near 9 bytes each))) near_last))

near_2 : (bytes : List ℕ) → AreBytes bytes → MayBeNear (rest_2_fault 0 bytes)
unfolding rest_2_fault
near_2 bytes each =
    let cluster : ℕ = behind_stream 17 bytes in
    let a : cluster ≤ 17 + 196614 = stream_near 17 bytes each in
    let b : behind_text cluster bytes ≤ cluster + 65538 = behind_near cluster bytes each in
    near_first _ _ (near_if _ _ (omega arith))
    (near_first _ _ (near_if _ _ tt)
    (near_first _ _ (near_stream 17 bytes each (omega arith))
    (near_first _ _ (near_text cluster bytes each (omega arith))
    (near_first _ _ (near_if _ _ (omega arith)) near_last))))

key_near : (bytes : List ℕ) → AreBytes bytes → MayBeNear (key_fault 0 bytes)
unfolding key_fault
key_near bytes each =
    near_first _ _ (near_head bytes)
    (near_first _ _ (near_cond (is_version_1 0 bytes) _ _ (near_1 bytes each) (near_2 bytes each)) near_last)

pub fault_is_near : (bytes : List ℕ) (fault : ChunkFault) → AreBytes bytes → key_fault 0 bytes ≡ Some fault → IsNear fault
fault_is_near bytes fault each e = subst (λ (o : Option ChunkFault). MayBeNear o) e (key_near bytes each)
