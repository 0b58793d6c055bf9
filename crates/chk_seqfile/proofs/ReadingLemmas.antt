-- How the functions that read fields agree with the definitions.
use Rattle.std.proofs.Common.{Err, sym, ap₂, length, take, ◌+◌, ◌^◌, ◌≡◌, ℕ, ◌-◌, ◌<◌, ◌≤◌, List, [], ◌∷◌, ◌++◌, drop, replicate, slice_index, arith, ap, ◌∙◌}
use Rattle.std.proofs.lemmas.List.{take_all, take_rest, drop-append-le, drop-replicate}
use Rattle.std.proofs.lemmas.Bool.{cond-true, cond-false, and_from, le-leb, lt-ltb, le-ltb}
use Rattle.chk_seqfile.specs.declared.headers.HeaderFault.TheVariants.{OtherClass, BadMeta}
use Rattle.chk_seqfile.specs.Headers.{◌>>=◌, class_text, expect, spelled_34, read_class, read_digits}
use Rattle.chk_seqfile.proofs.SpelledLemmas.{padded, padded_le}
use Rattle.chk_seqfile.proofs.FieldLemmas.{expect-parts, expect-same}

-- a class is a spelling of its length, and then its name
pub read_class_parts : (bytes : List ℕ)
    → read_class bytes
    ≡ (expect (spelled_34 (slice_index bytes 0)) OtherClass bytes >>= expect class_text OtherClass)
unfolding read_class
read_class_parts bytes = expect-parts (spelled_34 (slice_index bytes 0)) class_text OtherClass bytes

-- a longer spelling of 34 is its first byte and the last of these digits
longer_34 : (b : ℕ) (rest : List ℕ) → 136 ≤ b → b < 144
    → expect (drop (b - 136) (0 ∷ 0 ∷ 0 ∷ 0 ∷ 0 ∷ 0 ∷ 0 ∷ 34 ∷ [])) OtherClass rest ≡ expect (spelled_34 b) OtherClass (b ∷ rest)
longer_34 b rest low high =
    let j : ℕ = b - 136 in
    let as_many : 7 - j ≡ 143 - b = omega arith in
    let digits : drop j (replicate 7 0 ++ 34 ∷ []) ≡ replicate (143 - b) 0 ++ 34 ∷ [] =
    drop-append-le j (replicate 7 0) (34 ∷ []) (omega arith)
    ∙ ap (λ x. x ++ 34 ∷ []) (drop-replicate j 7 0 ∙ ap (λ n. replicate n 0) as_many) in
    let spelled : spelled_34 b ≡ b ∷ (replicate (143 - b) 0 ++ 34 ∷ []) =
    cond-true _ _ _ (and_from _ _ (le-leb 136 b low) (lt-ltb b 144 high)) in
    ap (λ x. expect x OtherClass rest) digits
    ∙ sym (expect-same b (replicate (143 - b) 0 ++ 34 ∷ []) OtherClass rest)
    ∙ ap (λ x. expect x OtherClass (b ∷ rest)) (sym spelled)

-- the same of the first byte of some bytes
pub read_34_longer : (bytes : List ℕ) (b : ℕ) → 1 ≤ length bytes → b ≡ slice_index bytes 0
    → 136 ≤ slice_index bytes 0 → slice_index bytes 0 < 144
    → expect (take (8 - (b - 136)) (drop (b - 136) (0 ∷ 0 ∷ 0 ∷ 0 ∷ 0 ∷ 0 ∷ 0 ∷ 34 ∷ []))) OtherClass (take (length bytes - 1) (drop 1 bytes))
    ≡ expect (spelled_34 (slice_index bytes 0)) OtherClass bytes
read_34_longer [] b some first low high = absurd (omega arith)
read_34_longer (x ∷ rest) b some first low high =
    let digits : List ℕ = 0 ∷ 0 ∷ 0 ∷ 0 ∷ 0 ∷ 0 ∷ 0 ∷ 34 ∷ [] in
    let rest_is : take (length (x ∷ rest) - 1) rest ≡ rest =
    take_all (length (x ∷ rest) - 1) rest (omega arith) in
    ap₂ (λ w r. expect w OtherClass r) (take_rest digits (b - 136)) rest_is
    ∙ ap (λ n. expect (drop (n - 136) digits) OtherClass rest) first
    ∙ longer_34 x rest low high

-- what is too large already is too large with more bytes
pub read_digits_large : (place count m : ℕ) (bytes : List ℕ) → m ≤ count → 2 ^ 31 ≤ padded m bytes
    → read_digits place count bytes ≡ Err (BadMeta place)
read_digits_large place count m bytes fewer large =
    let more = padded_le bytes m (count - m) in
    let same : m + (count - m) ≡ count = omega arith in
    let all : padded (m + (count - m)) bytes ≡ padded count bytes = ap (λ n. padded n bytes) same in
    cond-false _ _ _ (le-ltb (padded count bytes) (2 ^ 31) (omega arith))
