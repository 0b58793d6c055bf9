-- How long the lines are.
use Rattle.std.proofs.Common.{◌≡◌, ℕ, ◌<◌, ◌≤◌, ◌^◌, true, inl, inr, List, [], ◌∷◌, ◌++◌, length, decimal, arith, length-append}
use Rattle.std.specs.Prelude.{nat_lt}
use Rattle.chk_bytes.specs.Words.{is_word}
use Rattle.std.proofs.lemmas.Bool.{and_parts, ltb-true}
use Rattle.std.proofs.lemmas.Fmt.{length-decimal-le}
use Rattle.chk_bytes.proofs.WordLemmas.{word_facts}
use Rattle.chk_chunk.specs.Keys.{Key, IsKey, is_key, is_stream, fits_1, start_limit}
use Rattle.chk_seqfile.specs.Entries.{Placed}
use Rattle.chk_cmd_salvage.specs.Lines.{entry_line, other_line, skipped_line}

number_short : (n : ℕ) → n < 2 ^ 64 → length (decimal n) ≤ 20
number_short n small = length-decimal-le 20 n (omega arith) (omega arith) small

-- what a key's line is made of
record ShortKey (k : Key) : Type 0 where
  source : length k.stream.source ≤ 4096
  kind : length k.stream.kind ≤ 4096
  name : length k.stream.name ≤ 4096
  seq : k.seq < 2 ^ 63

short_key : (k : Key) → is_key k ≡ true → ShortKey k
short_key k h =
    let a = and_parts (is_stream k.stream) _ h in
    let s = and_parts (is_word k.stream.source) _ a.0 in
    let t = and_parts (is_word k.stream.kind) _ s.1 in
    let b = and_parts (is_word k.cluster) _ a.1 in
    let c = and_parts (nat_lt k.start start_limit) _ b.1 in
    let d = and_parts (nat_lt k.start k.seq) _ c.1 in
    record {
      source = (word_facts k.stream.source s.0).at_most;
      kind = (word_facts k.stream.kind t.0).at_most;
      name = (word_facts k.stream.name t.1).at_most;
      seq = ltb-true k.seq (2 ^ 63) d.1;
    }

key_of_bytes : (k : Key) (bytes : List ℕ) → IsKey k bytes → is_key k ≡ true
key_of_bytes k bytes (inl first) = (and_parts (is_key k) (fits_1 k) first.0).0
key_of_bytes k bytes (inr second) = second.0

-- words of at most 4,096 bytes and numbers of at most 20 digits
pub entry_short : (r : Placed) (k : Key) (bytes : List ℕ) → IsKey k bytes → r.at < 2 ^ 64 → r.end < 2 ^ 64
    → length (entry_line r k) ≤ 12360
entry_short r k bytes is at_small end_small =
    let p = short_key k (key_of_bytes k bytes is) in
    let a = number_short r.at at_small in
    let e = number_short r.end end_small in
    let q = number_short k.seq (omega (arith, p.seq)) in
    simp (length-append) (omega (arith, a, e, q, p.source, p.kind, p.name))

range_short : (begin end : ℕ) → begin < 2 ^ 64 → end < 2 ^ 64
    → length (decimal begin ++ (32 ∷ (decimal end ++ 10 ∷ []))) ≤ 42
range_short begin end begin_small end_small =
    let a = number_short begin begin_small in
    let e = number_short end end_small in
    simp (length-append) (omega (arith, a, e))

pub other_short : (r : Placed) → r.at < 2 ^ 64 → r.end < 2 ^ 64 → length (other_line r) ≤ 12360
other_short r at_small end_small = omega (arith, range_short r.at r.end at_small end_small)

pub skipped_short : (begin end : ℕ) → begin < 2 ^ 64 → end < 2 ^ 64 → length (skipped_line begin end) ≤ 12360
skipped_short begin end begin_small end_small = omega (arith, range_short begin end begin_small end_small)
