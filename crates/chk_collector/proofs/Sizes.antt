-- How long lines are.
use Rattle.std.proofs.Common.{◌≡◌, ℕ, ◌+◌, ◌≤◌, ◌<◌, ◌^◌, nat_lt, nat_le, List, [], ◌∷◌, ◌++◌, length, length-append, decimal, arith, ap}
use Rattle.std.specs.Prelude.{IsTrue}
use Rattle.std.specs.List.{list_all}
use Rattle.std.specs.Str.{is_utf8}
use Rattle.std.proofs.lemmas.Bool.{and_parts, leb-true}
use Rattle.std.proofs.lemmas.Fmt.{length-decimal-le}
use Rattle.chk_bytes.specs.Stems.{Stem, is_stem, stem_text}
use Rattle.chk_bytes.specs.Words.{is_word, is_word_byte}
use Rattle.chk_bytes.proofs.StemLemmas.{length-stem_text}
use Rattle.chk_site.specs.declared.acts.Call.{Call}
use Rattle.chk_site.specs.declared.acts.Call.TheVariants.{Start}
use Rattle.chk_site.specs.CallNames.{call_name}
use Rattle.chk_http_grammar.specs.Messages.{ack_of, ack_text}

pub decimal_short : (n : ℕ) → n < 2 ^ 64 → length (decimal n) ≤ 20
decimal_short n small = length-decimal-le 20 n (omega arith) (omega arith) (omega arith)

pub word_short : (w : List ℕ) → IsTrue (is_word w) → length w ≤ 4096
unfolding is_word
word_short w is =
    let one = and_parts _ (is_utf8 w) is in
    let two = and_parts _ (list_all is_word_byte w) one.0 in
    leb-true (length w) 4096 (and_parts (nat_lt 0 (length w)) (nat_le (length w) 4096) two.0).1

pub ack_short : (x : Stem) (n : ℕ) → IsTrue (is_stem x) → n < 2 ^ 64 → length (ack_text (ack_of x n)) ≤ 126
ack_short x n good small =
    let stem = (length-stem_text x good).1 in
    let number = decimal_short n small in
    omega (arith, stem, number, length-append (stem_text x) (32 ∷ (decimal n ++ 10 ∷ [])), length-append (decimal n) (10 ∷ []))

-- what was appended to a short text
pub pushed : (n m : ℕ) (a b more : List ℕ) → b ≡ a ++ more → length a ≤ n → length more ≤ m → length b ≤ n + m
pushed n m a b more e short few = omega (arith, ap length e, length-append a more)

pub call_short : (call : Call) → length (call_name call) ≤ 16
call_short Start = omega arith
call_short call = omega arith

-- a short text with one more byte
pub with_newline : (line before whole : List ℕ) → whole ≡ line ++ 10 ∷ [] → line ≡ before → length before ≤ 4130 → length whole ≤ 4194304
with_newline line before whole e same short = omega (arith, ap length e, length-append line (10 ∷ []), ap length same)
