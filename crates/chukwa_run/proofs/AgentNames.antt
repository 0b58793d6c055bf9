-- The names of an agent's files are words.
use Rattle.std.proofs.Common.{◌≡◌, ◌∙◌, sym, map, get_or, Bor, ℕ, ◌<◌, ◌≤◌, true, List, [], ◌∷◌, ◌++◌, length, not, refl, arith, length-append}
use Rattle.std.specs.Prelude.{IsTrue, codes, ◌||◌, ◌==◌, nat_lt, nat_le, slice_index}
use Rattle.std.specs.Char.{is_ascii_alphanumeric}
use Rattle.std.specs.List.{list_all}
use Rattle.std.proofs.lemmas.List.Folds.{list_all-map}
use Rattle.std.proofs.lemmas.List.Sums.{AllPass-from_list_all}
use Rattle.std.proofs.lemmas.List.Elements.{All-get_or}
use Rattle.std.proofs.lemmas.Bool.{and_parts, and_from, ltb-true, leb-true}
use Rattle.std.proofs.lemmas.Bool.Decides.{nat_tests}
use Rattle.chk_bytes.specs.Words.{is_word}
use Rattle.chk_bytes.proofs.WordLemmas.{is_plain_byte, plain_word, plain_behind_word, is_word-append}
use Rattle.chk_world.specs.Names.{CheckFile, spell, is_source}

letter_plain : (b : ℕ) → (is_ascii_alphanumeric b || (b == 95 || (b == 45 || b == 46))) ≡ true → is_plain_byte b ≡ true
letter_plain b h = grind (arith, nat_tests)

all_plain : (text : List ℕ) → list_all (λ b. is_ascii_alphanumeric b || (b == 95 || (b == 45 || b == 46))) text ≡ true
    → list_all is_plain_byte text ≡ true
all_plain [] h = refl
all_plain (b ∷ text) h =
    let p = and_parts (is_ascii_alphanumeric b || (b == 95 || (b == 45 || b == 46))) (list_all (λ b. is_ascii_alphanumeric b || (b == 95 || (b == 45 || b == 46))) text) h in
    and_from (is_plain_byte b) (list_all is_plain_byte text) (letter_plain b p.0) (all_plain text p.1)

record SourceFacts (name : List ℕ) : Type 0 where
  some : 0 < length name
  few : length name ≤ 64
  plain : list_all is_plain_byte name ≡ true

source_facts : (name : List ℕ) → is_source name ≡ true → SourceFacts name
source_facts name h =
    let a = and_parts _ (list_all (λ b. is_ascii_alphanumeric b || (b == 95 || (b == 45 || b == 46))) name) h in
    let b = and_parts _ (not (slice_index name 0 == 46)) a.0 in
    let d = and_parts (nat_lt 0 (length name)) (nat_le (length name) 64) b.0 in
    record { some = ltb-true 0 (length name) d.0; few = leb-true (length name) 64 d.1; plain = all_plain name a.1 }

pub source_word : (name : List ℕ) → IsTrue (is_source name) → IsTrue (is_word name)
source_word name h =
    let f = source_facts name h in
    let few = f.few in
    plain_word name f.plain f.some (omega (arith, few))

pub check_word : (name : List ℕ) → IsTrue (is_source name) → IsTrue (is_word (spell (CheckFile name)))
unfolding spell
check_word name h =
    let few = (source_facts name h).few in
    is_word-append (codes "agents/") (name ++ codes ".check") (plain_word (codes "agents/") refl (omega arith) (omega arith))
    (plain_behind_word name (codes ".check") (source_word name h) refl (omega (arith, few)))
    (omega (arith, few, length-append name (codes ".check")))

-- each of these texts is a word, where all are
pub word_at : (texts : List (Bor (List ℕ))) (i : ℕ) (d : Bor (List ℕ)) → i < length texts
    → IsTrue (list_all is_word (map {A = Bor (List ℕ)} {B = List ℕ} (λ t. t.now) texts)) → IsTrue (is_word (get_or texts i d).now)
word_at texts i d within all =
    All-get_or (λ (t : Bor (List ℕ)). is_word t.now ≡ true) texts i d within
    (AllPass-from_list_all (λ (t : Bor (List ℕ)). is_word t.now) texts
    (sym (list_all-map is_word (λ (t : Bor (List ℕ)). t.now) texts) ∙ all))
