-- The name of a collector's number of starts is a word.
use Rattle.std.proofs.Common.{◌≤◌, ℕ, List, length, ◌++◌, arith, refl, length-append}
use Rattle.std.specs.Prelude.{IsTrue, codes}
use Rattle.std.proofs.lemmas.Bool.{and_from}
use Rattle.chk_bytes.specs.Words.{is_word}
use Rattle.chk_bytes.specs.Stems.{Stem, is_stem, is_collector}
use Rattle.chk_bytes.proofs.StemLemmas.{stem_facts, collector_word}
use Rattle.chk_bytes.proofs.WordLemmas.{plain_word, plain_behind_word, is_word-append}
use Rattle.chk_world.specs.Names.{BornFile, spell}

pub born_word : (c : List ℕ) → IsTrue (is_collector c) → IsTrue (is_word (spell (BornFile c)))
unfolding spell
born_word c named =
    let x : Stem = record { collector = c; born = 1; number = 1 } in
    let good : IsTrue (is_stem x) = and_from _ _ named refl in
    let most : length c ≤ 64 = (stem_facts x good).at_most in
    is_word-append (codes "sinks/") (c ++ codes ".born") (plain_word (codes "sinks/") refl (omega arith) (omega arith))
    (plain_behind_word c (codes ".born") (collector_word x good) refl (omega (arith, most)))
    (omega (arith, most, length-append c (codes ".born")))
