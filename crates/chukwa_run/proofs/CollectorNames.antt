-- The name of a collector is a word.
use Rattle.std.proofs.Common.{List, ℕ, refl}
use Rattle.std.specs.Prelude.{IsTrue}
use Rattle.std.proofs.lemmas.Bool.{and_from}
use Rattle.chk_bytes.specs.Words.{is_word}
use Rattle.chk_bytes.specs.Stems.{Stem, is_collector}
use Rattle.chk_bytes.proofs.StemLemmas.{collector_word}

pub collector_is_word : (name : List ℕ) → IsTrue (is_collector name) → IsTrue (is_word name)
collector_is_word name named =
    let x : Stem = record { collector = name; born = 1; number = 1 } in
    collector_word x (and_from _ _ named refl)
