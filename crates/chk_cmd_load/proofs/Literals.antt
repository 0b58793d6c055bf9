-- The words that a load has by itself.
use Rattle.std.proofs.Common.{ℕ, zero, suc, ◌<◌, refl, arith}
use Rattle.std.specs.Prelude.{IsTrue, codes}
use lib.Utf8.{encode}
use Rattle.std.specs.Str.{is_utf8, chars}
use Rattle.std.specs.Fmt.{digits}
use Rattle.chk_bytes.specs.Words.{is_word}
use Rattle.chk_cmd_line.specs.Loads.{load_log}

pub chukwa_is_word : IsTrue (is_word (codes "chukwa"))
unfolding is_word is_utf8 chars encode
chukwa_is_word = refl

pub source_is_word : IsTrue (is_word (codes "load"))
unfolding is_word is_utf8 chars encode
source_is_word = refl

pub kind_is_word : IsTrue (is_word (codes "Load"))
unfolding is_word is_utf8 chars encode
kind_is_word = refl

pub path_is_word : (log : ℕ) → log < 3 → IsTrue (is_word (load_log log))
unfolding is_word is_utf8 chars encode digits
path_is_word zero low = refl
path_is_word (suc zero) low = refl
path_is_word (suc (suc zero)) low = refl
path_is_word (suc (suc (suc log))) low = absurd (let z : ⊥ = omega (arith, low) in z)
