-- The name of the checkpoint of a load is a word.
use Rattle.std.proofs.Common.{refl}
use Rattle.std.specs.Prelude.{IsTrue, codes}
use lib.Utf8.{encode}
use Rattle.std.specs.Str.{is_utf8, chars}
use Rattle.chk_bytes.specs.Words.{is_word}

pub check_is_word : IsTrue (is_word (codes "agents/load.check"))
unfolding is_word is_utf8 chars encode
check_is_word = refl
