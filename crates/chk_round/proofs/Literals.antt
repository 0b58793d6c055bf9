-- The words that a round has by itself.
use Rattle.std.proofs.Common.{refl}
use Rattle.std.specs.Prelude.{IsTrue, codes}
use lib.Utf8.{encode}
use Rattle.std.specs.Str.{is_utf8, chars}
use Rattle.chk_bytes.specs.Words.{is_word}

pub c1_is_word : IsTrue (is_word (codes "c1"))
unfolding is_word is_utf8 chars encode
c1_is_word = refl

pub job_is_word : IsTrue (is_word (codes "job"))
unfolding is_word is_utf8 chars encode
job_is_word = refl

pub self_is_word : IsTrue (is_word (codes "self"))
unfolding is_word is_utf8 chars encode
self_is_word = refl
