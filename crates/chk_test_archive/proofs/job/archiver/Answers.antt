use Rattle.std.proofs.Common.{refl, arith}
use Rattle.std.specs.Prelude.{codes}
use Rattle.chk_bytes.proofs.WordLemmas.{plain_word}
use Rattle.chk_test_archive.proofs.job.archiver.Goals as goal

pub from_text-requires : goal.from_text-requires
from_text-requires c = record { word = plain_word (codes "job") refl (omega arith) (omega arith) }
