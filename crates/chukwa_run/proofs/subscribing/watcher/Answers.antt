use Rattle.std.proofs.Common.{refl, arith}
use Rattle.std.specs.Prelude.{codes}
use Rattle.chk_bytes.proofs.WordLemmas.{plain_word}
use Rattle.chukwa_run.proofs.subscribing.watcher.Goals as goal

pub from_text-requires : goal.from_text-requires
from_text-requires c = record { word = plain_word (codes "tee") refl (omega arith) (omega arith) }
