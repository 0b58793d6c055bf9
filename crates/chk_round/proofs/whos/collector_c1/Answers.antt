use Rattle.chk_round.proofs.Literals.{c1_is_word}
use Rattle.chk_round.proofs.whos.collector_c1.Goals as goal

pub from_text-requires : goal.from_text-requires
from_text-requires c = record { word = c1_is_word }
