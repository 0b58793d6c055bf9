use Rattle.chk_round.proofs.Literals.{self_is_word}
use Rattle.chk_round.proofs.starting.ring_inside.Goals as goal

pub from_text-requires : goal.from_text-requires
from_text-requires c = record { word = self_is_word }
