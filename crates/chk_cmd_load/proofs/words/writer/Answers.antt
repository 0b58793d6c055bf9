use Rattle.chk_cmd_load.proofs.Literals.{chukwa_is_word}
use Rattle.chk_cmd_load.proofs.words.writer.Goals as goal

pub from_text-requires : goal.from_text-requires
from_text-requires c = record { word = chukwa_is_word }
