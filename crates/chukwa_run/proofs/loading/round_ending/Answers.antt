use Rattle.chukwa_run.proofs.CheckName.{check_is_word}
use Rattle.chukwa_run.proofs.loading.round_ending.Goals as goal

pub from_text-requires : goal.from_text-requires
from_text-requires c = record { word = check_is_word }
