use Rattle.chk_round.proofs.Literals.{job_is_word}
use Rattle.chk_round.proofs.whos.job.Goals as goal

pub from_text-requires : goal.from_text-requires
from_text-requires c = record { word = job_is_word }
