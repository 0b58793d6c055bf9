use Rattle.chukwa_run.proofs.AgentNames.{source_word}
use Rattle.chukwa_run.proofs.rounding.owned.Goals as goal

pub from_text-requires : goal.from_text-requires
from_text-requires c = record { word = source_word c.args.given.now.source.now c.requires.good.0 }
