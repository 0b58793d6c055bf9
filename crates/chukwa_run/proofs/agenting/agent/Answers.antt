use Rattle.chukwa_run.proofs.AgentNames.{source_word}
use Rattle.chukwa_run.proofs.agenting.agent.Goals as goal

pub from_text-requires : goal.from_text-requires
from_text-requires c = record { word = source_word c.args.source.now c.requires.source }
