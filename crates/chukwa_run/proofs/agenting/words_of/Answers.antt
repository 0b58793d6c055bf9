use Rattle.chukwa_run.proofs.AgentNames.{word_at}
use Rattle.chukwa_run.proofs.agenting.words_of.Goals as goal

pub from_text-requires : goal.from_text-requires
from_text-requires c =
    record { word = word_at c.args.texts.now c.loop-text.text-index _ c.loop-text-test.true c.requires.words }
