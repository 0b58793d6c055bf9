use Rattle.chukwa_run.proofs.CollectorNames.{collector_is_word}
use Rattle.chukwa_run.proofs.collecting.collector.Goals as goal

pub from_text-requires : goal.from_text-requires
from_text-requires c = record { word = collector_is_word c.args.name.now c.requires.name }
