use Rattle.chukwa_run.proofs.DatagramRun.{writer_is_word}
use Rattle.chukwa_run.proofs.datagrams.writer_named.Goals as goal

pub from_text-requires : goal.from_text-requires
from_text-requires c = record { word = writer_is_word c.args.name.now c.requires.name }
