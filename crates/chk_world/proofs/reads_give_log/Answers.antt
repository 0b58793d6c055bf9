use Rattle.chk_world.proofs.LinesRead.{reads_give_log}
use Rattle.chk_world.proofs.reads_give_log.Goals as goal

pub returns : goal.returns
returns c = reads_give_log
