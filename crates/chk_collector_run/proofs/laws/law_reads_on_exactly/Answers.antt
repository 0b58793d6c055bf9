use Rattle.chk_collector_run.proofs.Reading.{reads_on_exactly}
use Rattle.chk_collector_run.proofs.laws.law_reads_on_exactly.Goals as goal

pub returns : goal.returns
returns c = record { exactly = reads_on_exactly }
