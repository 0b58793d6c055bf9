use Rattle.chk_record_reader.proofs.Records.{chunks_of_heads}
use Rattle.chk_record_reader.proofs.laws.heads_stand_for_chunks.Goals as goal

pub returns : goal.returns
returns c = chunks_of_heads
