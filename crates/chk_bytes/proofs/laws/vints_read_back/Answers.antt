use Rattle.chk_bytes.proofs.VintLaws.{vint_reads_back}
use Rattle.chk_bytes.proofs.laws.vints_read_back.Goals as goal

pub returns : goal.returns
returns c = vint_reads_back
