use Rattle.chk_bytes.proofs.VintLaws.{vint_shortest}
use Rattle.chk_bytes.proofs.laws.vints_are_shortest.Goals as goal

pub returns : goal.returns
returns c = vint_shortest
