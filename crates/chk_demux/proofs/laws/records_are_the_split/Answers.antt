use Rattle.chk_demux.proofs.Prefixes as Prefixes
use Rattle.chk_demux.proofs.laws.records_are_the_split.Goals as goal

pub returns : goal.returns
returns c stamped history legal s = Prefixes.records_are_the_split stamped history legal s
