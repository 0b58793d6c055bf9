use Rattle.chk_demux_split.proofs.RecordLemmas.{split_pieces, split_goes_on, split_grows}
use Rattle.chk_demux_split.proofs.laws.split_goes_on.Goals as goal

pub returns : goal.returns
returns c = record { pieces = split_pieces; behind = split_goes_on; grows = split_grows }
