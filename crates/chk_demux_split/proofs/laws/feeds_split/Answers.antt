use Rattle.chk_demux_split.proofs.FeedLemmas.{feeds_split}
use Rattle.chk_demux_split.proofs.laws.feeds_split.Goals as goal

pub returns : goal.returns
returns c = feeds_split
