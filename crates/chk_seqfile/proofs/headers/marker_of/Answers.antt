use Rattle.std.proofs.Common.{rules}
use Rattle.chk_seqfile.specs.Headers.{marker_of}
use Rattle.chk_seqfile.proofs.headers.marker_of.Goals as goal

pub returns : goal.returns
unfolding marker_of
returns c = search rules
