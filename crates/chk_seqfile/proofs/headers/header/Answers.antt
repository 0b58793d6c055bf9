use Rattle.std.proofs.Common.{rules}
use Rattle.chk_seqfile.specs.Headers.{class_text, written_front}
use Rattle.chk_seqfile.proofs.headers.header.Goals as goal

pub returns : goal.returns
unfolding written_front class_text
returns c = search rules
