use Rattle.std.proofs.Common.{rules}
use Rattle.chk_chunk.specs.Keys.{written_key}
use Rattle.chk_chunk.proofs.keys.write_key.Goals as goal

pub returns-else-is_err-clause-ok : goal.returns-else-is_err-clause-ok
unfolding written_key
returns-else-is_err-clause-ok c = search rules
