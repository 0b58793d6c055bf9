use Rattle.chk_chunk.proofs.KeyLaws.{read_is_key, key_is_read}
use Rattle.chk_chunk.proofs.laws.key_is_read.Goals as goal

pub returns : goal.returns
returns c k bytes = (read_is_key k bytes, key_is_read k bytes)
