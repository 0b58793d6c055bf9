use Rattle.chk_chunk.proofs.KeyLaws.{one_key}
use Rattle.chk_chunk.proofs.PostGrammar.{one_post}
use Rattle.chk_chunk.proofs.laws.one_reading.Goals as goal

pub returns-clause-key : goal.returns-clause-key
returns-clause-key c = one_key

pub returns-clause-post : goal.returns-clause-post
returns-clause-post c = one_post
