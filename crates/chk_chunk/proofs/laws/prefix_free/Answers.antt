use Rattle.chk_chunk.proofs.KeyLaws.{key_alone}
use Rattle.chk_chunk.proofs.PostGrammar.{post_alone}
use Rattle.chk_chunk.proofs.laws.prefix_free.Goals as goal

pub returns-clause-key : goal.returns-clause-key
returns-clause-key c = key_alone

pub returns-clause-post : goal.returns-clause-post
returns-clause-post c = post_alone
