use Rattle.chk_chunk.proofs.KeyLaws.{written_key_is_key}
use Rattle.chk_chunk.proofs.PostWriting.{written_post_is_post}
use Rattle.chk_chunk.proofs.laws.written_is_in_grammar.Goals as goal

pub returns-clause-key : goal.returns-clause-key
returns-clause-key c = written_key_is_key

pub returns-clause-post : goal.returns-clause-post
returns-clause-post c = written_post_is_post
