use Rattle.std.proofs.Common.{arith}
use Rattle.chk_chunk.proofs.KeyLemmas.{word_fits, stream_facts}
use Rattle.chk_chunk.proofs.keys.push_stream.Goals as goal

pub push_text-requires : goal.push_text-requires
push_text-requires c = omega (arith, word_fits _ (stream_facts _ c.requires).source)

pub push_text-requires-2 : goal.push_text-requires-2
push_text-requires-2 c = omega (arith, word_fits _ (stream_facts _ c.requires).kind)

pub push_text-requires-3 : goal.push_text-requires-3
push_text-requires-3 c = omega (arith, word_fits _ (stream_facts _ c.requires).name)
