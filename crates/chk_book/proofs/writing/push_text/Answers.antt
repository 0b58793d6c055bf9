use Rattle.std.proofs.Common.{ap, length, arith}
use Rattle.chk_chunk.proofs.KeyLemmas.{word_fits}
use Rattle.chk_book.proofs.writing.push_text.Goals as goal

pub overflow_cast-text : goal.overflow_cast-text
overflow_cast-text c =
    let few = word_fits c.args.text.now c.as_str-text.ensures.word in
    let same = ap length c.as_str-text.ensures.text in
    omega arith
