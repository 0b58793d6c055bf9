use Rattle.std.proofs.Common.{arith, length, ap}
use Rattle.chk_chunk.proofs.KeyLemmas.{word_fits}
use Rattle.chk_record_reader.proofs.places.size_of.Goals as goal

pub overflow_add-texts : goal.overflow_add-texts
overflow_add-texts c =
    let a = word_fits c.args.end.now.source c.as_str.ensures.word in
    let b = word_fits c.args.end.now.kind c.as_str-2.ensures.word in
    let d = ap length c.as_str.ensures.text in
    let e = ap length c.as_str-2.ensures.text in
    omega (arith, c.counted.ensures, c.counted-2.ensures)

pub overflow_add-texts-2 : goal.overflow_add-texts-2
overflow_add-texts-2 c =
    let a = word_fits c.args.end.now.source c.as_str.ensures.word in
    let b = word_fits c.args.end.now.kind c.as_str-2.ensures.word in
    let n = word_fits c.args.end.now.name c.as_str-3.ensures.word in
    let d = ap length c.as_str.ensures.text in
    let e = ap length c.as_str-2.ensures.text in
    let f = ap length c.as_str-3.ensures.text in
    omega (arith, c.counted.ensures, c.counted-2.ensures, c.counted-3.ensures)

pub overflow_add-result : goal.overflow_add-result
overflow_add-result c =
    let a = word_fits c.args.end.now.source c.as_str.ensures.word in
    let b = word_fits c.args.end.now.kind c.as_str-2.ensures.word in
    let n = word_fits c.args.end.now.name c.as_str-3.ensures.word in
    let d = ap length c.as_str.ensures.text in
    let e = ap length c.as_str-2.ensures.text in
    let f = ap length c.as_str-3.ensures.text in
    omega (arith, c.counted.ensures, c.counted-2.ensures, c.counted-3.ensures)

pub overflow_add-result-else-starts : goal.overflow_add-result-else-starts
overflow_add-result-else-starts c =
    let a = word_fits c.args.end.now.source c.as_str.ensures.word in
    let b = word_fits c.args.end.now.kind c.as_str-2.ensures.word in
    let n = word_fits c.args.end.now.name c.as_str-3.ensures.word in
    let d = ap length c.as_str.ensures.text in
    let e = ap length c.as_str-2.ensures.text in
    let f = ap length c.as_str-3.ensures.text in
    omega (arith, c.counted.ensures, c.counted-2.ensures, c.counted-3.ensures)
