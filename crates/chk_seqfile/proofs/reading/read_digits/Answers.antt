use Rattle.std.proofs.Common.{◌≡◌, ◌+◌, get_or, arith, sym, rules}
use Rattle.chk_seqfile.proofs.SpelledLemmas.{padded_more}
use Rattle.chk_seqfile.proofs.ReadingLemmas.{read_digits_large}
use Rattle.chk_seqfile.proofs.reading.read_digits.Goals as goal

pub returns-then-value-clause-exact : goal.returns-then-value-clause-exact
returns-then-value-clause-exact c =
    let next = padded_more c.loop-i.i c.args.bytes.now in
    let digit : c.from.result ≡ get_or c.args.bytes.now c.loop-i.i 0 = search rules in
    sym (read_digits_large c.args.place c.args.count (c.loop-i.i + 1) c.args.bytes.now (omega arith) (omega arith))

pub loop-i-preserved : goal.loop-i-preserved
loop-i-preserved c =
    let next = padded_more c.loop-i.i c.args.bytes.now in
    let digit : c.from.result ≡ get_or c.args.bytes.now c.loop-i.i 0 = search rules in
    record { small = omega arith; is = omega arith }
