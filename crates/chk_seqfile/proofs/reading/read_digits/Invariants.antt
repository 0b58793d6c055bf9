use Rattle.std.proofs.Common.{◌≡◌, ◌<◌, ◌^◌}
use Rattle.chk_seqfile.proofs.SpelledLemmas.{padded}
use Rattle.chk_seqfile.proofs.reading.read_digits.Given as goal

abbrev pub invariant-loop-i : goal.invariant-loop-i
invariant-loop-i l = record { small : l.value < 2 ^ 31; is : l.value ≡ padded l.i l.bytes }
