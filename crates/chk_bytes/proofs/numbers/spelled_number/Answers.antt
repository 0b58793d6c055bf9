use Rattle.std.proofs.Common.{◌+◌, ◌*◌, ◌<◌, ◌^◌, arith, rules}
use Rattle.chk_bytes.proofs.NumberLemmas.{grown, fits_eight}
use Rattle.chk_bytes.proofs.numbers.spelled_number.Goals as goal

pub overflow_mul-n : goal.overflow_mul-n
overflow_mul-n c =
    let l = c.loop-byte in
    let more : l.n * 256 + 0 < 256 ^ (l.byte-index + 1) =
    grown l.n 0 l.byte-index l.invariant.bound (omega arith) in
    let fits = fits_eight (l.n * 256 + 0) (l.byte-index + 1) more (omega arith) in
    search rules
