use Rattle.std.proofs.Common.{arith, ap, length, ℕ, length-append}
use Rattle.chk_bytes.proofs.StemLemmas.{length-stem_text}
use Rattle.chk_tee.proofs.writing.push_stem.Goals as goal

pub overflow_cast-len : goal.overflow_cast-len
overflow_cast-len c =
    let s = length-stem_text c.args.stem.now c.requires in
    let w = ap length c.in_ok-write.ensures.ok in
    let t = ap length c.truncate.ensures in
    omega (arith, s.1, w, t, length-append {A = ℕ}, c.len.ensures)
