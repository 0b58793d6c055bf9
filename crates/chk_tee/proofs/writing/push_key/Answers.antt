use Rattle.std.proofs.Common.{arith, ap, length, ℕ, length-append}
use Rattle.chk_chunk.specs.Lent.{lent_chunk}
use Rattle.chk_tee.proofs.MessageWriting.{key_fits}
use Rattle.chk_tee.proofs.writing.push_key.Goals as goal

pub overflow_cast-len : goal.overflow_cast-len
overflow_cast-len c =
    let k = key_fits (lent_chunk c.args.chunk.now).key c.requires in
    let w = ap length c.in_ok-write_key.ensures.ok in
    let t = ap length c.truncate.ensures in
    omega (arith, k, w, t, length-append {A = ℕ}, c.len.ensures)
