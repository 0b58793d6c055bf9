use Rattle.std.proofs.Common.{arith}
use Rattle.chk_acks.proofs.rows.Rows.len.Goals as goal

pub overflow_cast-result : goal.overflow_cast-result
overflow_cast-result c =
    omega (arith, c.len.ensures, c.self.inside.kept.ok, c.self.invariant.few, c.self.invariant.small)
