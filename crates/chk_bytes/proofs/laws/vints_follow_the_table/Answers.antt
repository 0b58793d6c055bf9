use Rattle.chk_bytes.proofs.VintLaws.{vint_at-Ok, vint_at-spelled}
use Rattle.chk_bytes.proofs.laws.vints_follow_the_table.Goals as goal

pub returns : goal.returns
returns c = λ bytes at n next. (vint_at-Ok bytes at n next, vint_at-spelled bytes at n next)
