use Rattle.chk_record_index.proofs.NoDamage.{no_damage}
use Rattle.chk_record_index.proofs.laws.chunks_have_no_damage.Goals as goal

pub returns : goal.returns
returns c = λ most bytes at all bad. no_damage most bytes all at bad
