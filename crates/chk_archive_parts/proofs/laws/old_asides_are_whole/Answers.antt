use Rattle.chk_archive_parts.proofs.OldAsides.{old_asides_are_whole}
use Rattle.chk_archive_parts.proofs.laws.old_asides_are_whole.Goals as goal

pub returns : goal.returns
returns c = old_asides_are_whole
