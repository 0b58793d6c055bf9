use Rattle.chk_archive_parts.proofs.CutParts.{cuts_are_parts}
use Rattle.chk_archive_parts.proofs.laws.cuts_are_parts.Goals as goal

pub returns : goal.returns
returns c = cuts_are_parts
