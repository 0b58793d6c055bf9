use Rattle.chk_site_rotations.proofs.Waiting.{waits}
use Rattle.chk_site_rotations.proofs.laws.law_waits.Goals as goal

pub returns : goal.returns
returns c = record { waits = waits }
