use Rattle.chk_world.proofs.NamedEnds.{named_ends_are_committed}
use Rattle.chk_world.proofs.named_ends_are_committed.Goals as goal

pub returns : goal.returns
returns c = named_ends_are_committed
