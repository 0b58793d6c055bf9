use Rattle.chk_world.proofs.Segments.{named_sound}
use Rattle.chk_world.proofs.named_segments_are_sound.Goals as goal

pub returns : goal.returns
returns c = named_sound
