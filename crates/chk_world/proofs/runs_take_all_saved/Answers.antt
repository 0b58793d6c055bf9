use Rattle.chk_world.proofs.CompleteRuns.{runs_take}
use Rattle.chk_world.proofs.runs_take_all_saved.Goals as goal

pub returns : goal.returns
returns c = runs_take
