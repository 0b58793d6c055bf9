use Rattle.chk_world.proofs.Commits.{ends_past}
use Rattle.chk_world.proofs.commits_after_append.Goals as goal

pub returns : goal.returns
returns c = ends_past
