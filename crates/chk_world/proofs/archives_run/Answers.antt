use Rattle.chk_world.proofs.BooksTrue.{archives_run}
use Rattle.chk_world.proofs.archives_run.Goals as goal

pub returns : goal.returns
returns c = archives_run
