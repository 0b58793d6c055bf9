use Rattle.chukwa_run.specs.Saying.{unsaid}
use Rattle.chukwa_run.proofs.saying.say_ending.Goals as goal

pub returns-in_default-clause-says : goal.returns-in_default-clause-says
returns-in_default-clause-says g c = unsaid
