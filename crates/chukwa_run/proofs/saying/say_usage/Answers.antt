use Rattle.chukwa_run.specs.Saying.{unsaid}
use Rattle.chukwa_run.proofs.saying.say_usage.Goals as goal

pub returns-in_default : goal.returns-in_default
returns-in_default g c = record { says = unsaid }
