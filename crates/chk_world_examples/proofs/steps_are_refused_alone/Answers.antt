use Rattle.chk_world_examples.proofs.Refusals.{collectors, agents, jobs, any}
use Rattle.chk_world_examples.proofs.steps_are_refused_alone.Goals as goal

pub returns : goal.returns
returns c = record { collectors = collectors; agents = agents; jobs = jobs; any = any }
