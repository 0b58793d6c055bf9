use Rattle.chk_world.proofs.PlacesStay.{collectors_stay, agents_stay, job_stays}
use Rattle.chk_world.proofs.others_leave_places.Goals as goal

pub returns : goal.returns
returns c = record { collectors = collectors_stay; agents = agents_stay; job = job_stays }
