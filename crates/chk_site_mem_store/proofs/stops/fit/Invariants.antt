use Rattle.std.proofs.Common.{◌≡◌, map, take}
use Rattle.chk_site.specs.Acts.{deed}
use Rattle.chk_site_mem_store.specs.Stored.{file_in}
use Rattle.chk_site_mem_store.specs.Told.{fitted_left}
use Rattle.chk_site_mem_store.proofs.stops.fit.Given as goal

abbrev pub invariant-loop-entry : goal.invariant-loop-entry
invariant-loop-entry l = l.fitted ≡ map (fitted_left (deed l.act) (file_in l.files)) (take l.entry-index l.left)
