use Rattle.std.proofs.Common.{◌≡◌, drop}
use Rattle.chk_site.specs.Acts.{tail_of}
use Rattle.chk_site_mem_store.proofs.stops.tail_of.Given as goal

abbrev pub invariant-loop-entry : goal.invariant-loop-entry
invariant-loop-entry l = tail_of (drop l.entry-index l.left) l.name ≡ tail_of l.left l.name
