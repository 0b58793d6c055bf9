use Rattle.std.proofs.Common.{◌≡◌, take}
use Rattle.chk_site_mem_store.proofs.stops.copies.Given as goal

abbrev pub invariant-loop-entry : goal.invariant-loop-entry
invariant-loop-entry l = l.copies.items ≡ take l.entry-index l.files
