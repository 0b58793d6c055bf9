use Rattle.std.proofs.Common.{◌≡◌, ◌++◌, map, take, drop}
use Rattle.chk_site_mem_store.specs.Stored.{tailed}
use Rattle.chk_site_mem_store.proofs.stops.leave_tails.Given as goal

abbrev pub invariant-loop-entry : goal.invariant-loop-entry
invariant-loop-entry l =
    l.files ≡ map (tailed l.left) (take l.entry-index l.initial.files) ++ drop l.entry-index l.initial.files
