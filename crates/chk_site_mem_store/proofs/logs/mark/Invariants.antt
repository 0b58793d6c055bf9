use Rattle.std.proofs.Common.{◌≡◌, ◌++◌, map, take, drop}
use Rattle.chk_site_mem_store.specs.Stored.{marked_one}
use Rattle.chk_site_mem_store.proofs.logs.mark.Given as goal

abbrev pub invariant-loop-generation : goal.invariant-loop-generation
invariant-loop-generation l =
    l.rotated ≡ map (marked_one l.suffix) (take l.generation-index l.initial.rotated) ++ drop l.generation-index l.initial.rotated
