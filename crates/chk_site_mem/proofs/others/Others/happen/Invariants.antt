use Rattle.std.proofs.Common.{◌≡◌, length}
use Rattle.chk_site_mem_store.specs.Told.{told_of}
use Rattle.chk_site_mem_store.specs.Going.{TheirsSince}
use Rattle.chk_site_mem.specs.Memory.{happened, later}
use Rattle.chk_site_mem.proofs.others.Others.happen.Given as goal

-- what was due has acted so far, and the rest would lead to the same end
abbrev pub invariant-loop-other : goal.invariant-loop-other
invariant-loop-other l = record {
  theirs : TheirsSince (told_of l.fn.keeper.kept) (told_of l.keeper.kept);
  acted : happened l.call l.self l.keeper ≡ happened l.call l.fn.self l.fn.keeper;
  left : later l.call l.self ≡ later l.call l.fn.self;
  repeats : l.keeper.repeats ≡ l.fn.keeper.repeats;
}

-- each turn uses up an act
abbrev pub decreases-loop-other : goal.decreases-loop-other
decreases-loop-other l = length l.self
