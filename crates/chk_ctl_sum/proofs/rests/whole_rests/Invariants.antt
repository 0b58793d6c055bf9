use Rattle.std.proofs.Common.{◌≡◌, map, take}
use Rattle.chk_book.specs.declared.lists.End.{End}
use Rattle.chk_ctl_sum.specs.declared.rests.Rest.{Rest}
use Rattle.chk_ctl_sum.proofs.rests.whole_rests.Given as goal

abbrev pub invariant-loop-end : goal.invariant-loop-end
invariant-loop-end l = record {
  ends : map (λ (r : Rest). r.end.now) l.rests.items ≡ take l.end-index l.ends;
  begin : map (λ (r : Rest). r.begin) l.rests.items
      ≡ map (λ (e : End). e.start) (take l.end-index l.ends);
}
