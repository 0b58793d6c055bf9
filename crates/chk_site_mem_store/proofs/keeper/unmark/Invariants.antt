use Rattle.std.proofs.Common.{◌≡◌, ◌++◌, false, map, take, drop}
use Rattle.chk_site_mem_store.proofs.keeper.unmark.Given as goal

abbrev pub invariant-loop-own : goal.invariant-loop-own
invariant-loop-own l = l.mine ≡ map (λ _. false) (take l.own-index l.initial.mine) ++ drop l.own-index l.initial.mine
