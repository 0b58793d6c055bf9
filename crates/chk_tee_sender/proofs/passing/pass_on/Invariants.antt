use Rattle.std.proofs.Common.{◌≤◌, ◌+◌, ◌-◌, length}
use Rattle.chk_tee_sender.specs.Offers.{items_of}
use Rattle.chk_tee_sender.specs.Passing.{IsCaused}
use Rattle.chk_tee_sender.proofs.PassingLemmas.{GoesOn}
use Rattle.chk_tee_sender.proofs.passing.pass_on.Given as goal

-- what is done from here is done of the whole
abbrev pub invariant-loop-at : goal.invariant-loop-at
invariant-loop-at g l = record {
  within : l.at ≤ length l.standing.items;
  fewer : length l.standing.items ≤ length l.fn.standing.items;
  few : l.passed.sent + l.passed.dropped + (length l.standing.items - l.at) ≤ length l.fn.standing.items;
  goes_on : GoesOn l.who (items_of l.offer) l.fn.standing.items (g.S.Site.told l.fn.site) l.standing.items l.at l.passed.sent l.passed.dropped (g.S.Site.told l.site);
  cause : IsCaused l.passed.dropped (g.S.Site.fault_count l.fn.site) (g.S.Site.fault_count l.site);
}

abbrev pub decreases-loop-at : goal.decreases-loop-at
decreases-loop-at g l = length l.standing.items - l.at
