use Rattle.std.proofs.Common.{◌≡◌, length}
use Rattle.chk_cmd_subscribe.proofs.Printing.{PrintsOn}
use Rattle.chk_cmd_subscribe.proofs.message.print_chunks.Given as goal

-- what is printed of the rest is printed of all
abbrev pub invariant-loop-teed : goal.invariant-loop-teed
invariant-loop-teed g l = record {
  goes_on : PrintsOn l.who l.fn.tee l.fn.watch (g.S.Site.told l.fn.site) l.tee l.watch (g.S.Site.told l.site);
  count : g.S.Site.fault_count l.site ≡ g.S.Site.fault_count l.fn.site;
}

abbrev pub decreases-loop-teed : goal.decreases-loop-teed
decreases-loop-teed g l = length l.tee
