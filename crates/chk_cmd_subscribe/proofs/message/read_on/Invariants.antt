use Rattle.std.proofs.Common.{◌≡◌, ◌-◌, length}
use Rattle.chk_cmd_subscribe.proofs.Reading.{ReadsOn}
use Rattle.chk_cmd_subscribe.proofs.message.read_on.Given as goal

abbrev pub invariant-loop-alloc : goal.invariant-loop-alloc
invariant-loop-alloc g l = record {
  goes_on : ReadsOn l.fn.who l.fn.number l.fn.begun (g.S.Site.told l.fn.site) l.bytes (g.S.Site.told l.site);
  count : g.S.Site.fault_count l.site ≡ g.S.Site.fault_count l.fn.site;
}

abbrev pub decreases-loop-alloc : goal.decreases-loop-alloc
decreases-loop-alloc g l = 4308310 - length l.bytes
