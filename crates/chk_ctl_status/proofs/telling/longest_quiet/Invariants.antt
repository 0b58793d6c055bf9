use Rattle.std.proofs.Common.{◌≡◌, drop}
use Rattle.chk_ctl_status.specs.Stores.{longest}
use Rattle.chk_ctl_status.proofs.telling.longest_quiet.Given as goal

abbrev pub invariant-loop-sink : goal.invariant-loop-sink
invariant-loop-sink l = longest l.longest (drop l.sink-index l.sinks) ≡ longest 0 l.sinks
