use Rattle.std.proofs.Common.{◌≡◌, ◌++◌, drop}
use Rattle.std.specs.Prelude.{flat_map}
use Rattle.chk_ctl_metrics.specs.Metrics.{escaped}
use Rattle.chk_ctl_metrics.proofs.escaping.put_escaped.Given as goal

abbrev pub invariant-loop-byte : goal.invariant-loop-byte
invariant-loop-byte l =
    l.out ++ flat_map escaped (drop l.byte-index l.text)
    ≡ l.initial.out ++ flat_map escaped l.text
