use Rattle.std.proofs.Common.{◌≡◌, ◌++◌, drop}
use Rattle.std.specs.Prelude.{flat_map}
use Rattle.chk_ctl_metrics.specs.Families.{demuxed_row}
use Rattle.chk_ctl_metrics.proofs.families.put_demuxed.Given as goal

abbrev pub invariant-loop-end : goal.invariant-loop-end
invariant-loop-end l =
    l.out ++ flat_map (demuxed_row l.store) (drop l.end-index l.store.seen.waiting.book.ends)
    ≡ l.initial.out ++ flat_map (demuxed_row l.store) l.store.seen.waiting.book.ends
