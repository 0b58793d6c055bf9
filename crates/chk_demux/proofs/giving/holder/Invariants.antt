use Rattle.std.proofs.Common.{◌≡◌}
use Rattle.chk_book.specs.Views.{end_view}
use Rattle.chk_demux.specs.Giving.{cluster_back}
use Rattle.chk_demux.proofs.giving.holder.Given as goal

abbrev pub invariant-loop-index : goal.invariant-loop-index
invariant-loop-index l =
    cluster_back l.heads (end_view l.end).stream l.at l.count ≡ cluster_back l.heads (end_view l.end).stream l.at l.index
