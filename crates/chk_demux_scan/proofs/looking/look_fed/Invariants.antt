use Rattle.std.proofs.Common.{◌≡◌, ◌-◌, ◌^◌, length, map}
use Rattle.chk_book.specs.Views.{end_view}
use Rattle.chk_demux_scan.proofs.FedLooks.{IsLooked}
use Rattle.chk_demux_scan.proofs.looking.look_fed.Given as goal

abbrev pub invariant-loop-found : goal.invariant-loop-found
invariant-loop-found l = record {
  so : IsLooked (map end_view l.ends) l.places l.file l.fn.pieces l.pieces l.fn.heads l.fn.look
      l.heads l.look l.place;
  same : length l.look.spans.items ≡ length l.ends;
}

abbrev pub decreases-loop-found : goal.decreases-loop-found
decreases-loop-found l = 2 ^ 64 - l.place
