use Rattle.std.proofs.Common.{◌≡◌, ◌<◌, ℕ, map, get_or}
use Rattle.chk_book.specs.Views.{end_view}
use Rattle.chk_record_reader.specs.OnePass.{end_at}
use Rattle.chk_demux_scan.proofs.backward.reach_starts.Given as goal

abbrev pub invariant-loop-index : goal.invariant-loop-index
invariant-loop-index l = (k : ℕ) → k < l.index
    → get_or l.begins k 0 ≡ (end_at (map end_view l.ends) k).start
