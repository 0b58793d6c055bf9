use Rattle.std.proofs.Common.{◌≡◌, ℕ, ◌<◌, false, slice_index_or}
use Rattle.chk_archive_merge.specs.declared.cursor.Cursor.{Cursor}
use Rattle.chk_archive_merge.proofs.tour.are_ended.Given as goal

abbrev pub invariant-loop-cursor : goal.invariant-loop-cursor
invariant-loop-cursor l = (k : ℕ) (d : Cursor) → k < l.cursor-index → (slice_index_or l.cursors k d).held ≡ false
