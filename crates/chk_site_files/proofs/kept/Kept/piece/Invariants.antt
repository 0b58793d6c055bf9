use Rattle.std.proofs.Common.{◌≡◌, ◌≤◌, length}
use Rattle.chk_site_files.proofs.kept.Kept.piece.Given as goal

abbrev pub invariant-loop : goal.invariant-loop
invariant-loop l = (length l.bytes.items ≡ l.room) × (l.filled ≤ l.room)
