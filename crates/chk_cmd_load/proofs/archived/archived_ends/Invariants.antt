use Rattle.std.proofs.Common.{◌≡◌, ◌-◌, ◌^◌, min, map}
use Rattle.chk_book.specs.Views.{end_view}
use Rattle.chk_cmd_load.specs.Archived.{archived_of}
use Rattle.chk_cmd_load.proofs.archived.archived_ends.Given as goal

abbrev pub invariant-loop-log : goal.invariant-loop-log
invariant-loop-log l = l.sum ≡ min (archived_of (map end_view l.ends) l.log) (2 ^ 64 - 1)
