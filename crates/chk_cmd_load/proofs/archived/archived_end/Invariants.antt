use Rattle.std.proofs.Common.{◌≡◌, drop, map}
use Rattle.chk_book.specs.Books.{end_in}
use Rattle.chk_book.specs.Views.{end_view}
use Rattle.chk_cmd_load.specs.Archived.{load_stream}
use Rattle.chk_cmd_load.proofs.archived.archived_end.Given as goal

abbrev pub invariant-loop-end : goal.invariant-loop-end
invariant-loop-end l =
    end_in 0 (map end_view (drop l.end-index l.ends)) (load_stream l.log) ≡ end_in 0 (map end_view l.ends) (load_stream l.log)
