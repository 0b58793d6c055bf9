use Rattle.std.proofs.Common.{◌-◌, map, drop}
use Rattle.std.specs.Prelude.{IsTrue}
use Rattle.chk_world.specs.Books.{ends_rise}
use Rattle.chk_book.specs.Views.{end_view}
use Rattle.chk_ctl_streams.proofs.recorded.do_rise.Given as goal

abbrev pub invariant-loop-at : goal.invariant-loop-at
invariant-loop-at l =
    IsTrue (ends_rise (drop (l.at - 1) (map end_view l.ends)))
    → IsTrue (ends_rise (map end_view l.ends))
