use Rattle.std.proofs.Common.{◌≡◌, ◌<◌, ℕ, length, map, drop, get_or}
use Rattle.chk_record_index.specs.Order.{no_head}
use Rattle.chk_book.specs.Views.{end_view}
use Rattle.chk_record_reader.specs.OnePass.{AreCourses, IsListed}
use Rattle.chk_record_reader.proofs.one_pass.all_go_well.Given as goal

abbrev pub invariant-loop-index : goal.invariant-loop-index
invariant-loop-index l = record {
  same : length l.reached.items ≡ length l.ends;
  courses : AreCourses (map end_view l.ends) l.heads (drop l.index l.heads) l.reached.items;
  listed : (j : ℕ) → j < l.index → IsListed (map end_view l.ends) (get_or l.heads j no_head);
}
