use Rattle.std.proofs.Common.{map}
use Rattle.chk_book.specs.Views.{end_view}
use Rattle.chk_record_reader.proofs.OnePass.{AreRising}
use Rattle.chk_record_reader.proofs.one_pass.is_rising.Given as goal

abbrev pub invariant-loop-index : goal.invariant-loop-index
invariant-loop-index l = AreRising (map end_view l.ends) l.index
