use Rattle.std.proofs.Common.{map}
use Rattle.chk_book.specs.Views.{end_view}
use Rattle.chk_book.proofs.ReadLists.{EndsSo}
use Rattle.chk_book.proofs.reading.read_ends.Given as goal

abbrev pub invariant-loop-read : goal.invariant-loop-read
invariant-loop-read l = EndsSo l.starts l.count l.from l.bytes (map end_view l.ends) l._read l.at
