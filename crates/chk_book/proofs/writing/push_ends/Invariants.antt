use Rattle.std.proofs.Common.{◌≡◌, ◌++◌, length, take, map}
use Rattle.chk_bytes.specs.Numbers.{be32}
use Rattle.chk_bytes.specs.Words.{joined}
use Rattle.chk_world.specs.Books.{end_bytes}
use Rattle.chk_book.specs.Views.{end_view}
use Rattle.chk_book.proofs.writing.push_ends.Given as goal

abbrev pub invariant-loop-end : goal.invariant-loop-end
invariant-loop-end l =
    l.out ≡ l.fn.out ++ (be32 (length l.ends) ++ joined (map (end_bytes l.starts) (map end_view (take l.end-index l.ends))))
