use Rattle.std.proofs.Common.{length}
use Rattle.chk_bytes.specs.Numbers.{be32}
use Rattle.chk_world.specs.Books.{end_bytes}
use Rattle.chk_book.specs.Views.{end_view}
use Rattle.chk_book.proofs.WrittenLists.{more_written}
use Rattle.chk_book.proofs.writing.push_ends.Goals as goal

pub loop-end-preserved : goal.loop-end-preserved
loop-end-preserved c =
    more_written end_view (end_bytes c.args.starts) c.args.ends.now c.loop-end.end-index c.end-item.result c.end-item.result c.args.out.now (be32 (length c.args.ends.now)) c.loop-end.out
    c.push_end.new.out c.loop-end-test.true c.end-item.is c.loop-end.invariant c.in_ok-push_end.ensures
