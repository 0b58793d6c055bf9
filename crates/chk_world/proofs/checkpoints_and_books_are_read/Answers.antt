use Rattle.chk_world.proofs.SpelledLemmas.{checkpoint_so, checkpoint_written, book_so, book_written}
use Rattle.chk_world.proofs.CheckpointsRead.{checkpoint_back}
use Rattle.chk_world.proofs.BooksRead.{book_back}
use Rattle.chk_world.proofs.checkpoints_and_books_are_read.Goals as goal

pub returns : goal.returns
returns c = record {
  checkpoints = record { back = checkpoint_back; so = checkpoint_so; written = checkpoint_written };
  books = record { back = book_back; so = book_so; written = book_written };
}
