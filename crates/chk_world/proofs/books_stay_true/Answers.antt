use Rattle.chk_world.proofs.BooksTrue.{books_stay_true}
use Rattle.chk_world.proofs.books_stay_true.Goals as goal

pub returns : goal.returns
returns c = books_stay_true
