use Rattle.std.proofs.Common.{◌∙◌, sym, ap}
use Rattle.chk_book.specs.Damage.{book_damage}
use Rattle.chk_world.proofs.SpelledLemmas.{book_so}
use Rattle.chk_book.proofs.NoDamage.{no_damage}
use Rattle.chk_book.proofs.laws.books_have_no_damage.Goals as goal

pub returns : goal.returns
returns c = λ bytes b read. let so = book_so bytes b read in ap book_damage (sym so.2) ∙ no_damage so.0 b so.1
