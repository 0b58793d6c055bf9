use Rattle.chk_book.specs.Books.{book_view}
use Rattle.chk_record_reader.proofs.Checked.{all_well}
use Rattle.chk_record_reader.proofs.checking.check_records.Goals as goal

pub returns-clause-ok : goal.returns-clause-ok
returns-clause-ok c =
    all_well (book_view c.args.book.now).ends c.args.heads.now c.in_ok-check_ends.ensures.ok
    c.in_ok-check_heads.ensures.ok
