use Rattle.std.proofs.Common.{◌∙◌, true≢false, ap, sym, map, get_or}
use Rattle.std.specs.Prelude.{is_some}
use Rattle.chk_record_index.specs.Heads.{Head}
use Rattle.chk_record_index.specs.Order.{no_head}
use Rattle.chk_book.specs.Books.{book_view}
use Rattle.chk_book.specs.Views.{end_view}
use Rattle.chk_record_reader.specs.Courses.{end_of}
use Rattle.chk_record_reader.proofs.checking.check_head.Goals as goal

pub returns-then-is_listed-clause-ok : goal.returns-then-is_listed-clause-ok
returns-then-is_listed-clause-ok c = λ none.
    let es = (book_view c.args.book.now).ends in
    let stream = ap (λ (h : Head). h.key.stream) c.get-head.ensures.head in
    let there = sym c.is_listed.ensures ∙ c.if-is_listed.true in
    absurd
    (true≢false
    (sym there
    ∙ (ap (λ s. is_some (end_of s (map end_view c.as_slice.result.now))) stream
    ∙ (ap (λ ends. is_some (end_of (get_or c.args.heads.now c.args.index no_head).key.stream (map end_view ends))) c.as_slice.ensures ∙ ap is_some none))))
