use Rattle.std.proofs.Common.{List, ℕ, map, subst, ap, ◌∙◌}
use Rattle.chk_book.specs.Books.{book_view}
use Rattle.chk_book.specs.Views.{end_view}
use Rattle.chk_book.specs.declared.lists.End.{End}
use Rattle.chk_cmd_output.specs.Printing.{PrintsInTurn}
use Rattle.chk_ctl_streams.specs.Lines.{line_in}
use Rattle.chk_ctl_streams.proofs.LineWords.{same_lines}
use Rattle.chk_ctl_streams.proofs.lines.print_lines.Goals as goal

pub returns-clause-told : goal.returns-clause-told
returns-clause-told g c =
    let records = (book_view c.args.records.now).ends in
    subst (λ (lines : List (List ℕ)). PrintsInTurn c.args.who.now lines c.print_ends.result
    (g.S.Site.told c.args.site.now) (g.S.Site.told c.print_ends.new.site))
    (ap (λ (ends : List End). map {A = End} {B = List ℕ} (λ e. line_in records (end_view e))
    ends) c.as_slice-2.ensures
    ∙ same_lines records c.args.archive.now.ends)
    c.print_ends.ensures.told
