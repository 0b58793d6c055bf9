use Rattle.chk_ctl_inspect.specs.Reporting.{told, unbegun}
use Rattle.chk_ctl_inspect.proofs.reports.report_as.Goals as goal

pub returns-in-Ok-clause-told : goal.returns-in-Ok-clause-told
returns-in-Ok-clause-told g c =
    told (record {
      books = c.in-Ok.books.items;
      are = rw c.as_slice.ensures.value at c.in-Ok.ensures;
      told = rw c.as_slice-in-Ok.ensures.value at c.report_by_books.ensures.told;
    })

pub returns-in-Err-clause-told : goal.returns-in-Err-clause-told
returns-in-Err-clause-told g c = unbegun
