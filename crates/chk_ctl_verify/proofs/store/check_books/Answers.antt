use Rattle.std.proofs.Common.{Err, ◌∙◌}
use Rattle.chk_ctl_verify.specs.Stores.{both, not_first, only_first}
use Rattle.chk_ctl_verify.specs.declared.books.Folder.{Folder}
use Rattle.chk_ctl_verify.specs.declared.store.Store.{Store}
use Rattle.chk_ctl_verify.proofs.Causes.{cause_then, err_cause}
use Rattle.chk_ctl_verify.proofs.FolderWords.{archive_folder}
use Rattle.chk_ctl_verify.proofs.Steps.{then_own}
use Rattle.chk_ctl_verify.proofs.store.check_books.Goals as goal

pub check_book-requires-clause-folder : goal.check_book-requires-clause-folder
check_book-requires-clause-folder g c = archive_folder

pub returns-in-Ok-check_records : goal.returns-in-Ok-check_records
returns-in-Ok-check_records g c =
    rw c.either.ensures
    (record {
      told = both c.in-Ok.ensures.told c.in-Ok-check_records.ensures.told;
      own = then_own c.in-Ok.ensures.own c.in-Ok-check_records.ensures.own;
      cause = c.in-Ok-check_records.ensures.cause ∙ c.in-Ok.ensures.cause;
    })

pub returns-in-Err-check_records : goal.returns-in-Err-check_records
returns-in-Err-check_records g c = record {
  told = only_first c.in-Ok.ensures.told c.in-Err-check_records.ensures.told;
  own = then_own c.in-Ok.ensures.own c.in-Err-check_records.ensures.own;
  cause = cause_then {A = Store} (Err c.in-Err-check_records.fault) (g.S.Site.fault_count
      c.args.site.now)
      (g.S.Site.fault_count c.check_book.new.site) (g.S.Site.fault_count c.check_records.new.site)
      c.in-Ok.ensures.cause
      (err_cause Folder Store c.in-Err-check_records.fault (g.S.Site.fault_count
      c.check_book.new.site)
      (g.S.Site.fault_count c.check_records.new.site) c.in-Err-check_records.ensures.cause);
}

pub returns-in-Err : goal.returns-in-Err
returns-in-Err g c = record {
  told = not_first c.in-Err.ensures.told;
  own = c.in-Err.ensures.own;
  cause = err_cause Folder Store c.in-Err.fault (g.S.Site.fault_count c.args.site.now)
      (g.S.Site.fault_count c.check_book.new.site) c.in-Err.ensures.cause;
}
