use Rattle.std.proofs.Common.{refl}
use Rattle.chk_book.proofs.Added.{cause_later, cause_then}
use Rattle.chk_book.specs.declared.book.Book.{Book}
use Rattle.chk_ctl_status_rows.proofs.SinksOwn.{reads_around, then}
use Rattle.chk_ctl_status.specs.declared.store.StoreSeen.{StoreSeen}
use Rattle.chk_ctl_status.specs.Stores.{no_records, with_records}
use Rattle.chk_ctl_status.proofs.Causes.{records_folder}
use Rattle.chk_ctl_status.proofs.store.find_beside.Goals as goal

pub find_book-requires-clause-folder : goal.find_book-requires-clause-folder
find_book-requires-clause-folder g c = records_folder

pub returns-in-Ok : goal.returns-in-Ok
returns-in-Ok g c = record {
  told = with_records c.in-Ok.split c.in-Ok.ensures.told c.find_rest.ensures.told;
  own = then (reads_around c.in-Ok.ensures.own) c.find_rest.ensures.own;
  only = c.find_rest.ensures.only;
  cause = cause_then c.find_rest.result (g.S.Site.fault_count c.args.site.now)
      (g.S.Site.fault_count c.find_book.new.site)
      (g.S.Site.fault_count c.find_rest.new.site) c.in-Ok.ensures.cause
      c.find_rest.ensures.cause;
}

pub returns-in-Err : goal.returns-in-Err
returns-in-Err g c =
    let before = g.S.Site.fault_count c.args.site.now in
    record {
      told = no_records c.in-Err.fault c.in-Err.ensures.told;
      own = reads_around c.in-Err.ensures.own;
      only = c.in-Err.ensures.only;
      cause = cause_later StoreSeen Book c.in-Err.fault before before
          (g.S.Site.fault_count c.find_book.new.site) refl c.in-Err.ensures.cause;
    }
