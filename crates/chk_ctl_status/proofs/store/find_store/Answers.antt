use Rattle.std.proofs.Common.{refl}
use Rattle.chk_book.proofs.Added.{cause_later, cause_then}
use Rattle.chk_ctl_held.specs.declared.finding.Waiting.{Waiting}
use Rattle.chk_ctl_status_rows.proofs.SinksOwn.{reads_around, then}
use Rattle.chk_ctl_status.specs.declared.store.StoreSeen.{StoreSeen}
use Rattle.chk_ctl_status.specs.Stores.{no_archive, with_archive}
use Rattle.chk_ctl_status.proofs.Causes.{archive_folder}
use Rattle.chk_ctl_status.proofs.store.find_store.Goals as goal

pub find_waiting-requires-clause-folder : goal.find_waiting-requires-clause-folder
find_waiting-requires-clause-folder g c = archive_folder

pub returns-in-Ok : goal.returns-in-Ok
returns-in-Ok g c = record {
  told = with_archive c.in-Ok.waiting c.in-Ok.ensures.told c.find_beside.ensures.told;
  own = then (reads_around c.in-Ok.ensures.own) c.find_beside.ensures.own;
  only = c.find_beside.ensures.only;
  cause = cause_then c.find_beside.result (g.S.Site.fault_count c.args.site.now)
      (g.S.Site.fault_count c.find_waiting.new.site)
      (g.S.Site.fault_count c.find_beside.new.site) c.in-Ok.ensures.cause
      c.find_beside.ensures.cause;
}

pub returns-in-Err : goal.returns-in-Err
returns-in-Err g c =
    let before = g.S.Site.fault_count c.args.site.now in
    record {
      told = no_archive c.in-Err.fault c.in-Err.ensures.told;
      own = reads_around c.in-Err.ensures.own;
      only = c.in-Err.ensures.only;
      cause = cause_later StoreSeen Waiting c.in-Err.fault before before
          (g.S.Site.fault_count c.find_waiting.new.site) refl c.in-Err.ensures.cause;
    }
