use Rattle.std.proofs.Common.{Ok, Err, refl}
use Rattle.chk_book.specs.Books.{book_view}
use Rattle.chk_book.specs.declared.book.Book.{Book}
use Rattle.chk_ctl_audit.specs.declared.audits.Compared.{Compared}
use Rattle.chk_ctl_audit.proofs.Steps.{job_as, job_then}
use Rattle.chk_ctl_audit.proofs.audits.audit_folder.Goals as goal

pub returns-in-Ok : goal.returns-in-Ok
returns-in-Ok g c = record {
  told = record {
    given = Ok (book_view c.in-Ok.book);
    middle = g.S.Site.told c.load_book.new.site;
    shown = c.in-Ok.ensures.shown;
    own = c.in-Ok.ensures.own c.requires.job;
    audited = c.audit_book.ensures.told;
  };
  only = c.audit_book.ensures.only;
  cause = job_then c.audit_book.result (g.S.Site.fault_count c.args.site.now)
      (g.S.Site.fault_count c.load_book.new.site) (g.S.Site.fault_count c.audit_book.new.site)
      c.in-Ok.ensures.cause c.audit_book.ensures.cause;
}

pub returns-in-Err : goal.returns-in-Err
returns-in-Err g c = record {
  told = record {
    given = Err c.in-Err.fault;
    middle = g.S.Site.told c.load_book.new.site;
    shown = c.in-Err.ensures.shown;
    own = c.in-Err.ensures.own c.requires.job;
    audited = (refl, refl);
  };
  only = c.in-Err.ensures.only;
  cause = job_as Book Compared c.in-Err.fault (g.S.Site.fault_count c.args.site.now)
      (g.S.Site.fault_count c.load_book.new.site) c.in-Err.ensures.cause;
}
