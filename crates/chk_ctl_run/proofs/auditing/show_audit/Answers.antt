use Rattle.std.proofs.Common.{◌∙◌, ap, refl, sym}
use Rattle.chk_site.specs.History.{Every}
use Rattle.chk_site.proofs.Runs.{adds_none}
use Rattle.chk_ctl_audit.specs.Audits.{LooksAtAudit}
use Rattle.chk_ctl_run.specs.Auditing.{unnamed}
use Rattle.chk_ctl_run.specs.Several.{archive_of, book_of}
use Rattle.chk_ctl_run.proofs.auditing.show_audit.Goals as goal

pub audit_named-requires-clause-folder : goal.audit_named-requires-clause-folder
audit_named-requires-clause-folder g c =
    c.in-Ok.ensures.folder ∙ ap archive_of (sym c.in-Ok.ensures.store)

pub audit_named-requires-clause-book : goal.audit_named-requires-clause-book
audit_named-requires-clause-book g c =
    c.in-Ok.ensures.book ∙ ap book_of (sym c.in-Ok.ensures.store)

pub returns-in-Ok : goal.returns-in-Ok
returns-in-Ok g c = record {
  told = rw c.in-Ok.ensures.store at c.audit_named.ensures.told;
  own = c.audit_named.ensures.own;
  cause = c.audit_named.ensures.cause;
}

pub returns-in-Err : goal.returns-in-Err
returns-in-Err g c = record {
  told = unnamed;
  own = adds_none (g.S.Site.told c.args.site.now) (Every LooksAtAudit) (λ history. tt);
  cause = refl;
}
