use Rattle.std.proofs.Common.{◌∙◌, ℕ, List, Ok, ap, length, refl}
use Rattle.chk_site.proofs.Leads.{leads_as}
use Rattle.chk_site.proofs.Runs.{adds_as, adds_none}
use Rattle.chk_record_index.specs.Faults.{FailsLast}
use Rattle.chk_record_index.specs.Heads.{Head}
use Rattle.chk_book.proofs.Added.{cause_later}
use Rattle.chk_book.specs.Books.{book_view}
use Rattle.chk_record_reader.proofs.AllGathered.{fails_later}
use Rattle.chk_ctl_verify_archive.proofs.Later.{refused_so}
use Rattle.chk_ctl_verify_archive.proofs.folders.verify_segments.Goals as goal

pub returns-in-Ok : goal.returns-in-Ok
returns-in-Ok g c = record {
  raw = λ held settled.
      leads_as (λ history x. x) (λ history x. (x.0, x.1, x.2, c.len.ensures ∙ ap length x.3))
      (c.in-Ok.ensures.raw held c.requires.job settled);
  own = c.in-Ok.ensures.own c.requires.job;
  only = tt;
  last = adds_as (FailsLast {T = ℕ} (Ok c.len.result)) c.in-Ok.ensures.pieces
      (λ added history x. tt);
  cause = c.in-Ok.ensures.cause;
}

pub returns-in-Err : goal.returns-in-Err
returns-in-Err g c =
    let fault = c.in-Err.fault in
    let before = g.S.Site.fault_count c.args.site.now in
    record {
      raw = λ held settled.
          leads_as (λ history x. x)
          (λ history x. refused_so c.args.folder.now (book_view c.args.book.now) held fault
          history x)
          (c.in-Err.ensures.raw held c.requires.job settled);
      own = c.in-Err.ensures.own c.requires.job;
      only = c.in-Err.ensures.only;
      last = fails_later ℕ (List Head) fault
          (adds_none (g.S.Site.told c.args.site.now) (λ added history. Unit {0}) (λ history. tt))
          c.in-Err.ensures.last;
      cause = cause_later ℕ (List Head) fault before before
          (g.S.Site.fault_count c.sound_heads.new.site) refl
          c.in-Err.ensures.cause;
    }
