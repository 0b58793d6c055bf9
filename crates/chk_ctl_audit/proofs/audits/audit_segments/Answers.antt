use Rattle.std.proofs.Common.{◌∙◌, ℕ, List, Ok, Err, refl}
use Rattle.chk_site.proofs.Leads.{leads_as}
use Rattle.chk_world.specs.JobSteps.{IsOf, ReadsFile}
use Rattle.chk_record_index.proofs.Gathering.{every_then}
use Rattle.chk_record_index.specs.Heads.{Head}
use Rattle.chk_book.specs.Books.{book_view}
use Rattle.chk_ctl_sum.proofs.Later.{refused_so}
use Rattle.chk_ctl_sum.proofs.Sides.{summed_so}
use Rattle.chk_ctl_audit.specs.declared.audits.Compared.{Compared}
use Rattle.chk_ctl_audit.proofs.Steps.{job_as, job_then}
use Rattle.chk_ctl_audit.proofs.audits.audit_segments.Goals as goal

pub returns-in-Ok-sum_streams : goal.returns-in-Ok-sum_streams
returns-in-Ok-sum_streams g c =
    let d = c.in-Ok-sum_streams in
    let heads_own = c.in-Ok.ensures.own c.requires.job in
    record {
      told = record {
        given = Ok d.digests;
        middle = g.S.Site.told c.sum_streams.new.site;
        summed = λ held settled.
            summed_so c.args.folder.now (book_view c.args.book.now) held c.args.rests.now
            (Ok d.digests) d.ensures.raw c.requires.names settled
            (c.in-Ok.ensures.raw held c.requires.job settled) d.ensures.own;
        own = every_then (IsOf ReadsFile) heads_own d.ensures.own;
        compared = (
          _,
          (record {
            names_are = c.requires.names;
            middle = g.S.Site.told c.sound_heads.new.site;
            sound = λ held settled. c.in-Ok.ensures.raw held c.requires.job settled;
            own = d.ensures.own;
          }),
          c.compare.ensures.told,
        );
      };
      only = c.compare.ensures.only;
      cause = job_then c.compare.result (g.S.Site.fault_count c.args.site.now)
          (g.S.Site.fault_count c.sum_streams.new.site) (g.S.Site.fault_count c.compare.new.site)
          (d.ensures.cause ∙ c.in-Ok.ensures.cause) c.compare.ensures.cause;
    }

pub returns-in-Ok : goal.returns-in-Ok
returns-in-Ok g c =
    let d = c.in-Err-sum_streams in
    record {
      told = record {
        given = Err d.fault;
        middle = g.S.Site.told c.sum_streams.new.site;
        summed = λ held settled.
            summed_so c.args.folder.now (book_view c.args.book.now) held c.args.rests.now
            (Err d.fault) d.ensures.raw c.requires.names settled
            (c.in-Ok.ensures.raw held c.requires.job settled) d.ensures.own;
        own = every_then (IsOf ReadsFile) (c.in-Ok.ensures.own c.requires.job) d.ensures.own;
        compared = (refl, refl);
      };
      only = d.ensures.only;
      cause = job_then {T = Compared} (Err d.fault) (g.S.Site.fault_count c.args.site.now)
          (g.S.Site.fault_count c.sound_heads.new.site)
          (g.S.Site.fault_count c.sum_streams.new.site) c.in-Ok.ensures.cause
          (job_as (List (List ℕ)) Compared d.fault (g.S.Site.fault_count c.sound_heads.new.site)
          (g.S.Site.fault_count c.sum_streams.new.site) d.ensures.cause);
    }

pub returns : goal.returns
returns g c =
    let fault = c.in-Err.fault in
    record {
      told = record {
        given = Err fault;
        middle = g.S.Site.told c.sound_heads.new.site;
        summed = λ held settled.
            leads_as (λ history x. x)
            (λ history x.
            refused_so c.args.folder.now (book_view c.args.book.now) held c.args.rests.now fault
            history x)
            (c.in-Err.ensures.raw held c.requires.job settled);
        own = c.in-Err.ensures.own c.requires.job;
        compared = (refl, refl);
      };
      only = c.in-Err.ensures.only;
      cause = job_as (List Head) Compared fault (g.S.Site.fault_count c.args.site.now)
          (g.S.Site.fault_count c.sound_heads.new.site) c.in-Err.ensures.cause;
    }
