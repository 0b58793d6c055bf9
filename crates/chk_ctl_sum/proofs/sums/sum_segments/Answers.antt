use Rattle.std.proofs.Common.{ℕ, List, refl}
use Rattle.chk_site.proofs.Leads.{leads_as}
use Rattle.chk_site.proofs.Runs.{adds_none}
use Rattle.chk_world.specs.JobSteps.{IsOf, ReadsFile}
use Rattle.chk_record_index.proofs.Gathering.{every_then}
use Rattle.chk_record_index.specs.Heads.{Head}
use Rattle.chk_book.proofs.Added.{cause_later, cause_then, fails_later as last_later}
use Rattle.chk_book.specs.Books.{book_view}
use Rattle.chk_record_reader.proofs.AllGathered.{fails_later}
use Rattle.chk_ctl_sum.proofs.Later.{refused_so}
use Rattle.chk_ctl_sum.proofs.Sides.{summed_so}
use Rattle.chk_ctl_sum.proofs.sums.sum_segments.Goals as goal

pub returns-in-Ok : goal.returns-in-Ok
returns-in-Ok g c =
    let result = c.sum_streams.result in
    record {
      raw = λ held settled.
          summed_so c.args.folder.now (book_view c.args.book.now) held c.args.rests.now result
          c.sum_streams.ensures.raw c.requires.names settled
          (c.in-Ok.ensures.raw held c.requires.job settled) c.sum_streams.ensures.own;
      count = c.sum_streams.ensures.count;
      own = every_then (IsOf ReadsFile) (c.in-Ok.ensures.own c.requires.job)
          c.sum_streams.ensures.own;
      only = c.sum_streams.ensures.only;
      last = last_later result (c.in-Ok.ensures.own c.requires.job) c.sum_streams.ensures.last;
      cause = cause_then result (g.S.Site.fault_count c.args.site.now)
          (g.S.Site.fault_count c.sound_heads.new.site)
          (g.S.Site.fault_count c.sum_streams.new.site) c.in-Ok.ensures.cause
          c.sum_streams.ensures.cause;
    }

pub returns-in-Err : goal.returns-in-Err
returns-in-Err g c =
    let fault = c.in-Err.fault in
    let before = g.S.Site.fault_count c.args.site.now in
    record {
      raw = λ held settled.
          leads_as (λ history x. x)
          (λ history x.
          refused_so c.args.folder.now (book_view c.args.book.now) held c.args.rests.now fault
          history x)
          (c.in-Err.ensures.raw held c.requires.job settled);
      count = tt;
      own = c.in-Err.ensures.own c.requires.job;
      only = c.in-Err.ensures.only;
      last = fails_later (List (List ℕ)) (List Head) fault
          (adds_none (g.S.Site.told c.args.site.now) (λ added history. Unit {0}) (λ history. tt))
          c.in-Err.ensures.last;
      cause = cause_later (List (List ℕ)) (List Head) fault before before
          (g.S.Site.fault_count c.sound_heads.new.site) refl c.in-Err.ensures.cause;
    }
