use Rattle.std.proofs.Common.{◌∙◌, ℕ, List, Ok, Err, refl}
use Rattle.chk_site.proofs.Runs.{adds_as, adds_none}
use Rattle.chk_world.specs.JobSteps.{IsOf, ReadsFile}
use Rattle.chk_record_index.specs.Faults.{FailsLast}
use Rattle.chk_record_index.proofs.Gathering.{every_then}
use Rattle.chk_book.proofs.Added.{cause_later}
use Rattle.chk_book.specs.Books.{book_view}
use Rattle.chk_book.specs.declared.book.Book.{Book as Struct}
use Rattle.chk_record_reader.proofs.AllGathered.{fails_later}
use Rattle.chk_ctl_sum.specs.declared.sums.Sums.{Sums}
use Rattle.chk_ctl_sum.proofs.sums.sum_folder.Goals as goal

pub returns-in-Ok-sum_book : goal.returns-in-Ok-sum_book
returns-in-Ok-sum_book g c =
    let own = every_then (IsOf ReadsFile) (c.in-Ok.ensures.own c.requires.job)
    c.in-Ok-sum_book.ensures.own in
    let sums : Sums = record { ends = c.in-Ok.book.ends; digests = c.in-Ok-sum_book.digests } in
    record {
      told = record {
        given = Ok (book_view c.in-Ok.book);
        middle = g.S.Site.told c.load_book.new.site;
        shown = c.in-Ok.ensures.shown;
        found = (
          Ok c.in-Ok-sum_book.digests,
          c.in-Ok-sum_book.ensures.raw,
          (refl, refl, c.in-Ok-sum_book.ensures.count),
        );
      };
      own = own;
      only = tt;
      last = adds_as (FailsLast {T = Sums} (Ok sums)) own (λ added history x. tt);
      cause = c.in-Ok-sum_book.ensures.cause ∙ c.in-Ok.ensures.cause;
    }

pub returns-in-Err-sum_book : goal.returns-in-Err-sum_book
returns-in-Err-sum_book g c =
    let fault = c.in-Err-sum_book.fault in
    record {
      told = record {
        given = Ok (book_view c.in-Ok.book);
        middle = g.S.Site.told c.load_book.new.site;
        shown = c.in-Ok.ensures.shown;
        found = (Err fault, c.in-Err-sum_book.ensures.raw, refl);
      };
      own = every_then (IsOf ReadsFile) (c.in-Ok.ensures.own c.requires.job)
          c.in-Err-sum_book.ensures.own;
      only = c.in-Err-sum_book.ensures.only;
      last = fails_later Sums (List (List ℕ)) fault c.in-Ok.ensures.pieces
          c.in-Err-sum_book.ensures.last;
      cause = cause_later Sums (List (List ℕ)) fault (g.S.Site.fault_count c.args.site.now)
          (g.S.Site.fault_count c.load_book.new.site) (g.S.Site.fault_count c.sum_book.new.site)
          c.in-Ok.ensures.cause c.in-Err-sum_book.ensures.cause;
    }

pub returns-in-Err : goal.returns-in-Err
returns-in-Err g c =
    let fault = c.in-Err.fault in
    let before = g.S.Site.fault_count c.args.site.now in
    record {
      told = record {
        given = Err fault;
        middle = g.S.Site.told c.load_book.new.site;
        shown = c.in-Err.ensures.shown;
        found = (refl, refl);
      };
      own = c.in-Err.ensures.own c.requires.job;
      only = c.in-Err.ensures.only;
      last = fails_later Sums Struct fault
          (adds_none (g.S.Site.told c.args.site.now) (λ added history. Unit {0}) (λ history. tt))
          c.in-Err.ensures.last;
      cause = cause_later Sums Struct fault before before
          (g.S.Site.fault_count c.load_book.new.site) refl c.in-Err.ensures.cause;
    }
