use Rattle.std.proofs.Common.{ℕ, Ok, Err, refl}
use Rattle.chk_site.proofs.Runs.{adds_none}
use Rattle.chk_world.specs.JobSteps.{IsOf, ReadsFile}
use Rattle.chk_record_index.proofs.Gathering.{every_then}
use Rattle.chk_book.proofs.Added.{cause_later, cause_then, fails_later}
use Rattle.chk_book.specs.Books.{book_view}
use Rattle.chk_book.specs.declared.book.Book.{Book as Struct}
use Rattle.chk_record_reader.proofs.AllGathered.{fails_later as fault_later}
use Rattle.chk_ctl_verify_archive.proofs.folders.verify_folder.Goals as goal

pub returns-in-Ok : goal.returns-in-Ok
returns-in-Ok g c =
    let result = c.verify_book.result in
    record {
      told = record {
        quiet = every_then (IsOf ReadsFile) c.in-Ok.ensures.own c.verify_book.ensures.own;
        given = Ok (book_view c.in-Ok.book);
        middle = g.S.Site.told c.find_book.new.site;
        read = c.in-Ok.ensures.told;
        found = c.verify_book.ensures.raw;
      };
      own = every_then (IsOf ReadsFile) c.in-Ok.ensures.own c.verify_book.ensures.own;
      only = c.verify_book.ensures.only;
      last = fails_later result c.in-Ok.ensures.own c.verify_book.ensures.last;
      cause = cause_then result (g.S.Site.fault_count c.args.site.now)
          (g.S.Site.fault_count c.find_book.new.site)
          (g.S.Site.fault_count c.verify_book.new.site) c.in-Ok.ensures.cause
          c.verify_book.ensures.cause;
    }

pub returns-in-Err : goal.returns-in-Err
returns-in-Err g c =
    let fault = c.in-Err.fault in
    let before = g.S.Site.fault_count c.args.site.now in
    record {
      told = record {
        quiet = c.in-Err.ensures.own;
        given = Err fault;
        middle = g.S.Site.told c.find_book.new.site;
        read = c.in-Err.ensures.told;
        found = (refl, refl);
      };
      own = c.in-Err.ensures.own;
      only = c.in-Err.ensures.only;
      last = fault_later ℕ Struct fault
          (adds_none (g.S.Site.told c.args.site.now) (λ added history. Unit {0}) (λ history. tt))
          c.in-Err.ensures.last;
      cause = cause_later ℕ Struct fault before before
          (g.S.Site.fault_count c.find_book.new.site) refl
          c.in-Err.ensures.cause;
    }
