use Rattle.std.proofs.Common.{◌∙◌, List, Ok, Err, refl}
use Rattle.chk_site.proofs.Runs.{adds_as, adds_none}
use Rattle.chk_world.specs.JobSteps.{IsOf, ReadsFile}
use Rattle.chk_record_index.specs.Faults.{FailsLast}
use Rattle.chk_record_index.proofs.Gathering.{every_then}
use Rattle.chk_book.proofs.Added.{cause_later}
use Rattle.chk_book.specs.Books.{book_view}
use Rattle.chk_book.specs.declared.book.Book.{Book as Struct}
use Rattle.chk_record_index.specs.Heads.{Head}
use Rattle.chk_ctl_held.specs.declared.finding.Waiting.{Waiting}
use Rattle.chk_book.proofs.Works.{refused_later}
use Rattle.chk_ctl_held.proofs.finding.find_once.Goals as goal

pub returns-in-Ok-aside_heads : goal.returns-in-Ok-aside_heads
returns-in-Ok-aside_heads g c =
    let own = every_then (IsOf ReadsFile) (c.in-Ok.ensures.own c.requires.job)
    c.in-Ok-aside_heads.ensures.own in
    let waiting : Waiting = record { book = c.in-Ok.book; heads = c.in-Ok-aside_heads.heads } in
    record {
      told = record {
        given = Ok (book_view c.in-Ok.book);
        middle = g.S.Site.told c.load_book.new.site;
        shown = c.in-Ok.ensures.shown;
        found = (
          Ok c.in-Ok-aside_heads.heads,
          c.in-Ok-aside_heads.ensures.shown,
          (refl, refl),
        );
      };
      own = own;
      only = tt;
      last = adds_as (FailsLast {T = Waiting} (Ok waiting)) own (λ added history x. tt);
      order = c.in-Ok-aside_heads.ensures.order;
      cause = c.in-Ok-aside_heads.ensures.cause ∙ c.in-Ok.ensures.cause;
    }

pub returns-in-Err-aside_heads : goal.returns-in-Err-aside_heads
returns-in-Err-aside_heads g c =
    let fault = c.in-Err-aside_heads.fault in
    record {
      told = record {
        given = Ok (book_view c.in-Ok.book);
        middle = g.S.Site.told c.load_book.new.site;
        shown = c.in-Ok.ensures.shown;
        found = (Err fault, c.in-Err-aside_heads.ensures.shown, refl);
      };
      own = every_then (IsOf ReadsFile) (c.in-Ok.ensures.own c.requires.job)
          c.in-Err-aside_heads.ensures.own;
      only = c.in-Err-aside_heads.ensures.only;
      last = refused_later Waiting (List Head) fault c.in-Ok.ensures.pieces
          c.in-Err-aside_heads.ensures.last;
      order = tt;
      cause = cause_later Waiting (List Head) fault (g.S.Site.fault_count c.args.site.now)
          (g.S.Site.fault_count c.load_book.new.site) (g.S.Site.fault_count c.aside_heads.new.site)
          c.in-Ok.ensures.cause c.in-Err-aside_heads.ensures.cause;
    }

pub returns-in-Err : goal.returns-in-Err
returns-in-Err g c =
    let fault = c.in-Err.fault in
    let before = g.S.Site.fault_count c.args.site.now in
    record {
      told = record {
        given = Err fault;
        middle = g.S.Site.told c.load_book.new.site;
        shown = c.in-Err.ensures.shown;
        found = (refl, refl);
      };
      own = c.in-Err.ensures.own c.requires.job;
      only = c.in-Err.ensures.only;
      last = refused_later Waiting Struct fault
          (adds_none (g.S.Site.told c.args.site.now) (λ added history. Unit {0}) (λ history. tt))
          c.in-Err.ensures.last;
      order = tt;
      cause = cause_later Waiting Struct fault before before
          (g.S.Site.fault_count c.load_book.new.site) refl c.in-Err.ensures.cause;
    }
