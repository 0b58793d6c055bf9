use Rattle.chk_book.specs.Books.{book_view}
use Rattle.chk_book.specs.declared.book.Book.{Book as Struct}
use Rattle.chk_ctl_cat.proofs.StreamLemmas.{reads_own, load_last, load_cause}
use Rattle.chk_ctl_streams.specs.Listing.{listed, unread}
use Rattle.chk_ctl_streams.proofs.Listed.{own_then, prints_own, last_then, cause_then}
use Rattle.chk_ctl_streams.proofs.streams.print_beside.Goals as goal

pub returns-in-Ok : goal.returns-in-Ok
returns-in-Ok g c =
    rw c.look_result.ensures
    (record {
      told = listed (book_view c.in-Ok.split) c.print_lines.result c.in-Ok.ensures.told
          c.print_lines.ensures.told;
      own = own_then c.in-Ok.ensures.own (prints_own c.requires.job c.print_lines.ensures.told);
      last = last_then c.print_lines.result c.in-Ok.ensures.own c.print_lines.ensures.told;
      cause = cause_then c.print_lines.result (g.S.Site.fault_count c.args.site.now)
          (g.S.Site.fault_count c.find_book.new.site)
          (g.S.Site.fault_count c.print_lines.new.site) c.in-Ok.ensures.cause
          c.print_lines.ensures.cause;
    })

pub returns-in-Err : goal.returns-in-Err
returns-in-Err g c =
    rw c.look_of.ensures
    (record {
      told = unread c.in-Err.fault c.in-Err.ensures.told;
      own = reads_own c.in-Err.ensures.own;
      last = load_last (Unit {0}) Struct c.in-Err.fault c.in-Err.ensures.last;
      cause = load_cause (Unit {0}) Struct c.in-Err.fault (g.S.Site.fault_count c.args.site.now)
          (g.S.Site.fault_count c.find_book.new.site)
          c.in-Err.ensures.cause;
    })
