use Rattle.chk_book.specs.Books.{book_view}
use Rattle.chk_book.specs.declared.book.Book.{Book as Struct}
use Rattle.chk_ctl_cat.proofs.StreamLemmas.{reads_own, load_last, load_cause, done_last, done_cause}
use Rattle.chk_ctl_streams.specs.Listing.{beside, no_archive}
use Rattle.chk_ctl_streams.proofs.Listed.{own_then}
use Rattle.chk_ctl_streams.proofs.streams.print_streams.Goals as goal

pub returns-in-Ok : goal.returns-in-Ok
returns-in-Ok g c = record {
  told = beside (book_view c.in-Ok.book) c.in-Ok.ensures.told c.print_beside.ensures.told;
  own = own_then c.in-Ok.ensures.own c.print_beside.ensures.own;
  last = done_last (Unit {0}) c.print_beside.result c.in-Ok.ensures.own
      c.print_beside.ensures.last;
  cause = done_cause (Unit {0}) c.print_beside.result (g.S.Site.fault_count c.args.site.now)
      (g.S.Site.fault_count c.find_book.new.site)
      (g.S.Site.fault_count c.print_beside.new.site) c.in-Ok.ensures.cause
      c.print_beside.ensures.cause;
}

pub returns-in-Err : goal.returns-in-Err
returns-in-Err g c =
    rw c.look_of.ensures
    (record {
      told = no_archive c.in-Err.fault c.in-Err.ensures.told;
      own = reads_own c.in-Err.ensures.own;
      last = load_last (Unit {0}) Struct c.in-Err.fault c.in-Err.ensures.last;
      cause = load_cause (Unit {0}) Struct c.in-Err.fault (g.S.Site.fault_count c.args.site.now)
          (g.S.Site.fault_count c.find_book.new.site)
          c.in-Err.ensures.cause;
    })
