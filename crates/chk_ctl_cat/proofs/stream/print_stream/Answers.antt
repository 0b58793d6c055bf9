use Rattle.std.proofs.Common.{refl, Ok, Err}
use Rattle.chk_book.specs.Books.{book_view}
use Rattle.chk_book.specs.declared.book.Book.{Book as Struct}
use Rattle.chk_ctl_cat.specs.declared.stream.Came.{Came}
use Rattle.chk_ctl_cat.proofs.StreamLemmas.{own_then, reads_own, load_last, load_cause, done_last, done_cause}
use Rattle.chk_ctl_cat.proofs.stream.print_stream.Goals as goal

pub returns-in-Ok : goal.returns-in-Ok
returns-in-Ok g c = record {
  told = record {
    given = Ok (book_view c.in-Ok.book);
    middle = g.S.Site.told c.find_book.new.site;
    read = c.in-Ok.ensures.told;
    went = (c.print_booked.ensures.stays, c.print_booked.ensures.told);
  };
  own = own_then c.in-Ok.ensures.own c.print_booked.ensures.told;
  last = done_last Came c.print_booked.result c.in-Ok.ensures.own c.print_booked.ensures.last;
  cause = done_cause Came c.print_booked.result (g.S.Site.fault_count c.args.site.now) (g.S.Site.fault_count c.find_book.new.site)
      (g.S.Site.fault_count c.print_booked.new.site) c.in-Ok.ensures.cause c.print_booked.ensures.cause;
}

pub returns-in-Err : goal.returns-in-Err
returns-in-Err g c =
    rw c.look_of.ensures
    (record {
      told = record {
        given = Err c.in-Err.fault;
        middle = g.S.Site.told c.find_book.new.site;
        read = c.in-Err.ensures.told;
        went = (refl, refl, refl);
      };
      own = reads_own c.in-Err.ensures.own;
      last = load_last Came Struct c.in-Err.fault c.in-Err.ensures.last;
      cause = load_cause Came Struct c.in-Err.fault (g.S.Site.fault_count c.args.site.now) (g.S.Site.fault_count c.find_book.new.site) c.in-Err.ensures.cause;
    })
