use Rattle.chk_site.specs.History.{Every}
use Rattle.chk_site.proofs.Runs.{adds_then, every_join}
use Rattle.chk_world.specs.JobSteps.{IsOf}
use Rattle.chk_book.specs.Books.{book_view}
use Rattle.chk_book.specs.declared.book.Book.{Book as Struct}
use Rattle.chk_ctl_cat.specs.declared.stream.Came.{Came}
use Rattle.chk_ctl_cat.specs.Looking.{LooksOrSays}
use Rattle.chk_ctl_cat.proofs.StreamLemmas.{reads_own, load_last, load_cause, done_last, done_cause}
use Rattle.chk_ctl_streams.specs.Following.{unread, read}
use Rattle.chk_ctl_streams.proofs.following.look_on.Goals as goal

pub returns-in-Ok : goal.returns-in-Ok
returns-in-Ok g c = record {
  told = read (book_view c.in-Ok.book) c.in-Ok.ensures.told c.print_past.ensures.told;
  own = adds_then (Every (IsOf LooksOrSays)) (reads_own c.in-Ok.ensures.own)
      c.print_past.ensures.own
      (λ a b history p q. every_join (IsOf LooksOrSays) b a history p q);
  last = done_last Came c.print_past.result c.in-Ok.ensures.own c.print_past.ensures.last;
  cause = done_cause Came c.print_past.result (g.S.Site.fault_count c.args.site.now)
      (g.S.Site.fault_count c.find_book.new.site)
      (g.S.Site.fault_count c.print_past.new.site) c.in-Ok.ensures.cause
      c.print_past.ensures.cause;
}

pub returns-in-Err : goal.returns-in-Err
returns-in-Err g c =
    rw c.look_of.ensures
    (record {
      told = unread c.in-Err.fault c.in-Err.ensures.told;
      own = reads_own c.in-Err.ensures.own;
      last = load_last Came Struct c.in-Err.fault c.in-Err.ensures.last;
      cause = load_cause Came Struct c.in-Err.fault (g.S.Site.fault_count c.args.site.now)
          (g.S.Site.fault_count c.find_book.new.site) c.in-Err.ensures.cause;
    })
