use Rattle.chk_book.specs.Books.{book_view}
use Rattle.chk_ctl_verify.proofs.Causes.{cause_then}
use Rattle.chk_ctl_verify.proofs.Seen.{ok_as}
use Rattle.chk_ctl_verify.proofs.Steps.{reads_own, then_quiet}
use Rattle.chk_ctl_verify.specs.Books.{by_book, no_book}
use Rattle.chk_ctl_verify.proofs.books.look_at_segment.Goals as goal

pub returns-in-Ok : goal.returns-in-Ok
returns-in-Ok g c =
    record {
      told = ok_as c.look_if_named.result (λ found x. by_book (book_view c.in-Ok.book)
          c.in-Ok.ensures.told x) c.look_if_named.ensures.told;
      own = then_quiet (reads_own c.in-Ok.ensures.own) c.look_if_named.ensures.own;
      cause = cause_then c.look_if_named.result (g.S.Site.fault_count c.args.site.now)
          (g.S.Site.fault_count c.find_book.new.site) (g.S.Site.fault_count
          c.look_if_named.new.site) c.in-Ok.ensures.cause c.look_if_named.ensures.cause;
    }

pub returns-in-Err-Damaged : goal.returns-in-Err-Damaged
returns-in-Err-Damaged g c =
    record {
      told = no_book _ _ (rw c.in-Err-Damaged.field-0-is at c.in-Err-Damaged.ensures.told);
      own = reads_own c.in-Err-Damaged.ensures.own;
      cause = rw c.in-Err-Damaged.field-0-is at c.in-Err-Damaged.ensures.cause;
    }

pub returns-in-Err-Outside : goal.returns-in-Err-Outside
returns-in-Err-Outside g c =
    record {
      told = tt;
      own = reads_own c.in-Err-Outside.ensures.own;
      cause = rw c.in-Err-Outside.field-0-is at c.in-Err-Outside.ensures.cause;
    }

pub returns-in-Err-Spent : goal.returns-in-Err-Spent
returns-in-Err-Spent g c =
    record {
      told = tt;
      own = reads_own c.in-Err-Spent.ensures.own;
      cause = rw c.in-Err-Spent.field-0-is at c.in-Err-Spent.ensures.cause;
    }

pub returns : goal.returns
returns g c =
    record {
      told = tt;
      own = reads_own c.in-Err-NoMemory.ensures.own;
      cause = rw c.in-Err-NoMemory.field-0-is at c.in-Err-NoMemory.ensures.cause;
    }
