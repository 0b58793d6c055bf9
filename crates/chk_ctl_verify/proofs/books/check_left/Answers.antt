use Rattle.std.proofs.Common.{List, subst, ℕ}
use Rattle.chk_site.specs.declared.acts.OutsideFault.TheVariants as site
use Rattle.chk_book.specs.Books.{book_view}
use Rattle.chk_ctl_verify.specs.Books.{bad_book, booked, left_unread, ToldUnless}
use Rattle.chk_ctl_verify.proofs.Causes.{cause_then}
use Rattle.chk_ctl_verify.proofs.Steps.{reads_around, reads_own, then_own}
use Rattle.chk_ctl_verify.proofs.books.check_left.Goals as goal

pub returns-in-Ok : goal.returns-in-Ok
returns-in-Ok g c = record {
  told = booked (book_view c.in-Ok.book) c.in-Ok.ensures.told c.check_named.ensures.told;
  own = then_own (reads_around c.in-Ok.ensures.own) c.check_named.ensures.own;
  cause = cause_then c.check_named.result (g.S.Site.fault_count c.args.site.now)
      (g.S.Site.fault_count c.find_book.new.site) (g.S.Site.fault_count c.check_named.new.site)
      c.in-Ok.ensures.cause c.check_named.ensures.cause;
}

pub returns-in-Err-Damaged : goal.returns-in-Err-Damaged
returns-in-Err-Damaged g c =
    let h = c.in-Err-Damaged in
    record {
      told = bad_book h.name h.at (rw h.field-0-is at h.ensures.told)
          (subst (λ (n : List ℕ). ToldUnless c.args.told.now n h.at c.tell_unless.result
          (g.S.Site.told c.find_book.new.site) (g.S.Site.told c.tell_unless.new.site))
          c.as_str.ensures.text c.tell_unless.ensures.told);
      own = then_own (reads_around h.ensures.own) c.tell_unless.ensures.own;
      cause = cause_then c.tell_unless.result (g.S.Site.fault_count c.args.site.now)
          (g.S.Site.fault_count c.find_book.new.site) (g.S.Site.fault_count c.tell_unless.new.site)
          (rw h.field-0-is at h.ensures.cause) c.tell_unless.ensures.cause;
    }

pub returns-in-Err-Outside : goal.returns-in-Err-Outside
returns-in-Err-Outside g c = record {
  told = left_unread (site.Outside c.in-Err-Outside.call) (reads_own c.in-Err-Outside.ensures.own);
  own = reads_around c.in-Err-Outside.ensures.own;
  cause = rw c.in-Err-Outside.field-0-is at c.in-Err-Outside.ensures.cause;
}

pub returns-in-Err-Spent : goal.returns-in-Err-Spent
returns-in-Err-Spent g c = record {
  told = left_unread site.NoMemory (reads_own c.in-Err-Spent.ensures.own);
  own = reads_around c.in-Err-Spent.ensures.own;
  cause = rw c.in-Err-Spent.field-0-is at c.in-Err-Spent.ensures.cause;
}

pub returns-in-Err-NoMemory : goal.returns-in-Err-NoMemory
returns-in-Err-NoMemory g c = record {
  told = left_unread site.NoMemory (reads_own c.in-Err-NoMemory.ensures.own);
  own = reads_around c.in-Err-NoMemory.ensures.own;
  cause = rw c.in-Err-NoMemory.field-0-is at c.in-Err-NoMemory.ensures.cause;
}
