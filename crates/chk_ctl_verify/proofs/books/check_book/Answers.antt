use Rattle.std.proofs.Common.{Bool, Err, List, subst, ℕ, ◌∙◌}
use Rattle.chk_site.specs.declared.acts.OutsideFault.TheVariants as site
use Rattle.chk_ctl_verify.specs.Books.{bad, book_unread, sound, sound_so_far, DamageChecked}
use Rattle.chk_ctl_verify.specs.declared.books.Folder.{Folder}
use Rattle.chk_ctl_verify.proofs.Causes.{cause_then, err_cause}
use Rattle.chk_ctl_verify.proofs.Steps.{reads_around, reads_own, then_own}
use Rattle.chk_ctl_verify.proofs.books.check_book.Goals as goal

pub returns-in-Ok-check_left : goal.returns-in-Ok-check_left
returns-in-Ok-check_left g c = record {
  told = sound c.in-Ok.ensures.told c.in-Ok-check_left.ensures.told;
  own = then_own (reads_around c.in-Ok.ensures.own) c.in-Ok-check_left.ensures.own;
  cause = c.in-Ok-check_left.ensures.cause ∙ c.in-Ok.ensures.cause;
}

pub returns-in-Err : goal.returns-in-Err
returns-in-Err g c = record {
  told = sound_so_far c.in-Ok.ensures.told c.in-Err.ensures.told;
  own = then_own (reads_around c.in-Ok.ensures.own) c.in-Err.ensures.own;
  cause = cause_then {A = Folder} (Err c.in-Err.fault) (g.S.Site.fault_count c.args.site.now)
      (g.S.Site.fault_count c.verify.new.site) (g.S.Site.fault_count c.check_left.new.site)
      c.in-Ok.ensures.cause
      (err_cause Bool Folder c.in-Err.fault (g.S.Site.fault_count c.verify.new.site)
      (g.S.Site.fault_count c.check_left.new.site) c.in-Err.ensures.cause);
}

pub returns-in-Err-Damaged : goal.returns-in-Err-Damaged
returns-in-Err-Damaged g c =
    let h = c.in-Err-Damaged in
    record {
      told = bad h.name h.at (rw h.field-0-is at h.ensures.told)
          (subst (λ (n : List ℕ). DamageChecked c.args.folder.now n h.at c.check_damaged.result
          (g.S.Site.told c.verify.new.site) (g.S.Site.told c.check_damaged.new.site))
          c.as_str.ensures.text c.check_damaged.ensures.told);
      own = then_own (reads_around h.ensures.own) c.check_damaged.ensures.own;
      cause = cause_then c.check_damaged.result (g.S.Site.fault_count c.args.site.now)
          (g.S.Site.fault_count c.verify.new.site) (g.S.Site.fault_count c.check_damaged.new.site)
          (rw h.field-0-is at h.ensures.cause) c.check_damaged.ensures.cause;
    }

pub returns-in-Err-Outside : goal.returns-in-Err-Outside
returns-in-Err-Outside g c = record {
  told = book_unread (site.Outside c.in-Err-Outside.call) (reads_own c.in-Err-Outside.ensures.own);
  own = reads_around c.in-Err-Outside.ensures.own;
  cause = rw c.in-Err-Outside.field-0-is at c.in-Err-Outside.ensures.cause;
}

pub returns-in-Err-Spent : goal.returns-in-Err-Spent
returns-in-Err-Spent g c = record {
  told = book_unread site.NoMemory (reads_own c.in-Err-Spent.ensures.own);
  own = reads_around c.in-Err-Spent.ensures.own;
  cause = rw c.in-Err-Spent.field-0-is at c.in-Err-Spent.ensures.cause;
}

pub returns-in-Err-NoMemory : goal.returns-in-Err-NoMemory
returns-in-Err-NoMemory g c = record {
  told = book_unread site.NoMemory (reads_own c.in-Err-NoMemory.ensures.own);
  own = reads_around c.in-Err-NoMemory.ensures.own;
  cause = rw c.in-Err-NoMemory.field-0-is at c.in-Err-NoMemory.ensures.cause;
}
