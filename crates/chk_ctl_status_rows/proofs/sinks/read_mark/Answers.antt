use Rattle.std.proofs.Common.{List, ℕ, Some, None, Ok, Err, subst, sym}
use Rattle.chk_site.specs.Once.{TakenOnce}
use Rattle.chk_site.specs.Site.{bytes_given}
use Rattle.chk_ctl_status_rows.specs.Sinks.{mark_read, mark_unread, read_once, SeesMark}
use Rattle.chk_ctl_status_rows.proofs.sinks.read_mark.Goals as goal

pub returns-in-Ok-clause-told : goal.returns-in-Ok-clause-told
returns-in-Ok-clause-told g c =
    let old = g.S.Site.told c.args.site.now in
    let new = g.S.Site.told c.read_once.new.site in
    subst (λ (n : ℕ). SeesMark c.args.who.now c.args.stem c.args.written (Ok (Some (record {
      stem = c.args.stem;
      written = c.args.written;
      committed = n;
      quiet = None;
    }))) old new) (sym c.marked.ensures)
    (mark_read (subst (λ (p : List ℕ). TakenOnce {V = List ℕ} (read_once c.args.who.now p)
    bytes_given (Ok c.in-Ok.mark) old new) c.requires.path c.in-Ok.ensures.told))

pub returns-in-Err-clause-told : goal.returns-in-Err-clause-told
returns-in-Err-clause-told g c =
    mark_unread (subst (λ (p : List ℕ). TakenOnce {V = List ℕ} (read_once c.args.who.now p)
    bytes_given (Err c.in-Err.fault) (g.S.Site.told c.args.site.now)
    (g.S.Site.told c.read_once.new.site)) c.requires.path c.in-Err.ensures.told)
