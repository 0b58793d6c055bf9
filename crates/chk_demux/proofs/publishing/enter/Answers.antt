use Rattle.std.proofs.Common.{sym, subst, None}
use Rattle.chk_site.specs.Site.{Adds}
use Rattle.chk_site.specs.Runs.{Leads}
use Rattle.chk_site.proofs.Leads.{leads_none}
use Rattle.chk_world.specs.Places.{As}
use Rattle.chk_world.specs.Sight.{job, AtJob}
use Rattle.chk_book.specs.Books.{book_view}
use Rattle.chk_demux.specs.Demuxed.{WritesBook}
use Rattle.chk_demux.specs.Working.{EndsSo}
use Rattle.chk_demux.specs.Writes.{SoFar}
use Rattle.chk_demux.specs.Entering.{Entered}
use Rattle.chk_demux.proofs.Ends.{at_as}
use Rattle.chk_demux.proofs.Entries.{none_entered}
use Rattle.chk_book.proofs.Works.{works_none}
use Rattle.chk_demux.proofs.publishing.enter.Goals as goal

pub returns-in-Some-clause-told : goal.returns-in-Some-clause-told
returns-in-Some-clause-told g c stamped v outs free may =
    let b = book_view c.args.book.now in
    subst (λ o. Adds (g.S.Site.told c.args.site.now) (g.S.Site.told c.enter_segment.new.site)
    (Leads (As stamped job) (AtJob stamped (SoFar v outs o))
    (EndsSo stamped (λ (t : Unit {0}) u. Entered v b outs o u) c.enter_segment.result))) (sym c.in-Some.is)
    (c.enter_segment.ensures.told stamped v outs free may)

pub returns-in-None-clause-told : goal.returns-in-None-clause-told
returns-in-None-clause-told g c stamped v outs free may =
    let b = book_view c.args.book.now in
    let now = g.S.Site.told c.args.site.now in
    subst (λ o. Adds now now (Leads (As stamped job) (AtJob stamped (SoFar v outs o)) (AtJob stamped (λ u. Entered v b outs o u))))
    (sym c.in-None.is)
    (leads_none now (λ h k. at_as stamped (SoFar v outs None) (λ u. Entered v b outs None u)
    (λ u p. none_entered stamped v b outs free may u p) h k))

pub returns-in-None-clause-works : goal.returns-in-None-clause-works
returns-in-None-clause-works g c =
    works_none (WritesBook (book_view c.args.book.now).next) tt (g.S.Site.told c.args.site.now)
