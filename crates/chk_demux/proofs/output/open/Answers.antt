use Rattle.std.proofs.Common.{sym, subst}
use Rattle.std.specs.Prelude.{codes}
use Rattle.chk_site.specs.Site.{Adds}
use Rattle.chk_site.specs.Runs.{Leads}
use Rattle.chk_site.proofs.Leads.{leads_none}
use Rattle.chk_world.specs.Places.{As}
use Rattle.chk_world.specs.Sight.{job, AtJob}
use Rattle.chk_world.specs.JobSteps.{WritesTo}
use Rattle.chk_book.specs.Books.{book_view}
use Rattle.chk_book.specs.Folders.{segment_name}
use Rattle.chk_demux.specs.Working.{EndsSo}
use Rattle.chk_demux.specs.Writes.{IsSoFar, SoFar}
use Rattle.chk_demux.proofs.OneSegment.{demux_folder, opened, opened_so}
use Rattle.chk_archive_parts.proofs.Works.{worked_writes}
use Rattle.chk_book.proofs.Works.{works_none}
use Rattle.chk_demux.proofs.Shown.{begun_writes}
use Rattle.chk_demux.proofs.output.open.Goals as goal

pub begin_segment-requires : goal.begin_segment-requires
begin_segment-requires g c = demux_folder

pub returns-in-Some-clause-told : goal.returns-in-Some-clause-told
returns-in-Some-clause-told g c stamped v outs free =
    leads_none (g.S.Site.told c.args.site.now)
    (λ h k. subst (λ o. AtJob stamped (SoFar v outs o) h) c.in-Some.is k)

pub returns-in-Some-clause-works : goal.returns-in-Some-clause-works
returns-in-Some-clause-works g c =
    works_none (WritesTo (segment_name (codes "demux") (book_view c.args.book.now).next)) c.in-Some.segmenter
    (g.S.Site.told c.args.site.now)

pub returns-in-None-clause-told : goal.returns-in-None-clause-told
returns-in-None-clause-told g c stamped v outs free =
    let b = book_view c.args.book.now in
    let r = c.begin_segment.result in
    let own = c.begin_segment.ensures.own c.requires.job in
    subst (λ o. Adds (g.S.Site.told c.args.site.now) (g.S.Site.told c.begin_segment.new.site)
    (Leads (As stamped job) (AtJob stamped (SoFar v outs o))
    (EndsSo stamped (λ s u. IsSoFar v outs s u) r)))
    (sym c.in-None.is)
    (opened_so stamped v outs b free r own
    (opened stamped v outs b free c.requires.below r c.begin_segment.ensures.at c.begin_segment.ensures.only
    c.begin_segment.ensures.spent c.begin_segment.ensures.raw own))

pub returns-in-None-clause-works : goal.returns-in-None-clause-works
returns-in-None-clause-works g c =
    worked_writes (segment_name (codes "demux") (book_view c.args.book.now).next) c.begin_segment.result
    (c.begin_segment.ensures.own c.requires.job) c.begin_segment.ensures.last

pub returns-in-None-clause-only : goal.returns-in-None-clause-only
returns-in-None-clause-only g c =
    begun_writes (book_view c.args.book.now) c.begin_segment.result c.requires.below
    c.begin_segment.ensures.only c.begin_segment.ensures.spent
