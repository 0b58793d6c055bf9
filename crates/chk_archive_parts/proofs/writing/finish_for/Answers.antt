use Rattle.std.proofs.Common.{sym, subst}
use Rattle.chk_site.specs.Site.{Adds}
use Rattle.chk_site.specs.Runs.{Leads, anyhow}
use Rattle.chk_site.proofs.Leads.{leads_as}
use Rattle.chk_world.specs.JobSteps.{SparesFile}
use Rattle.chk_book.specs.Books.{book_view}
use Rattle.chk_book.specs.Folders.{segment_name}
use Rattle.chk_book.specs.Segmenting.{HoldsSegment}
use Rattle.chk_archive_parts.specs.Writes.{HasEntered}
use Rattle.chk_archive_parts.proofs.WholeSegments.{for_parts, for_aside, aside_is_other}
use Rattle.chk_archive_parts.proofs.writing.finish_for.Goals as goal

pub returns-in-Parts-clause-raw : goal.returns-in-Parts-clause-raw
returns-in-Parts-clause-raw g c w at =
    let b = book_view c.args.book.now in
    let new = book_view c.finish.new.book in
    subst (λ p. Adds (g.S.Site.told c.args.site.now) (g.S.Site.told c.finish.new.site)
    (Leads (anyhow (SparesFile (segment_name w.folder w.number))) (HoldsSegment w) (HasEntered p w b new c.finish.result)))
    (sym c.in-Parts.is)
    (leads_as (λ h k. k) (λ h k. for_parts c.finish.result w b new h k) (c.finish.ensures.raw w at))

pub returns-in-Aside-clause-raw : goal.returns-in-Aside-clause-raw
returns-in-Aside-clause-raw g c w at =
    let b = book_view c.args.book.now in
    let new = book_view c.finish_aside.new.book in
    subst (λ p. Adds (g.S.Site.told c.args.site.now) (g.S.Site.told c.finish_aside.new.site)
    (Leads (anyhow (SparesFile (segment_name w.folder w.number))) (HoldsSegment w) (HasEntered p w b new c.finish_aside.result)))
    (sym c.in-Aside.is)
    (leads_as (λ h k. k) (λ h k. for_aside c.finish_aside.result w b new h k) (c.finish_aside.ensures.raw w at))

pub returns-in-Parts-clause-aside : goal.returns-in-Parts-clause-aside
returns-in-Parts-clause-aside g c = λ is. c.finish.ensures.aside

pub returns-in-Aside-clause-aside : goal.returns-in-Aside-clause-aside
returns-in-Aside-clause-aside g c = λ is. absurd (aside_is_other c.args.purpose c.in-Aside.is is)
