use Rattle.chk_replace.specs.Replace.{LeavesFile}
use Rattle.chk_join.proofs.StraysGone.{stays_gone, gone_so, quiet_copies, other_segment}
use Rattle.chk_world.specs.JobSteps.{SparesFile}
use Rattle.std.proofs.Common.{Ok, subst, sym}
use Rattle.chk_site.proofs.Leads.{leads_as, leads_then}
use Rattle.chk_book.specs.Books.{book_view}
use Rattle.chk_record_reader.specs.Segments.{names_of}
use Rattle.chk_record_reader.specs.Merging.{SparesBoth}
use Rattle.chk_join_sources.specs.Reading.{AreAmong}
use Rattle.chk_join_sources.specs.Copying.{joined_segment, Copies}
use Rattle.chk_join.specs.Working.{TidiesBy, PreparesBy}
use Rattle.chk_join.specs.declared.preparing.Prepared.{Prepared}
use Rattle.chk_archive_parts.proofs.Works.{works_as}
use Rattle.chk_book.proofs.Works.{works_then, own_of}
use Rattle.chk_join.proofs.Apart.{chunk_most}
use Rattle.chk_join.proofs.Chain.{stays_over, untold}
use Rattle.chk_join.proofs.Folders.{has_order, quiet_tidy, folders_joined, copies_prepare}
use Rattle.chk_join.proofs.Folders.{tidies_prepare, cause_job, not_tidied, not_tidied_works}
use Rattle.chk_join.proofs.preparing.join_tidied.Goals as goal

pub returns-in-Ok-clause-raw : goal.returns-in-Ok-clause-raw
returns-in-Ok-clause-raw g c all held covers ia ib =
    let b = book_view c.args.joined.now in
    let left = c.args.left.now in
    let right = c.args.right.now in
    leads_then
    (stays_over (TidiesBy b) all held (joined_segment b.next) covers.settled (quiet_tidy all held left right b covers)
    (own_of (TidiesBy b) (Ok tt) c.in-Ok.ensures.works))
    (leads_as (λ h x. x)
    (folders_joined held left right (book_view c.args.lefts.now) (book_view c.args.rights.now) b.next ia ib c.join_books.result)
    (c.join_books.ensures.raw all held covers.settled (covers.apart b.next)
    (subst (λ x. AreAmong all (names_of left x)) (sym ia.is) covers.left_names)
    (subst (λ x. AreAmong all (names_of right x)) (sym ib.is) covers.right_names)
    (chunk_most left c.requires.left) (chunk_most right c.requires.right)
    (has_order held left (book_view c.args.lefts.now) ia) (has_order held right (book_view c.args.rights.now) ib)))

pub returns-in-Ok-clause-works : goal.returns-in-Ok-clause-works
returns-in-Ok-clause-works g c =
    let b = book_view c.args.joined.now in
    works_then (PreparesBy b) (Ok tt) c.join_books.result
    (works_as (TidiesBy b) (PreparesBy b) (tidies_prepare b) (Ok tt) c.in-Ok.ensures.works)
    (works_as (Copies b.next) (PreparesBy b) (copies_prepare b) c.join_books.result c.join_books.ensures.works)

pub returns-in-Err-clause-raw : goal.returns-in-Err-clause-raw
returns-in-Err-clause-raw g c all held covers ia ib =
    let b = book_view c.args.joined.now in
    rw c.from.ensures
    (untold (SparesBoth all (joined_segment b.next)) c.in-Err.ensures.works
    (λ h. not_tidied held c.args.left.now c.args.right.now b.next c.in-Err.fault h))

pub returns-in-Err-clause-works : goal.returns-in-Err-clause-works
returns-in-Err-clause-works g c =
    rw c.from.ensures (not_tidied_works (book_view c.args.joined.now) c.in-Err.fault c.in-Err.ensures.works)

pub returns-in-Err-clause-cause : goal.returns-in-Err-clause-cause
returns-in-Err-clause-cause g c =
    rw c.from.ensures
    (cause_job Prepared c.in-Err.fault (g.S.Site.fault_count c.args.site.now) (g.S.Site.fault_count c.tidy.new.site)
    c.in-Err.ensures.cause)

pub returns-in-Ok-clause-stands : goal.returns-in-Ok-clause-stands
returns-in-Ok-clause-stands g c =
    leads_then (untold (SparesFile (joined_segment c.args.joined.now.next)) c.in-Ok.ensures.works (λ h. tt))
    c.join_books.ensures.stands

pub returns-in-Err-clause-stands : goal.returns-in-Err-clause-stands
returns-in-Err-clause-stands g c =
    untold (SparesFile (joined_segment c.args.joined.now.next)) c.in-Err.ensures.works (λ h. tt)

pub returns-in-Ok-clause-clean : goal.returns-in-Ok-clause-clean
returns-in-Ok-clause-clean g c k stray count apart =
    let b = book_view c.args.joined.now in
    leads_then (c.in-Ok.ensures.clean k stray)
    (leads_as (λ h x. x) (λ h x. gone_so k c.join_books.result h x)
    (stays_gone k (Copies b.next) (quiet_copies k b.next (other_segment k b.next stray.0 count apart))
    (own_of (Copies b.next) c.join_books.result c.join_books.ensures.works)))

pub returns-in-Err-clause-clean : goal.returns-in-Err-clause-clean
returns-in-Err-clause-clean g c k stray count apart =
    untold (LeavesFile (joined_segment k)) c.in-Err.ensures.works (λ h. tt)
