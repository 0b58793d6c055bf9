use Rattle.chk_join.proofs.StraysGone.{leaves_segment, stays_gone, cleaned_so, cleaned_refused}
use Rattle.chk_join.proofs.Finished.{quiet_segment}
use Rattle.chk_join.proofs.Chain.{untold}
use Rattle.std.proofs.Common.{Ok, Err, subst, sym}
use Rattle.chk_site.proofs.Leads.{leads_as, leads_then}
use Rattle.chk_world.specs.JobSteps.{IsOf}
use Rattle.chk_record_index.specs.Pieces.{AsksInPieces}
use Rattle.chk_record_index.proofs.Gathering.{every_then}
use Rattle.chk_archive_parts.specs.Publishing.{ReplacesBookOf}
use Rattle.chk_archive_parts.proofs.StepKinds.{as_kind}
use Rattle.chk_join.specs.Working.{Prepares}
use Rattle.chk_join.specs.Joined.{joined_folder, LeavesFolders}
use Rattle.chk_join.specs.Faults.{IsJoinFault, JoinsBy}
use Rattle.chk_join.specs.declared.preparing.Prepared.TheVariants.{Ready, Differs}
use Rattle.chk_join.specs.declared.preparing.Prepared.{Prepared}
use Rattle.chk_join.specs.declared.report.JoinReport.{JoinReport}
use Rattle.chk_join.proofs.Begun.{joined_book}
use Rattle.chk_book.proofs.Works.{pieces_of as pieces_of_work, own_of}
use Rattle.chk_join.proofs.Whole.{is_first}
use Rattle.chk_join.proofs.Joining.{prepared_kept, published_join, prepares_join, replaces_join}
use Rattle.chk_join.proofs.Joining.{own_so, pieces_so, last_so, join_fails_behind, joins_fault}
use Rattle.chk_join.proofs.Joining.{differ_so, differ_kept, unprepared, unprepared_kept, failed_so}
use Rattle.chk_join.proofs.Joining.{differs_last, cause_so, fault_so, caused_then}
use Rattle.chk_join.proofs.run.join.Goals as goal

pub returns-in-Ok-Ready-clause-raw : goal.returns-in-Ok-Ready-clause-raw
returns-in-Ok-Ready-clause-raw g c held settled =
    let left = c.args.left.now in
    let right = c.args.right.now in
    let p = Ready c.in-Ok-Ready.book c.in-Ok-Ready.report in
    leads_as (λ h x. x) (λ h x. x.0)
    (leads_then
    (prepared_kept held left right c.requires.left c.requires.right settled (Ok p)
    (own_of Prepares (Ok p) (rw c.in-Ok-Ready.field-0-is at c.in-Ok-Ready.ensures.works))
    (rw c.in-Ok-Ready.field-0-is at (c.in-Ok-Ready.ensures.raw held settled)))
    (published_join held left right c.requires.left c.requires.right settled c.in-Ok-Ready.book c.in-Ok-Ready.report
    (rw c.in-Ok-Ready.field-0-is at c.in-Ok-Ready.ensures.counted) c.finish.result c.finish.ensures.only
    (own_so (ReplacesBookOf joined_folder) c.finish.result c.finish.ensures.works)
    (c.finish.ensures.raw (held joined_book) (settled joined_book (is_first held left right)).0)))

pub returns-in-Ok-Ready-clause-kept : goal.returns-in-Ok-Ready-clause-kept
returns-in-Ok-Ready-clause-kept g c held settled =
    let left = c.args.left.now in
    let right = c.args.right.now in
    let p = Ready c.in-Ok-Ready.book c.in-Ok-Ready.report in
    leads_as (λ h x. x) (λ h x. x.1)
    (leads_then
    (prepared_kept held left right c.requires.left c.requires.right settled (Ok p)
    (own_of Prepares (Ok p) (rw c.in-Ok-Ready.field-0-is at c.in-Ok-Ready.ensures.works))
    (rw c.in-Ok-Ready.field-0-is at (c.in-Ok-Ready.ensures.raw held settled)))
    (published_join held left right c.requires.left c.requires.right settled c.in-Ok-Ready.book c.in-Ok-Ready.report
    (rw c.in-Ok-Ready.field-0-is at c.in-Ok-Ready.ensures.counted) c.finish.result c.finish.ensures.only
    (own_so (ReplacesBookOf joined_folder) c.finish.result c.finish.ensures.works)
    (c.finish.ensures.raw (held joined_book) (settled joined_book (is_first held left right)).0)))

pub returns-in-Ok-Ready-clause-own : goal.returns-in-Ok-Ready-clause-own
returns-in-Ok-Ready-clause-own g c =
    every_then (IsOf JoinsBy)
    (as_kind Prepares JoinsBy prepares_join (own_of Prepares (Ok c.in-Ok-Ready.field-0) c.in-Ok-Ready.ensures.works))
    (as_kind (ReplacesBookOf joined_folder) JoinsBy replaces_join
    (own_so (ReplacesBookOf joined_folder) c.finish.result c.finish.ensures.works))

pub returns-in-Ok-Ready-clause-pieces : goal.returns-in-Ok-Ready-clause-pieces
returns-in-Ok-Ready-clause-pieces g c =
    every_then AsksInPieces (pieces_of_work Prepares (Ok c.in-Ok-Ready.field-0) c.in-Ok-Ready.ensures.works)
    (pieces_so (ReplacesBookOf joined_folder) c.finish.result c.finish.ensures.works)

pub returns-in-Ok-Ready-clause-only : goal.returns-in-Ok-Ready-clause-only
returns-in-Ok-Ready-clause-only g c = joins_fault c.finish.result c.finish.ensures.only

pub returns-in-Ok-Ready-clause-last : goal.returns-in-Ok-Ready-clause-last
returns-in-Ok-Ready-clause-last g c =
    join_fails_behind c.finish.result c.in-Ok-Ready.ensures.works
    (last_so (ReplacesBookOf joined_folder) c.finish.result c.finish.ensures.works)

pub returns-in-Ok-Ready-clause-cause : goal.returns-in-Ok-Ready-clause-cause
returns-in-Ok-Ready-clause-cause g c =
    caused_then c.finish.result (g.S.Site.fault_count c.args.site.now) (g.S.Site.fault_count c.prepare.new.site)
    (g.S.Site.fault_count c.finish.new.site) c.in-Ok-Ready.ensures.cause c.finish.ensures.cause

pub returns-in-Ok-Differs-clause-raw : goal.returns-in-Ok-Differs-clause-raw
returns-in-Ok-Differs-clause-raw g c held settled =
    leads_as (λ h x. x)
    (λ h x. differ_so held c.args.left.now c.args.right.now c.requires.left c.requires.right settled c.in-Ok-Differs.found
    c.differing.result c.differing.ensures h x)
    (rw c.in-Ok-Differs.field-0-is at (c.in-Ok-Differs.ensures.raw held settled))

pub returns-in-Ok-Differs-clause-kept : goal.returns-in-Ok-Differs-clause-kept
returns-in-Ok-Differs-clause-kept g c held settled =
    let p = Differs c.in-Ok-Differs.found in
    leads_as (λ h x. x)
    (λ h x. differ_kept held c.args.left.now c.args.right.now c.requires.left c.requires.right settled c.in-Ok-Differs.found
    c.differing.result c.differing.ensures h x.0)
    (prepared_kept held c.args.left.now c.args.right.now c.requires.left c.requires.right settled (Ok p)
    (own_of Prepares (Ok p) (rw c.in-Ok-Differs.field-0-is at c.in-Ok-Differs.ensures.works))
    (rw c.in-Ok-Differs.field-0-is at (c.in-Ok-Differs.ensures.raw held settled)))

pub returns-in-Ok-Differs-clause-own : goal.returns-in-Ok-Differs-clause-own
returns-in-Ok-Differs-clause-own g c =
    as_kind Prepares JoinsBy prepares_join (own_of Prepares (Ok c.in-Ok-Differs.field-0) c.in-Ok-Differs.ensures.works)

pub returns-in-Ok-Differs-clause-pieces : goal.returns-in-Ok-Differs-clause-pieces
returns-in-Ok-Differs-clause-pieces g c =
    pieces_of_work Prepares (Ok c.in-Ok-Differs.field-0) c.in-Ok-Differs.ensures.works

pub returns-in-Ok-Differs-clause-only : goal.returns-in-Ok-Differs-clause-only
returns-in-Ok-Differs-clause-only g c = rw c.differing.ensures tt

pub returns-in-Ok-Differs-clause-last : goal.returns-in-Ok-Differs-clause-last
returns-in-Ok-Differs-clause-last g c =
    differs_last JoinReport c.in-Ok-Differs.found c.differing.result c.differing.ensures c.in-Ok-Differs.ensures.works

pub returns-in-Ok-Differs-clause-cause : goal.returns-in-Ok-Differs-clause-cause
returns-in-Ok-Differs-clause-cause g c = rw c.differing.ensures c.in-Ok-Differs.ensures.cause

pub returns-in-Err-clause-raw : goal.returns-in-Err-clause-raw
returns-in-Err-clause-raw g c held settled =
    leads_as (λ h x. x)
    (λ h x. unprepared held c.args.left.now c.args.right.now c.requires.left c.requires.right settled c.in-Err.fault c.from.result
    c.from.ensures h x)
    (c.in-Err.ensures.raw held settled)

pub returns-in-Err-clause-kept : goal.returns-in-Err-clause-kept
returns-in-Err-clause-kept g c held settled =
    leads_as (λ h x. x)
    (λ h x. unprepared_kept held c.args.left.now c.args.right.now c.requires.left c.requires.right settled c.in-Err.fault
    c.from.result c.from.ensures h x.0)
    (prepared_kept held c.args.left.now c.args.right.now c.requires.left c.requires.right settled (Err c.in-Err.fault)
    (own_of Prepares (Err c.in-Err.fault) c.in-Err.ensures.works) (c.in-Err.ensures.raw held settled))

pub returns-in-Err-clause-own : goal.returns-in-Err-clause-own
returns-in-Err-clause-own g c =
    as_kind Prepares JoinsBy prepares_join (own_of Prepares (Err c.in-Err.fault) c.in-Err.ensures.works)

pub returns-in-Err-clause-pieces : goal.returns-in-Err-clause-pieces
returns-in-Err-clause-pieces g c = pieces_of_work Prepares (Err c.in-Err.fault) c.in-Err.ensures.works

pub returns-in-Err-clause-only : goal.returns-in-Err-clause-only
returns-in-Err-clause-only g c = subst IsJoinFault (sym c.from.ensures) (fault_so c.in-Err.fault)

pub returns-in-Err-clause-last : goal.returns-in-Err-clause-last
returns-in-Err-clause-last g c = failed_so JoinReport c.in-Err.fault c.from.result c.from.ensures c.in-Err.ensures.works

pub returns-in-Err-clause-cause : goal.returns-in-Err-clause-cause
returns-in-Err-clause-cause g c =
    rw c.from.ensures
    (cause_so Prepared JoinReport c.in-Err.fault (g.S.Site.fault_count c.args.site.now)
    (g.S.Site.fault_count c.prepare.new.site) c.in-Err.ensures.cause)

pub returns-in-Ok-Ready-clause-told : goal.returns-in-Ok-Ready-clause-told
returns-in-Ok-Ready-clause-told g c stamped =
    leads_then (rw c.in-Ok-Ready.field-0-is at (c.in-Ok-Ready.ensures.told stamped)) (c.finish.ensures.told stamped)

pub returns-in-Ok-Differs-clause-told : goal.returns-in-Ok-Differs-clause-told
returns-in-Ok-Differs-clause-told g c stamped =
    rw c.in-Ok-Differs.field-0-is at (c.in-Ok-Differs.ensures.told stamped)

pub returns-in-Err-clause-told : goal.returns-in-Err-clause-told
returns-in-Err-clause-told g c stamped = c.in-Err.ensures.told stamped

pub returns-in-Ok-Ready-clause-strays : goal.returns-in-Ok-Ready-clause-strays
returns-in-Ok-Ready-clause-strays g c held k settled stray apart =
    leads_then (c.in-Ok-Ready.ensures.clean held k settled stray apart)
    (leaves_segment c.args.left.now c.args.right.now k
    (leads_as (λ h x. x) (λ h x. cleaned_so k c.finish.result h x)
    (stays_gone k (ReplacesBookOf joined_folder) (quiet_segment k)
    (own_so (ReplacesBookOf joined_folder) c.finish.result c.finish.ensures.works))))

pub returns-in-Ok-Differs-clause-strays : goal.returns-in-Ok-Differs-clause-strays
returns-in-Ok-Differs-clause-strays g c held k settled stray apart =
    rw c.differing.ensures (c.in-Ok-Differs.ensures.clean held k settled stray apart)

pub returns-in-Err-clause-strays : goal.returns-in-Err-clause-strays
returns-in-Err-clause-strays g c held k settled stray apart =
    rw c.from.ensures
    (untold (LeavesFolders c.args.left.now c.args.right.now) c.in-Err.ensures.works
    (λ h. cleaned_refused k c.in-Err.fault h))
