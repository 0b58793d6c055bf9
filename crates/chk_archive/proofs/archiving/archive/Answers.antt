use Rattle.std.proofs.Common.{Err, List, ℕ, Option, sym, subst}
use Rattle.std.proofs.lemmas.Result.{err_from_is_err_and}
use Rattle.chk_site.specs.Files.{File}
use Rattle.chk_site.specs.Runs.{Leads}
use Rattle.chk_site.specs.Site.{Adds}
use Rattle.chk_site.proofs.Leads.{leads_then}
use Rattle.chk_world.specs.JobSteps.{IsOf}
use Rattle.chk_world.specs.Names.{Name}
use Rattle.chk_world.specs.Places.{As}
use Rattle.chk_world.specs.Sight.{job, AtJob}
use Rattle.chk_record_index.specs.Faults.{job_fault}
use Rattle.chk_record_index.specs.Pieces.{AsksInPieces}
use Rattle.chk_record_index.proofs.Gathering.{every_then}
use Rattle.chk_book.specs.Books.{book_view}
use Rattle.chk_archive_parts.proofs.StepKinds.{as_kind, no_reads, fails_behind}
use Rattle.chk_archive.specs.Archived.{ArchivesBy}
use Rattle.chk_archive.specs.Reporting.{report_result}
use Rattle.chk_archive.specs.Running.{FinishesBy}
use Rattle.chk_archive.specs.Shown.{GivesNames}
use Rattle.chk_archive.specs.Sinks.{OwnAre, ShowsSinks, ListsSinks}
use Rattle.chk_archive.specs.declared.report.Report.{Report as Struct}
use Rattle.chk_site.proofs.Runs.{adds_as}
use Rattle.chk_archive.proofs.Holding.{held_since}
use Rattle.chk_archive.proofs.Lasts.{as_fails}
use Rattle.chk_archive.proofs.OnceListed.{at_ok, given_between, refused_before, refused_then, listed_between}
use Rattle.chk_archive.proofs.RunKinds.{of_listing, of_finish, finish_lists_none, listing_reads_none}
use Rattle.chk_archive.proofs.Settled.{listing_fails, is_ready, is_archived}
use Rattle.chk_archive.proofs.Shown.{archived_bad, archived_fails, archived_so}
use Rattle.chk_archive.proofs.archiving.archive.Goals as goal

pub returns-in_err-book-clause-told : goal.returns-in_err-book-clause-told
returns-in_err-book-clause-told g c stamped loaded =
    let q = err_from_is_err_and c.from_residual.result c.from_residual.ensures.1 in
    rw (q.1, q.2) (c.in_err-book.ensures.told stamped loaded)

pub returns-in_err-book-clause-once : goal.returns-in_err-book-clause-once
returns-in_err-book-clause-once g c =
    let q = err_from_is_err_and c.from_residual.result c.from_residual.ensures.1 in
    rw (q.1, q.2) (refused_before Struct c.in_err-book.field-0.0 c.settle.ensures.none)

pub returns-in_err-names-clause-told : goal.returns-in_err-names-clause-told
returns-in_err-names-clause-told g c stamped loaded =
    let q = err_from_is_err_and c.from_residual-in_err-names.result c.from_residual-in_err-names.ensures.1 in
    rw (q.1, q.2)
    (leads_then (c.in_ok-book.ensures.told stamped loaded)
    (listing_fails stamped loaded (book_view c.in_ok-book.book) c.in_err-names.field-0.0 c.list_sinks.ensures.own
    (λ own. c.in_err-names.ensures.refused stamped own)))

pub returns-in_err-names-clause-own : goal.returns-in_err-names-clause-own
returns-in_err-names-clause-own g c =
    every_then (IsOf ArchivesBy) c.settle.ensures.own (as_kind ListsSinks ArchivesBy of_listing c.list_sinks.ensures.own)

pub returns-in_err-names-clause-once : goal.returns-in_err-names-clause-once
returns-in_err-names-clause-once g c =
    let q = err_from_is_err_and c.from_residual-in_err-names.result c.from_residual-in_err-names.ensures.1 in
    rw (q.1, q.2)
    (refused_then (Unit {0}) Struct c.in_err-names.field-0.0 (job_fault c.in_err-names.field-0.0)
    c.settle.ensures.none c.in_err-names.ensures.once)

pub returns-in_err-names-clause-pieces : goal.returns-in_err-names-clause-pieces
returns-in_err-names-clause-pieces g c =
    every_then AsksInPieces c.settle.ensures.pieces (no_reads ListsSinks listing_reads_none c.list_sinks.ensures.own)

pub returns-in_err-names-clause-last : goal.returns-in_err-names-clause-last
returns-in_err-names-clause-last g c =
    let q = err_from_is_err_and c.from_residual-in_err-names.result c.from_residual-in_err-names.ensures.1 in
    rw (q.1, q.2)
    (fails_behind {T = Struct} (Err (job_fault c.in_err-names.field-0.0)) c.settle.ensures.own
    (as_fails (Unit {0}) Struct c.in_err-names.field-0.0 c.in_err-names.ensures.last))

pub returns-clause-told : goal.returns-clause-told
returns-clause-told g c stamped loaded =
    let b = book_view c.in_ok-book.book in
    let names = c.as_slice.result.now in
    let old = g.S.Site.told c.settle.new.site in
    let new = g.S.Site.told c.list_sinks.new.site in
    let listed : (own : Name → Option File)
    → Adds old new (Leads (As stamped job) (AtJob stamped (OwnAre own)) (AtJob stamped (ShowsSinks own names))) =
    subst (λ (ns : List (List ℕ)). (own : Name → Option File)
    → Adds old new (Leads (As stamped job) (AtJob stamped (OwnAre own)) (AtJob stamped (ShowsSinks own ns))))
    (sym c.as_slice.ensures.value) (λ own. c.in_ok-names.ensures.listed stamped own) in
    leads_then (c.in_ok-book.ensures.told stamped loaded)
    (leads_then (is_ready stamped loaded b names c.list_sinks.ensures.own listed)
    (is_archived stamped loaded b names (report_result c.finish.result) c.finish.ensures.own
    (λ v at strays few. c.finish.ensures.told stamped loaded v at strays few)))

pub returns-clause-own : goal.returns-clause-own
returns-clause-own g c =
    every_then (IsOf ArchivesBy)
    (every_then (IsOf ArchivesBy) c.settle.ensures.own (as_kind ListsSinks ArchivesBy of_listing c.list_sinks.ensures.own))
    (as_kind FinishesBy ArchivesBy of_finish c.finish.ensures.own)

pub returns-clause-once : goal.returns-clause-once
returns-clause-once g c =
    listed_between c.in_ok-names.names c.finish.result c.settle.ensures.none c.in_ok-names.ensures.once
    (finish_lists_none c.finish.ensures.own)

pub returns-clause-pieces : goal.returns-clause-pieces
returns-clause-pieces g c =
    every_then AsksInPieces
    (every_then AsksInPieces c.settle.ensures.pieces (no_reads ListsSinks listing_reads_none c.list_sinks.ensures.own))
    c.finish.ensures.pieces

pub returns-clause-last : goal.returns-clause-last
returns-clause-last g c =
    fails_behind c.finish.result
    (every_then (IsOf ArchivesBy) c.settle.ensures.own (as_kind ListsSinks ArchivesBy of_listing c.list_sinks.ensures.own))
    c.finish.ensures.last

pub returns-clause-given : goal.returns-clause-given
returns-clause-given g c =
    at_ok c.finish.result _
    (given_between c.settle.ensures.none c.in_ok-names.ensures.given (finish_lists_none c.finish.ensures.own))

pub returns-in_err-book-clause-shown : goal.returns-in_err-book-clause-shown
returns-in_err-book-clause-shown g c =
    let q = err_from_is_err_and c.from_residual.result c.from_residual.ensures.1 in
    rw (q.1, q.2) (archived_bad Struct c.in_err-book.field-0.0 c.in_err-book.ensures.shown)

pub returns-in_err-names-clause-shown : goal.returns-in_err-names-clause-shown
returns-in_err-names-clause-shown g c =
    let q = err_from_is_err_and c.from_residual-in_err-names.result c.from_residual-in_err-names.ensures.1 in
    rw (q.1, q.2)
    (archived_fails Struct c.in_err-names.field-0.0
    (every_then (IsOf ArchivesBy) c.settle.ensures.own (as_kind ListsSinks ArchivesBy of_listing c.list_sinks.ensures.own)))

pub returns-clause-shown : goal.returns-clause-shown
returns-clause-shown g c =
    archived_so (book_view c.in_ok-book.book) c.as_slice.result.now c.finish.result c.in_ok-book.ensures.shown
    (subst (λ ns. Adds (g.S.Site.told c.settle.new.site) (g.S.Site.told c.list_sinks.new.site) (GivesNames ns))
    (sym c.as_slice.ensures.value) c.in_ok-names.ensures.names)
    c.finish.ensures.shown

pub returns-in_err-book-clause-holds : goal.returns-in_err-book-clause-holds
returns-in_err-book-clause-holds g c =
    let q = err_from_is_err_and c.from_residual.result c.from_residual.ensures.1 in
    rw (q.1, q.2) (adds_as _ c.settle.ensures.own (λ added history x. tt))

pub returns-in_err-names-clause-holds : goal.returns-in_err-names-clause-holds
returns-in_err-names-clause-holds g c =
    let q = err_from_is_err_and c.from_residual-in_err-names.result c.from_residual-in_err-names.ensures.1 in
    rw (q.1, q.2)
    (adds_as _
    (every_then (IsOf ArchivesBy) c.settle.ensures.own (as_kind ListsSinks ArchivesBy of_listing c.list_sinks.ensures.own))
    (λ added history x. tt))

pub returns-clause-holds : goal.returns-clause-holds
returns-clause-holds g c =
    held_since (book_view c.in_ok-book.book) c.as_slice.result.now c.finish.result
    c.in_ok-book.ensures.shown
    (subst (λ ns. Adds (g.S.Site.told c.settle.new.site) (g.S.Site.told c.list_sinks.new.site) (GivesNames ns))
    (sym c.as_slice.ensures.value) c.in_ok-names.ensures.names)
    c.finish.ensures.own (λ v sound settled. c.finish.ensures.holds v sound settled)
