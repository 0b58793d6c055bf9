use Rattle.std.proofs.Common.{Ok, Err, refl}
use Rattle.std.proofs.lemmas.Result.{err_from_is_err_and}
use Rattle.chk_site.proofs.Runs.{adds_as}
use Rattle.chk_site.proofs.Leads.{leads_none, leads_as}
use Rattle.chk_world.specs.JobSteps.{IsOf}
use Rattle.chk_record_index.specs.Faults.{job_fault, FailsLast}
use Rattle.chk_record_index.specs.Pieces.{AsksInPieces}
use Rattle.chk_record_index.proofs.Gathering.{every_then}
use Rattle.chk_book.specs.Books.{book_view}
use Rattle.chk_archive_parts.proofs.StepKinds.{as_kind, no_reads, fails_behind}
use Rattle.chk_archive.specs.Archived.{MergesBy}
use Rattle.chk_archive.specs.Running.{FinishesBy}
use Rattle.chk_archive.specs.Sinks.{RemovesShown}
use Rattle.chk_archive.specs.declared.report.Report.{Report as Struct}
use Rattle.chk_archive.proofs.Holding.{held_reported, held_unreported}
use Rattle.chk_archive.proofs.Lasts.{as_fails}
use Rattle.chk_archive.proofs.Finished.{removals_read_nothing, of_take, of_removal, take_fails, removal_fails, run_finished}
use Rattle.chk_archive.proofs.Shown.{taken_as, taken_fails, taken_kept}
use Rattle.chk_archive.specs.Listed.{sources_in}
use Rattle.chk_archive.specs.declared.taking.Taken.{Taken as TakenStruct}
use Rattle.chk_archive.proofs.run.finish.Goals as goal

pub returns-in_err-counted-clause-told : goal.returns-in_err-counted-clause-told
returns-in_err-counted-clause-told g c stamped loaded v at strays few =
    let q = err_from_is_err_and c.from_residual.result c.from_residual.ensures.1 in
    rw (q.1, q.2) (leads_none (g.S.Site.told c.args.site.now) (λ h k. k.legal))

pub returns-in_err-took-clause-told : goal.returns-in_err-took-clause-told
returns-in_err-took-clause-told g c stamped loaded v at strays few =
    let q = err_from_is_err_and c.from_residual-in_err-took.result c.from_residual-in_err-took.ensures.1 in
    rw (q.1, q.2)
    (leads_as (λ h k. k)
    (λ h k. take_fails stamped v (book_view c.args.book) (book_view c.take_in.new.book) loaded c.in_err-took.field-0.0 h k)
    (c.in_err-took.ensures.told stamped v at))

pub returns-in_err-took-clause-own : goal.returns-in_err-took-clause-own
returns-in_err-took-clause-own g c = as_kind MergesBy FinishesBy of_take c.take_in.ensures.own

pub returns-in_err-remove_sinks-clause-told : goal.returns-in_err-remove_sinks-clause-told
returns-in_err-remove_sinks-clause-told g c stamped loaded v at strays few =
    let q = err_from_is_err_and c.from_residual-in_err-remove_sinks.result c.from_residual-in_err-remove_sinks.ensures.1 in
    rw (q.1, q.2)
    (removal_fails stamped c.args.names.now (book_view c.args.book) v at loaded (book_view c.take_in.new.book)
    c.in_ok-took.took c.remove_sinks.result (c.in_ok-took.ensures.told stamped v at)
    c.remove_sinks.ensures.own (λ own. c.remove_sinks.ensures.told stamped own) c.in_err-remove_sinks.field-0.0 c.in_err-remove_sinks.was)

pub returns-in_err-remove_sinks-clause-own : goal.returns-in_err-remove_sinks-clause-own
returns-in_err-remove_sinks-clause-own g c =
    every_then (IsOf FinishesBy) (as_kind MergesBy FinishesBy of_take c.take_in.ensures.own)
    (as_kind (RemovesShown c.args.names.now) FinishesBy (of_removal c.args.names.now) c.remove_sinks.ensures.own)

pub returns-in_err-remove_sinks-clause-pieces : goal.returns-in_err-remove_sinks-clause-pieces
returns-in_err-remove_sinks-clause-pieces g c =
    every_then AsksInPieces c.take_in.ensures.pieces
    (no_reads (RemovesShown c.args.names.now) (removals_read_nothing c.args.names.now) c.remove_sinks.ensures.own)

pub returns-in_err-remove_sinks-clause-last : goal.returns-in_err-remove_sinks-clause-last
returns-in_err-remove_sinks-clause-last g c =
    let q = err_from_is_err_and c.from_residual-in_err-remove_sinks.result c.from_residual-in_err-remove_sinks.ensures.1 in
    rw (q.1, q.2)
    (fails_behind {T = Struct} (Err (job_fault c.in_err-remove_sinks.field-0.0)) c.take_in.ensures.own
    (as_fails (Unit {0}) Struct c.in_err-remove_sinks.field-0.0 c.in_err-remove_sinks.ensures.last))

pub returns-clause-told : goal.returns-clause-told
returns-clause-told g c stamped loaded v at strays few =
    run_finished stamped c.args.names.now (book_view c.args.book) v at loaded (book_view c.take_in.new.book)
    c.in_ok-took.took c.remove_sinks.result (c.in_ok-took.ensures.told stamped v at)
    c.remove_sinks.ensures.own (λ own. c.remove_sinks.ensures.told stamped own)
    c.in_ok-counted.counted c.in_ok-counted.ensures strays few c.in_ok-remove_sinks.field-0 c.in_ok-remove_sinks.was

pub returns-clause-own : goal.returns-clause-own
returns-clause-own g c =
    every_then (IsOf FinishesBy) (as_kind MergesBy FinishesBy of_take c.take_in.ensures.own)
    (as_kind (RemovesShown c.args.names.now) FinishesBy (of_removal c.args.names.now) c.remove_sinks.ensures.own)

pub returns-clause-pieces : goal.returns-clause-pieces
returns-clause-pieces g c =
    every_then AsksInPieces c.take_in.ensures.pieces
    (no_reads (RemovesShown c.args.names.now) (removals_read_nothing c.args.names.now) c.remove_sinks.ensures.own)

pub returns-clause-last : goal.returns-clause-last
returns-clause-last g c =
    adds_as (FailsLast {T = Struct} (Ok (record {
      unclosed = c.in_ok-counted.counted.unclosed;
      first_unclosed = c.in_ok-counted.counted.first_unclosed;
      taken = c.in_ok-took.took.taken;
      held = c.in_ok-took.took.held;
      removed = c.in_ok-counted.counted.closed;
      ends = c.take_in.new.book.ends;
    })))
    (every_then (IsOf FinishesBy) (as_kind MergesBy FinishesBy of_take c.take_in.ensures.own)
    (as_kind (RemovesShown c.args.names.now) FinishesBy (of_removal c.args.names.now) c.remove_sinks.ensures.own))
    (λ added history k. tt)

pub returns-in_err-took-clause-shown : goal.returns-in_err-took-clause-shown
returns-in_err-took-clause-shown g c =
    let q = err_from_is_err_and c.from_residual-in_err-took.result c.from_residual-in_err-took.ensures.1 in
    let b = book_view c.args.book in
    rw (q.1, q.2)
    (taken_as Struct TakenStruct b (sources_in b c.args.names.now) c.in_err-took.field-0.0
    c.in_err-took.ensures.shown)

pub returns-in_err-remove_sinks-clause-shown : goal.returns-in_err-remove_sinks-clause-shown
returns-in_err-remove_sinks-clause-shown g c =
    let q = err_from_is_err_and c.from_residual-in_err-remove_sinks.result c.from_residual-in_err-remove_sinks.ensures.1 in
    let b = book_view c.args.book in
    rw (q.1, q.2)
    (taken_fails Struct b (sources_in b c.args.names.now) c.in_err-remove_sinks.field-0.0
    (every_then (IsOf FinishesBy) (as_kind MergesBy FinishesBy of_take c.take_in.ensures.own)
    (as_kind (RemovesShown c.args.names.now) FinishesBy (of_removal c.args.names.now) c.remove_sinks.ensures.own)))

pub returns-clause-shown : goal.returns-clause-shown
returns-clause-shown g c =
    let b = book_view c.args.book in
    taken_kept Struct TakenStruct b (sources_in b c.args.names.now) (record {
      unclosed = c.in_ok-counted.counted.unclosed;
      first_unclosed = c.in_ok-counted.counted.first_unclosed;
      taken = c.in_ok-took.took.taken;
      held = c.in_ok-took.took.held;
      removed = c.in_ok-counted.counted.closed;
      ends = c.take_in.new.book.ends;
    }) c.in_ok-took.took c.in_ok-took.ensures.shown c.remove_sinks.ensures.own

pub returns-in_err-counted-clause-holds : goal.returns-in_err-counted-clause-holds
returns-in_err-counted-clause-holds g c v sound settled =
    let q = err_from_is_err_and c.from_residual.result c.from_residual.ensures.1 in
    rw (q.1, q.2) (leads_none (g.S.Site.told c.args.site.now) (λ h k. tt))

pub returns-in_err-took-clause-holds : goal.returns-in_err-took-clause-holds
returns-in_err-took-clause-holds g c v sound settled =
    let q = err_from_is_err_and c.from_residual-in_err-took.result c.from_residual-in_err-took.ensures.1 in
    rw (q.1, q.2)
    (leads_as (λ h k. k) (λ h k. tt) (c.in_err-took.ensures.holds v sound settled))

pub returns-in_err-remove_sinks-clause-holds : goal.returns-in_err-remove_sinks-clause-holds
returns-in_err-remove_sinks-clause-holds g c v sound settled =
    let q = err_from_is_err_and c.from_residual-in_err-remove_sinks.result c.from_residual-in_err-remove_sinks.ensures.1 in
    rw (q.1, q.2)
    (held_unreported (book_view c.args.book) v (sources_in (book_view c.args.book) c.args.names.now)
    (job_fault c.in_err-remove_sinks.field-0.0)
    (every_then (IsOf FinishesBy) (as_kind MergesBy FinishesBy of_take c.take_in.ensures.own)
    (as_kind (RemovesShown c.args.names.now) FinishesBy (of_removal c.args.names.now) c.remove_sinks.ensures.own)))

pub returns-clause-holds : goal.returns-clause-holds
returns-clause-holds g c v sound settled =
    let b = book_view c.args.book in
    held_reported b v (sources_in b c.args.names.now) c.in_ok-took.took (record {
      unclosed = c.in_ok-counted.counted.unclosed;
      first_unclosed = c.in_ok-counted.counted.first_unclosed;
      taken = c.in_ok-took.took.taken;
      held = c.in_ok-took.took.held;
      removed = c.in_ok-counted.counted.closed;
      ends = c.take_in.new.book.ends;
    }) refl (c.in_ok-took.ensures.holds v sound settled) c.remove_sinks.ensures.own
