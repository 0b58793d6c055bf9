use Rattle.std.proofs.Common.{subst, sym, refl, Err}
use Rattle.std.proofs.lemmas.Result.{err_from_is_err_and}
use Rattle.chk_record_index.specs.Faults.{JobCause}
use Rattle.chk_book.specs.Books.{book_view}
use Rattle.chk_site.proofs.Runs.{adds_as}
use Rattle.chk_record_index.specs.declared.fault.JobFault.TheVariants.{Spent}
use Rattle.chk_demux.specs.Running.{RunsOn}
use Rattle.chk_demux.specs.Working.{Worked}
use Rattle.chk_demux.specs.Writes.{IsWriter}
use Rattle.chk_demux.specs.declared.report.DemuxReport.{DemuxReport}
use Rattle.chk_demux.specs.Splitting.{texts}
use Rattle.chk_demux.proofs.Ends.{cause_behind}
use Rattle.chk_demux.proofs.RawReads.{split_refused, split_spent, split_on, clear_refused, clear_spent, clear_on}
use Rattle.chk_demux.proofs.RunFacts.{can_run}
use Rattle.chk_demux.proofs.RunSteps.{nothing_put, some_lack, none_lack, none_left, not_split, all_ran, enters}
use Rattle.chk_archive_parts.proofs.Works.{works_result}
use Rattle.std.proofs.Common.{ℕ}
use Rattle.chk_record_index.proofs.Causes.{shows_first}
use Rattle.chk_demux.specs.Shown.{IsUnsoundFrom}
use Rattle.chk_record_reader.proofs.Causes.{shows_written as shows_opened}
use Rattle.chk_demux.proofs.NewHeads.{reads_spend, writes_spend, puts_spend}
use Rattle.chk_demux.proofs.run.split_archive.Goals as goal

pub split_named-requires-clause-writer : goal.split_named-requires-clause-writer
split_named-requires-clause-writer g c =
    subst (IsWriter (book_view c.args.book.now).next) (sym c.new-output.ensures.segmenter) tt

pub returns-in_err-left-clause-told : goal.returns-in_err-left-clause-told
returns-in_err-left-clause-told g c stamped v named ready =
    let q = err_from_is_err_and c.from_residual.result c.from_residual.ensures.1 in
    let a = book_view c.args.archive.now in
    let b = book_view c.args.book.now in
    let types = texts c.args.types.now in
    let k = can_run stamped types named a b v ready in
    rw (q.1, q.2)
    (not_split stamped types a b v k c.split_named.new.output c.split_named.result
    (c.split_named.ensures.told stamped v k.cs k.can (nothing_put v c.new-output.result c.new-output.ensures.taken
    c.new-output.ensures.entries c.new-output.ensures.segmenter))
    c.in_err-left.field-0.0 c.in_err-left.was)

-- ---- no number is left for what was put

pub returns-then-lacks_number-clause-told : goal.returns-then-lacks_number-clause-told
returns-then-lacks_number-clause-told g c stamped v named ready =
    let a = book_view c.args.archive.now in
    let b = book_view c.args.book.now in
    let types = texts c.args.types.now in
    let k = can_run stamped types named a b v ready in
    let n = c.split_named.new.output in
    let lacks = some_lack b.next n.entries c.lacks_number.result c.lacks_number.ensures c.if-lacks_number.true in
    none_left stamped types a b v k n c.split_named.result
    (c.split_named.ensures.told stamped v k.cs k.can (nothing_put v c.new-output.result c.new-output.ensures.taken
    c.new-output.ensures.entries c.new-output.ensures.segmenter))
    c.in_ok-left.left c.in_ok-left.was lacks.0 lacks.1 c.in_ok-left.ensures.writer

pub returns-then-lacks_number-clause-raw : goal.returns-then-lacks_number-clause-raw
returns-then-lacks_number-clause-raw g c held settled counts sorted rises =
    let b = book_view c.args.book.now in
    let n = c.split_named.new.output.entries in
    let lacks = some_lack b.next n c.lacks_number.result c.lacks_number.ensures
    c.if-lacks_number.true in
    split_spent (texts c.args.types.now) (book_view c.args.archive.now) b held
    c.new-output.result.entries n c.split_named.result
    (c.split_named.ensures.raw held settled counts sorted rises) DemuxReport c.in_ok-left.left
    c.in_ok-left.was c.new-output.ensures.entries lacks.1 b.next

pub returns-then-lacks_number-clause-shown : goal.returns-then-lacks_number-clause-shown
returns-then-lacks_number-clause-shown g c sorted = adds_as _ c.split_named.ensures.works (λ added history x. tt)

pub returns-then-lacks_number-clause-works : goal.returns-then-lacks_number-clause-works
returns-then-lacks_number-clause-works g c =
    adds_as (Worked {T = DemuxReport} RunsOn (Err (Spent (book_view c.args.book.now).next))) c.split_named.ensures.works
    (λ added history w. record { own = w.own; pieces = w.pieces; last = tt })

pub returns-then-lacks_number-clause-cause : goal.returns-then-lacks_number-clause-cause
returns-then-lacks_number-clause-cause g c = c.in_ok-left.ensures.cause

pub returns-in_err-left-clause-raw : goal.returns-in_err-left-clause-raw
returns-in_err-left-clause-raw g c held settled counts sorted rises =
    let q = err_from_is_err_and c.from_residual.result c.from_residual.ensures.1 in
    rw (q.1, q.2)
    (split_refused (texts c.args.types.now) (book_view c.args.archive.now) (book_view c.args.book.now) held
    c.new-output.result.entries c.split_named.new.output.entries c.split_named.result
    (c.split_named.ensures.raw held settled counts sorted rises) DemuxReport c.in_err-left.field-0.0
    c.in_err-left.ensures.only c.in_err-left.was)

pub returns-clause-raw : goal.returns-clause-raw
returns-clause-raw g c held settled counts sorted rises =
    split_on (texts c.args.types.now) (book_view c.args.archive.now) (book_view c.args.book.now) held
    c.new-output.result.entries c.split_named.new.output.entries c.split_named.result
    (c.split_named.ensures.raw held settled counts sorted rises)
    c.in_ok-left.left c.in_ok-left.was c.enter_output.result c.enter_output.ensures.only c.enter_output.ensures.works

pub returns-in_err-left-clause-works : goal.returns-in_err-left-clause-works
returns-in_err-left-clause-works g c =
    let q = err_from_is_err_and c.from_residual.result c.from_residual.ensures.1 in
    rw (q.1, q.2)
    (works_result DemuxReport RunsOn c.split_named.result c.in_err-left.field-0.0 c.in_err-left.was
    c.split_named.ensures.works)

pub returns-in_err-left-clause-cause : goal.returns-in_err-left-clause-cause
returns-in_err-left-clause-cause g c =
    let q = err_from_is_err_and c.from_residual.result c.from_residual.ensures.1 in
    let old = g.S.Site.fault_count c.args.site.now in
    rw (q.1, q.2)
    (cause_behind DemuxReport c.split_named.result c.in_err-left.field-0.0 c.in_err-left.was old old
    (g.S.Site.fault_count c.split_named.new.site) refl c.split_named.ensures.cause)

pub returns-clause-told : goal.returns-clause-told
returns-clause-told g c stamped v named ready =
    let a = book_view c.args.archive.now in
    let b = book_view c.args.book.now in
    let types = texts c.args.types.now in
    let k = can_run stamped types named a b v ready in
    all_ran stamped types a b v k c.split_named.new.output c.split_named.result
    (c.split_named.ensures.told stamped v k.cs k.can (nothing_put v c.new-output.result c.new-output.ensures.taken
    c.new-output.ensures.entries c.new-output.ensures.segmenter))
    c.in_ok-left.left c.in_ok-left.was
    (none_lack b.next c.split_named.new.output.entries c.lacks_number.result c.lacks_number.ensures c.if-lacks_number.false)
    c.enter_output.result c.enter_output.ensures.works
    (λ outs. c.enter_output.ensures.told stamped v outs) c.enter_output.ensures.counts

pub returns-clause-works : goal.returns-clause-works
returns-clause-works g c =
    enters (book_view c.args.book.now).next c.split_named.result c.enter_output.result
    c.split_named.ensures.works c.enter_output.ensures.works

pub returns-clause-cause : goal.returns-clause-cause
returns-clause-cause g c =
    subst (λ n. JobCause n (g.S.Site.fault_count c.enter_output.new.site) c.enter_output.result)
    c.in_ok-left.ensures.cause c.enter_output.ensures.cause

pub returns-in_err-left-clause-shown : goal.returns-in_err-left-clause-shown
returns-in_err-left-clause-shown g c sorted =
    let q = err_from_is_err_and c.from_residual.result c.from_residual.ensures.1 in
    rw (q.1, q.2)
    (shows_first DemuxReport ℕ (IsUnsoundFrom (book_view c.args.archive.now)) c.in_err-left.field-0.0
    (c.in_err-left.ensures.shown sorted))

pub returns-clause-shown : goal.returns-clause-shown
returns-clause-shown g c sorted =
    shows_opened (IsUnsoundFrom (book_view c.args.archive.now)) c.enter_output.result c.enter_output.ensures.only
    (enters (book_view c.args.book.now).next c.split_named.result c.enter_output.result c.split_named.ensures.works
    c.enter_output.ensures.works)

pub returns-in_err-left-clause-spent : goal.returns-in_err-left-clause-spent
returns-in_err-left-clause-spent g c sorted =
    let q = err_from_is_err_and c.from_residual.result c.from_residual.ensures.1 in
    rw (q.1, q.2)
    (reads_spend DemuxReport (book_view c.args.archive.now) (book_view c.args.book.now)
    c.in_err-left.field-0.0 c.in_err-left.ensures.only c.split_named.ensures.works)

pub returns-then-lacks_number-clause-spent : goal.returns-then-lacks_number-clause-spent
returns-then-lacks_number-clause-spent g c sorted =
    let b = book_view c.args.book.now in
    let n = c.split_named.new.output.entries in
    let lacks = some_lack b.next n c.lacks_number.result c.lacks_number.ensures
    c.if-lacks_number.true in
    puts_spend DemuxReport (book_view c.args.archive.now) b c.in_ok-left.left
    c.new-output.result.entries n c.new-output.ensures.entries lacks.1 lacks.0
    (c.in_ok-left.ensures.due sorted)

pub returns-clause-spent : goal.returns-clause-spent
returns-clause-spent g c sorted =
    writes_spend (book_view c.args.archive.now) (book_view c.args.book.now) c.enter_output.result
    c.enter_output.ensures.only
    (enters (book_view c.args.book.now).next c.split_named.result c.enter_output.result
    c.split_named.ensures.works c.enter_output.ensures.works)

-- ---- whatever the older files are

pub returns-in_err-left-clause-older : goal.returns-in_err-left-clause-older
returns-in_err-left-clause-older g c held k enough settled counts sorted rises =
    let q = err_from_is_err_and c.from_residual.result c.from_residual.ensures.1 in
    rw (q.1, q.2)
    (clear_refused ℕ DemuxReport c.split_named.result c.in_err-left.field-0.0 c.in_err-left.was
    (c.split_named.ensures.older held k enough settled counts sorted rises))

pub returns-then-lacks_number-clause-older : goal.returns-then-lacks_number-clause-older
returns-then-lacks_number-clause-older g c held k enough settled counts sorted rises =
    clear_spent ℕ DemuxReport c.split_named.result (book_view c.args.book.now).next
    (c.split_named.ensures.older held k enough settled counts sorted rises)

pub returns-clause-older : goal.returns-clause-older
returns-clause-older g c held k enough settled counts sorted rises =
    clear_on c.split_named.result c.enter_output.result c.enter_output.ensures.only
    (c.split_named.ensures.older held k enough settled counts sorted rises) c.enter_output.ensures.works
