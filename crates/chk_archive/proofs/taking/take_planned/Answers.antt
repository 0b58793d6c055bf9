use Rattle.std.proofs.Common.{◌∙◌, List, ap, sym, subst, length}
use Rattle.std.proofs.lemmas.Result.{err_from_is_err_and}
use Rattle.chk_site.proofs.Leads.{leads_as}
use Rattle.chk_world.proofs.Each.{Each}
use Rattle.chk_world.specs.ArchiveRuns.{in_order, once}
use Rattle.chk_world.specs.JobSteps.{IsOf, ReadsFile}
use Rattle.chk_record_index.specs.Pieces.{AsksInPieces}
use Rattle.chk_record_index.proofs.Gathering.{every_then}
use Rattle.chk_book.specs.Books.{book_view}
use Rattle.chk_archive_plan.specs.Passes.{AreSpans}
use Rattle.chk_archive_parts.specs.Cuts.{cut_chunks, AreWithin}
use Rattle.chk_archive_parts.specs.Kept.{AreSpansWithin, past_chunks, IsFirst, AreKeptOnce, KeepsFirsts}
use Rattle.chk_archive_parts.proofs.StepKinds.{as_kind, fails_behind}
use Rattle.chk_archive.specs.Archived.{MergesBy, merge_reads}
use Rattle.chk_archive.specs.Shown.{LacksOver}
use Rattle.chk_archive.proofs.SpentCauses.{spent_reading, planned_spent}
use Rattle.chk_archive.proofs.Holding.{kept_held}
use Rattle.chk_archive.proofs.FoundPlan.{Found}
use Rattle.chk_archive.proofs.NextBook.{Cs}
use Rattle.chk_archive.proofs.TakenIn.{records_are, kept_so, kept_fails, then_taken}
use Rattle.chk_record_index.proofs.Causes.{shows_first, shows_behind}
use Rattle.chk_record_reader.specs.Gone.{IsGoneIn}
use Rattle.chk_record_reader.proofs.Causes.{late_gone_in}
use Rattle.chk_archive.specs.declared.taking.Taken.{Taken as TakenStruct}
use Rattle.chk_archive_parts.specs.declared.cuts.Cut.{Cut as CutStruct}
use Rattle.chk_archive.proofs.taking.take_planned.Goals as goal

pub kept_of-requires-clause-spans : goal.kept_of-requires-clause-spans
kept_of-requires-clause-spans g c =
    subst (AreSpansWithin (length c.args.heads.now)) (sym c.as_slice.ensures.value) c.requires.plan.spans_within

pub write_planned-requires-clause-kept : goal.write_planned-requires-clause-kept
write_planned-requires-clause-kept g c =
    subst (AreWithin (length c.args.heads.now)) (sym c.as_slice-2.ensures) c.in_ok-kept.ensures.within

pub returns-in_err-kept-clause-told : goal.returns-in_err-kept-clause-told
returns-in_err-kept-clause-told g c stamped v names at sorted =
    let q = err_from_is_err_and c.from_residual.result c.from_residual.ensures.1 in
    let b = book_view c.args.book.now in
    let files = c.args.files.now in
    let heads = c.args.heads.now in
    let p = c.args.planned.now in
    rw (q.1, q.2)
    (leads_as (λ h k. k)
    (λ h k. kept_fails stamped v b b files (Cs stamped names b v at) c.as_slice.result.now c.in_err-kept.field-0.0
    c.in_err-kept.ensures.only h k)
    (c.in_err-kept.ensures.told stamped v (Found stamped names b v at) c.requires.plan.known
    (records_are stamped names b v at files heads c.args.old sorted)
    (subst (λ s. AreSpans c.requires.plan.known heads 0 s (length heads)) (sym c.as_slice.ensures.value) c.requires.plan.spans)))

pub returns-in_err-kept-clause-own : goal.returns-in_err-kept-clause-own
returns-in_err-kept-clause-own g c = as_kind ReadsFile MergesBy (λ call k. merge_reads call k) c.kept_of.ensures.own

pub returns-clause-told : goal.returns-clause-told
returns-clause-told g c stamped v names at sorted =
    let b = book_view c.args.book.now in
    let files = c.args.files.now in
    let heads = c.args.heads.now in
    let p = c.args.planned.now in
    let cs = Cs stamped names b v at in
    let spans = c.as_slice.result.now in
    let cuts = c.in_ok-kept.kept in
    then_taken stamped v b (book_view c.write_planned.new.book) files
    (AreKeptOnce cs spans cuts)
    c.write_planned.result
    (c.in_ok-kept.ensures.told stamped v (Found stamped names b v at) c.requires.plan.known
    (records_are stamped names b v at files heads c.args.old sorted)
    (subst (λ s. AreSpans c.requires.plan.known heads 0 s (length heads)) (sym c.as_slice.ensures.value) c.requires.plan.spans))
    c.write_planned.ensures.own
    (λ is. c.write_planned.ensures.told stamped v names at sorted
    (ap (cut_chunks cs) c.as_slice-2.ensures ∙ (is.0 ∙ (ap (λ s. once (past_chunks cs s)) c.as_slice.ensures.value
    ∙ kept_so stamped names b v at files heads c.args.old sorted p c.requires.plan)))
    (subst (Each (IsFirst cs p.spans.items)) (sym c.as_slice-2.ensures)
    (subst (λ s. Each (IsFirst cs s) cuts) c.as_slice.ensures.value is.1)))

pub returns-clause-own : goal.returns-clause-own
returns-clause-own g c =
    every_then (IsOf MergesBy) (as_kind ReadsFile MergesBy (λ call k. merge_reads call k) c.kept_of.ensures.own)
    c.write_planned.ensures.own

pub returns-clause-pieces : goal.returns-clause-pieces
returns-clause-pieces g c = every_then AsksInPieces c.kept_of.ensures.pieces c.write_planned.ensures.pieces

pub returns-clause-last : goal.returns-clause-last
returns-clause-last g c = fails_behind c.write_planned.result c.kept_of.ensures.pieces c.write_planned.ensures.last

pub returns-in_err-kept-clause-shown : goal.returns-in_err-kept-clause-shown
returns-in_err-kept-clause-shown g c =
    let q = err_from_is_err_and c.from_residual.result c.from_residual.ensures.1 in
    rw (q.1, q.2)
    (shows_first TakenStruct (List CutStruct) (IsGoneIn c.args.files.now c.args.heads.now) c.in_err-kept.field-0.0 c.in_err-kept.ensures.shown)

pub returns-clause-shown : goal.returns-clause-shown
returns-clause-shown g c =
    let files = c.args.files.now in
    let heads = c.args.heads.now in
    shows_behind (IsGoneIn files heads) (late_gone_in files heads) c.write_planned.result c.kept_of.ensures.pieces
    c.write_planned.ensures.shown

pub returns-in_err-kept-clause-spent : goal.returns-in_err-kept-clause-spent
returns-in_err-kept-clause-spent g c =
    let q = err_from_is_err_and c.from_residual.result c.from_residual.ensures.1 in
    rw (q.1, q.2)
    (spent_reading (LacksOver (book_view c.args.book.now) c.args.heads.now c.args.old
    c.args.planned.now) c.in_err-kept.field-0.0
    c.in_err-kept.ensures.only)

pub returns-clause-spent : goal.returns-clause-spent
returns-clause-spent g c =
    let heads = c.args.heads.now in
    let p = c.args.planned.now in
    planned_spent (book_view c.args.book.now) heads c.args.old p c.as_slice-2.result.now
    c.write_planned.result c.requires.plan
    (subst (AreWithin (length heads)) (sym c.as_slice-2.ensures) c.in_ok-kept.ensures.within)
    (subst (KeepsFirsts heads p.spans.items) (sym c.as_slice-2.ensures)
    (subst (λ ss. KeepsFirsts heads ss c.in_ok-kept.kept) c.as_slice.ensures.value
    c.in_ok-kept.ensures.among)) c.write_planned.ensures.spent

pub returns-in_err-kept-clause-raw : goal.returns-in_err-kept-clause-raw
returns-in_err-kept-clause-raw g c v found records =
    let q = err_from_is_err_and c.from_residual.result c.from_residual.ensures.1 in
    let heads = c.args.heads.now in
    let known = c.requires.plan.known in
    rw (q.1, q.2)
    (leads_as (λ h k. k) (λ h k. tt)
    (c.in_err-kept.ensures.raw v found known records
    (subst (λ s. AreSpans known heads 0 s (length heads)) (sym c.as_slice.ensures.value)
    c.requires.plan.spans)))

pub returns-clause-raw : goal.returns-clause-raw
returns-clause-raw g c v found records =
    let heads = c.args.heads.now in
    let known = c.requires.plan.known in
    kept_held (book_view c.args.book.now) heads (in_order found) c.args.planned.now c.requires.plan
    c.as_slice.result.now c.in_ok-kept.kept c.as_slice-2.result.now c.write_planned.result
    c.as_slice.ensures.value c.as_slice-2.ensures c.write_planned.ensures.count
    (c.in_ok-kept.ensures.raw v found known records
    (subst (λ s. AreSpans known heads 0 s (length heads)) (sym c.as_slice.ensures.value)
    c.requires.plan.spans))
    c.write_planned.ensures.own
