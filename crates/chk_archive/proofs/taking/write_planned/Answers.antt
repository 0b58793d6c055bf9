use Rattle.std.proofs.Common.{◌≡◌, ◌∙◌, Ok, Err, ap, sym, subst, length}
use Rattle.std.specs.Prelude.{codes}
use Rattle.std.proofs.lemmas.List.{length-map}
use Rattle.std.proofs.lemmas.Result.{err_from_is_err_and}
use Rattle.chk_site.proofs.Runs.{adds_as}
use Rattle.chk_site.proofs.Leads.{leads_none, leads_as}
use Rattle.chk_world.specs.JobSteps.{IsOf}
use Rattle.chk_record_index.specs.Faults.{FailsLast, job_fault}
use Rattle.chk_record_index.specs.Pieces.{AsksInPieces}
use Rattle.chk_record_index.proofs.Gathering.{every_then}
use Rattle.chk_book.specs.Books.{book_view}
use Rattle.chk_archive_parts.specs.Cuts.{cut_chunk, cut_chunks}
use Rattle.chk_archive_parts.proofs.StepKinds.{as_kind, no_reads, fails_behind}
use Rattle.chk_archive_parts.proofs.Published.{replaces_no_reads}
use Rattle.chk_archive.specs.Archived.{MergesBy, ReplacesBook}
use Rattle.chk_archive.specs.Shown.{IfSpent, LacksFor}
use Rattle.chk_archive.specs.Taking.{stays_aside}
use Rattle.chk_archive.specs.declared.taking.Taken.{Taken}
use Rattle.chk_archive.proofs.Lasts.{as_fails}
use Rattle.chk_archive.proofs.NextBook.{Cs}
use Rattle.chk_archive.proofs.SpentCauses.{spent_outside}
use Rattle.chk_archive.proofs.TakenIn.{records_are, can_be, parts_so, gain_so, asks_so, stays_whole, prepare_fails, publish_fails, published_all, of_replace}
use Rattle.chk_record_index.proofs.Causes.{shows_outside, shows_ok}
use Rattle.chk_record_reader.specs.Gone.{IsGoneIn}
use Rattle.chk_archive.proofs.taking.write_planned.Goals as goal

pub returns-in_err-held-clause-told : goal.returns-in_err-held-clause-told
returns-in_err-held-clause-told g c stamped v names at sorted aside first =
    let q = err_from_is_err_and c.from_residual.result c.from_residual.ensures.1 in
    rw (q.1, q.2) (leads_none (g.S.Site.told c.args.site.now) (λ h k. k.legal))

pub returns-in_err-changed-clause-told : goal.returns-in_err-changed-clause-told
returns-in_err-changed-clause-told g c stamped v names at sorted aside first =
    let q = err_from_is_err_and c.from_residual-in_err-changed.result c.from_residual-in_err-changed.ensures.1 in
    let b = book_view c.args.book.now in
    let files = c.args.files.now in
    let heads = c.args.heads.now in
    let old = c.args.old in
    let p = c.args.planned.now in
    let kept = c.args.kept.now in
    let cs = Cs stamped names b v at in
    let cuts = c.as_slice-cuts.result.now in
    let can = can_be stamped names b v at files heads old sorted kept c.requires.kept in
    let new = book_view c.prepare.new.book in
    rw (q.1, q.2)
    (leads_as (λ h k. k)
    (λ h k. prepare_fails stamped names b v at new (cut_chunks cs cuts) (cut_chunks cs kept)
    (ap (cut_chunks cs) c.as_slice-cuts.ensures ∙ parts_so stamped names b v at files heads old sorted p c.requires.plan) aside
    (stays_aside b heads old kept) (stays_whole v b files heads old cs kept can)
    (asks_so stamped names b v at files heads old sorted p c.requires.plan kept first aside) c.prepare.result
    c.in_err-changed.field-0.0 c.in_err-changed.was h k)
    (c.prepare.ensures.told stamped v cs (records_are stamped names b v at files heads old sorted) can))

pub returns-in_err-publish_if-clause-told : goal.returns-in_err-publish_if-clause-told
returns-in_err-publish_if-clause-told g c stamped v names at sorted aside first =
    let q = err_from_is_err_and c.from_residual-in_err-publish_if.result c.from_residual-in_err-publish_if.ensures.1 in
    let b = book_view c.args.book.now in
    let files = c.args.files.now in
    let heads = c.args.heads.now in
    let old = c.args.old in
    let p = c.args.planned.now in
    let kept = c.args.kept.now in
    let cs = Cs stamped names b v at in
    let cuts = c.as_slice-cuts.result.now in
    let can = can_be stamped names b v at files heads old sorted kept c.requires.kept in
    let new = book_view c.prepare.new.book in
    rw (q.1, q.2)
    (publish_fails stamped names b v at new (cut_chunks cs cuts) (cut_chunks cs kept)
    (ap (cut_chunks cs) c.as_slice-cuts.ensures ∙ parts_so stamped names b v at files heads old sorted p c.requires.plan) aside
    (stays_aside b heads old kept) (stays_whole v b files heads old cs kept can)
    (asks_so stamped names b v at files heads old sorted p c.requires.plan kept first aside) c.in_ok-changed.changed
    c.prepare.result c.in_ok-changed.was c.publish_if.result
    (c.prepare.ensures.told stamped v cs (records_are stamped names b v at files heads old sorted) can) c.publish_if.ensures.own
    (λ u may. c.publish_if.ensures.told stamped u may) c.in_err-publish_if.field-0.0 c.in_err-publish_if.was)

pub returns-in_err-publish_if-clause-own : goal.returns-in_err-publish_if-clause-own
returns-in_err-publish_if-clause-own g c =
    every_then (IsOf MergesBy) c.prepare.ensures.own (as_kind ReplacesBook MergesBy of_replace c.publish_if.ensures.own)

pub returns-in_err-publish_if-clause-pieces : goal.returns-in_err-publish_if-clause-pieces
returns-in_err-publish_if-clause-pieces g c =
    every_then AsksInPieces c.prepare.ensures.pieces (no_reads ReplacesBook (replaces_no_reads (codes "archive")) c.publish_if.ensures.own)

pub returns-in_err-publish_if-clause-last : goal.returns-in_err-publish_if-clause-last
returns-in_err-publish_if-clause-last g c =
    let q = err_from_is_err_and c.from_residual-in_err-publish_if.result c.from_residual-in_err-publish_if.ensures.1 in
    rw (q.1, q.2)
    (fails_behind {T = Taken} (Err (job_fault c.in_err-publish_if.field-0.0)) c.prepare.ensures.own
    (as_fails (Unit {0}) Taken c.in_err-publish_if.field-0.0 c.in_err-publish_if.ensures.last))

pub returns-clause-told : goal.returns-clause-told
returns-clause-told g c stamped v names at sorted aside first =
    let b = book_view c.args.book.now in
    let files = c.args.files.now in
    let heads = c.args.heads.now in
    let old = c.args.old in
    let p = c.args.planned.now in
    let kept = c.args.kept.now in
    let cs = Cs stamped names b v at in
    let cuts = c.as_slice-cuts.result.now in
    let can = can_be stamped names b v at files heads old sorted kept c.requires.kept in
    let new = book_view c.prepare.new.book in
    let t : Taken = record { taken = p.taken; held = c.in_ok-held.held } in
    let held : c.in_ok-held.held ≡ length (cut_chunks cs kept) = c.in_ok-held.ensures ∙ sym (length-map kept (cut_chunk cs)) in
    published_all stamped names b v at new (cut_chunks cs cuts) (cut_chunks cs kept)
    (ap (cut_chunks cs) c.as_slice-cuts.ensures ∙ parts_so stamped names b v at files heads old sorted p c.requires.plan) aside
    (stays_aside b heads old kept) (stays_whole v b files heads old cs kept can)
    (asks_so stamped names b v at files heads old sorted p c.requires.plan kept first aside) c.in_ok-changed.changed
    c.prepare.result c.in_ok-changed.was c.publish_if.result
    (c.prepare.ensures.told stamped v cs (records_are stamped names b v at files heads old sorted) can) c.publish_if.ensures.own
    (λ u may. c.publish_if.ensures.told stamped u may) t
    (gain_so stamped names b v at files heads old sorted p c.requires.plan) held
    c.in_ok-publish_if.field-0 c.in_ok-publish_if.was

pub returns-clause-own : goal.returns-clause-own
returns-clause-own g c =
    every_then (IsOf MergesBy) c.prepare.ensures.own (as_kind ReplacesBook MergesBy of_replace c.publish_if.ensures.own)

pub returns-clause-pieces : goal.returns-clause-pieces
returns-clause-pieces g c =
    every_then AsksInPieces c.prepare.ensures.pieces (no_reads ReplacesBook (replaces_no_reads (codes "archive")) c.publish_if.ensures.own)

pub returns-clause-last : goal.returns-clause-last
returns-clause-last g c =
    adds_as (FailsLast {T = Taken} (Ok (record { taken = c.args.planned.now.taken; held = c.in_ok-held.held })))
    (every_then (IsOf MergesBy) c.prepare.ensures.own (as_kind ReplacesBook MergesBy of_replace c.publish_if.ensures.own))
    (λ added history k. tt)

pub returns-in_err-publish_if-clause-shown : goal.returns-in_err-publish_if-clause-shown
returns-in_err-publish_if-clause-shown g c =
    let q = err_from_is_err_and c.from_residual-in_err-publish_if.result c.from_residual-in_err-publish_if.ensures.1 in
    rw (q.1, q.2)
    (shows_outside Taken (IsGoneIn c.args.files.now c.args.heads.now) c.in_err-publish_if.field-0.0
    (every_then (IsOf MergesBy) c.prepare.ensures.own (as_kind ReplacesBook MergesBy of_replace c.publish_if.ensures.own)))

pub returns-clause-shown : goal.returns-clause-shown
returns-clause-shown g c =
    let t : Taken = record { taken = c.args.planned.now.taken; held = c.in_ok-held.held } in
    shows_ok (IsGoneIn c.args.files.now c.args.heads.now) t
    (every_then (IsOf MergesBy) c.prepare.ensures.own (as_kind ReplacesBook MergesBy of_replace c.publish_if.ensures.own))

pub returns-in_err-changed-clause-spent : goal.returns-in_err-changed-clause-spent
returns-in_err-changed-clause-spent g c =
    let q = err_from_is_err_and c.from_residual-in_err-changed.result
    c.from_residual-in_err-changed.ensures.1 in
    let b = book_view c.args.book.now in
    rw (q.1, q.2)
    (subst (λ cuts. IfSpent (LacksFor b c.args.heads.now c.args.old cuts c.args.kept.now)
    c.in_err-changed.field-0.0)
    c.as_slice-cuts.ensures c.in_err-changed.ensures.spent)

pub returns-in_err-publish_if-clause-spent : goal.returns-in_err-publish_if-clause-spent
returns-in_err-publish_if-clause-spent g c =
    let q = err_from_is_err_and c.from_residual-in_err-publish_if.result
    c.from_residual-in_err-publish_if.ensures.1 in
    rw (q.1, q.2)
    (spent_outside (LacksFor (book_view c.args.book.now) c.args.heads.now c.args.old
    c.args.planned.now.cuts c.args.kept.now)
    c.in_err-publish_if.field-0.0)
