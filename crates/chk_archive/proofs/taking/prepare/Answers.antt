use Rattle.std.proofs.Common.{◌≡◌, Bool, true, false, not, [], Ok, Err, refl, sym, subst, length, true≢false}
use Rattle.std.specs.Prelude.{◌==◌}
use Rattle.chk_site.specs.Site.{Adds}
use Rattle.chk_site.specs.Runs.{Leads}
use Rattle.chk_site.proofs.Runs.{adds_as}
use Rattle.chk_world.specs.Places.{As}
use Rattle.chk_world.specs.Sight.{job, AtJob}
use Rattle.chk_record_index.specs.Faults.{FailsLast}
use Rattle.chk_archive.specs.Shown.{IsAtLast, LacksFor, for_parts}
use Rattle.chk_archive.specs.Taking.{Prepared, stays_aside}
use Rattle.chk_archive.proofs.SpentCauses.{spent_as, lacks_aside}
use Rattle.chk_archive.proofs.Preparing.{none_there}
use Rattle.std.proofs.lemmas.Result.{err_from_is_err_and}
use Rattle.chk_site.proofs.Leads.{leads_as}
use Rattle.chk_world.specs.JobSteps.{IsOf}
use Rattle.chk_record_index.specs.Pieces.{AsksInPieces}
use Rattle.chk_record_index.proofs.Gathering.{every_then}
use Rattle.chk_book.specs.Books.{book_view}
use Rattle.chk_archive_parts.specs.Cuts.{cut_chunks}
use Rattle.chk_archive_parts.proofs.AllFiles.{fails_later}
use Rattle.chk_archive.specs.Archived.{MergesBy}
use Rattle.chk_archive.proofs.Readied.{free_first, parts_fail, both}
use Rattle.chk_record_index.proofs.Causes.{shows_then, shows_ok}
use Rattle.chk_record_reader.specs.Gone.{IsGoneIn}
use Rattle.chk_record_reader.proofs.Causes.{late_gone_in}
use Rattle.chk_archive.proofs.taking.prepare.Goals as goal

pub returns-in_err-take_parts-clause-told : goal.returns-in_err-take_parts-clause-told
returns-in_err-take_parts-clause-told g c stamped v cs records can =
    let p = err_from_is_err_and c.from_residual.result c.from_residual.ensures.1 in
    let b = book_view c.args.book.now in
    let mid = book_view c.take_parts.new.book in
    let parts = cut_chunks cs c.args.cuts.now in
    rw (p.1, p.2)
    (leads_as (λ h k. k)
    (λ h k. parts_fail v b mid c.args.files.now c.args.heads.now c.args.old c.args.kept.now cs
    parts can mid stamped records (stays_aside b c.args.heads.now c.args.old c.args.kept.now) c.take_parts.result c.in_err-take_parts.field-0.0
    c.in_err-take_parts.was h k)
    (c.take_parts.ensures.told stamped v cs records can.book
    (free_first v b mid c.args.files.now c.args.heads.now c.args.old c.args.kept.now cs parts can)))

pub returns-in_err-changed-clause-told : goal.returns-in_err-changed-clause-told
returns-in_err-changed-clause-told g c stamped v cs records can =
    let p = err_from_is_err_and c.from_residual-in_err-changed.result c.from_residual-in_err-changed.ensures.1 in
    let b = book_view c.args.book.now in
    let mid = book_view c.take_parts.new.book in
    let parts = cut_chunks cs c.args.cuts.now in
    rw (p.1, p.2)
    (both v b mid c.args.files.now c.args.heads.now c.args.old c.args.kept.now cs parts can
    (book_view c.keep_aside.new.book) stamped records (stays_aside b c.args.heads.now c.args.old c.args.kept.now) c.in_ok-take_parts.field-0 c.take_parts.result
    c.in_ok-take_parts.was true (λ e. absurd (true≢false e)) (Err c.in_err-changed.field-0.0)
    (c.take_parts.ensures.told stamped v cs records can.book
    (free_first v b mid c.args.files.now c.args.heads.now c.args.old c.args.kept.now cs parts can))
    c.keep_aside.ensures.own
    (λ u still free whole. c.in_err-changed.ensures.told stamped u cs still free whole) refl)

pub returns-in_err-changed-clause-own : goal.returns-in_err-changed-clause-own
returns-in_err-changed-clause-own g c = every_then (IsOf MergesBy) c.take_parts.ensures.own c.keep_aside.ensures.own

pub returns-in_err-changed-clause-pieces : goal.returns-in_err-changed-clause-pieces
returns-in_err-changed-clause-pieces g c = every_then AsksInPieces c.take_parts.ensures.pieces c.keep_aside.ensures.pieces

pub returns-in_err-changed-clause-last : goal.returns-in_err-changed-clause-last
returns-in_err-changed-clause-last g c =
    let p = err_from_is_err_and c.from_residual-in_err-changed.result c.from_residual-in_err-changed.ensures.1 in
    rw (p.1, p.2)
    (fails_later Bool Bool c.in_err-changed.field-0.0 c.take_parts.ensures.pieces c.in_err-changed.ensures.last)

pub returns-clause-told : goal.returns-clause-told
returns-clause-told g c stamped v cs records can =
    let b = book_view c.args.book.now in
    let mid = book_view c.take_parts.new.book in
    let new = book_view c.keep_aside.new.book in
    let parts = cut_chunks cs c.args.cuts.now in
    let chunks = cut_chunks cs c.args.kept.now in
    let takes = not (length c.args.cuts.now == 0) in
    subst (λ x. Adds (g.S.Site.told c.args.site.now) (g.S.Site.told c.keep_aside.new.site)
    (Leads (As stamped job) (AtJob stamped (λ u. u ≡ v)) (Prepared stamped v b new parts chunks (stays_aside b c.args.heads.now c.args.old c.args.kept.now) (Ok x))))
    (sym c.is_changed.ensures)
    (both v b mid c.args.files.now c.args.heads.now c.args.old c.args.kept.now cs parts can
    new stamped records (stays_aside b c.args.heads.now c.args.old c.args.kept.now) c.in_ok-take_parts.field-0 c.take_parts.result
    c.in_ok-take_parts.was takes (λ e. c.take_parts.ensures.none (none_there c.args.cuts.now e)) (Ok c.in_ok-changed.changed)
    (c.take_parts.ensures.told stamped v cs records can.book
    (free_first v b mid c.args.files.now c.args.heads.now c.args.old c.args.kept.now cs parts can))
    c.keep_aside.ensures.own
    (λ u still free whole. c.in_ok-changed.ensures.told stamped u cs still free whole) refl)

pub returns-clause-own : goal.returns-clause-own
returns-clause-own g c = every_then (IsOf MergesBy) c.take_parts.ensures.own c.keep_aside.ensures.own

pub returns-clause-pieces : goal.returns-clause-pieces
returns-clause-pieces g c = every_then AsksInPieces c.take_parts.ensures.pieces c.keep_aside.ensures.pieces

pub returns-clause-last : goal.returns-clause-last
returns-clause-last g c =
    adds_as (FailsLast {T = Bool} (Ok c.is_changed.result))
    (every_then (IsOf MergesBy) c.take_parts.ensures.own c.keep_aside.ensures.own) (λ added history p. tt)

pub returns-in_err-changed-clause-shown : goal.returns-in_err-changed-clause-shown
returns-in_err-changed-clause-shown g c =
    let p = err_from_is_err_and c.from_residual-in_err-changed.result c.from_residual-in_err-changed.ensures.1 in
    let files = c.args.files.now in
    let heads = c.args.heads.now in
    rw (p.1, p.2)
    (shows_then Bool Bool (IsGoneIn files heads) (late_gone_in files heads) c.in_err-changed.field-0.0 c.take_parts.ensures.pieces
    c.in_err-changed.ensures.shown)

pub returns-clause-shown : goal.returns-clause-shown
returns-clause-shown g c =
    shows_ok (IsGoneIn c.args.files.now c.args.heads.now) c.is_changed.result
    (every_then (IsOf MergesBy) c.take_parts.ensures.own c.keep_aside.ensures.own)

pub returns-in_err-take_parts-clause-spent : goal.returns-in_err-take_parts-clause-spent
returns-in_err-take_parts-clause-spent g c =
    let q = err_from_is_err_and c.from_residual.result c.from_residual.ensures.1 in
    let b = book_view c.args.book.now in
    let cuts = c.args.cuts.now in
    rw (q.1, q.2)
    (spent_as ((cuts ≡ [] → ⊥) × IsAtLast b)
    (LacksFor b c.args.heads.now c.args.old cuts c.args.kept.now) (λ x. for_parts x.0 x.1)
    c.in_err-take_parts.field-0.0 c.in_err-take_parts.ensures.spent)

pub returns-in_err-changed-clause-spent : goal.returns-in_err-changed-clause-spent
returns-in_err-changed-clause-spent g c =
    let q = err_from_is_err_and c.from_residual-in_err-changed.result
    c.from_residual-in_err-changed.ensures.1 in
    let b = book_view c.args.book.now in
    let mid = book_view c.take_parts.new.book in
    let heads = c.args.heads.now in
    let old = c.args.old in
    let cuts = c.args.cuts.now in
    let kept = c.args.kept.now in
    rw (q.1, q.2)
    (spent_as ((kept ≡ [] → ⊥) × (stays_aside mid heads old kept ≡ false) × IsAtLast mid)
    (LacksFor b heads old cuts kept)
    (λ x. lacks_aside b mid heads old cuts kept c.take_parts.ensures.aside
    c.in_ok-take_parts.ensures.next x.0 x.1 x.2) c.in_err-changed.field-0.0 c.in_err-changed.ensures.spent)
