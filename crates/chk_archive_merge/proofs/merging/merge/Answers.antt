use Rattle.std.proofs.Common.{◌∙◌, Option, Some, None, Ok, Err, refl, sym, subst}
use Rattle.std.proofs.lemmas.Result.{err_from_is_err_and}
use Rattle.chk_site.specs.Site.{Adds}
use Rattle.chk_site.specs.Runs.{anyhow, Leads}
use Rattle.chk_site.proofs.Runs.{adds_none, adds_as}
use Rattle.chk_site.proofs.Leads.{leads_as, leads_none, leads_then}
use Rattle.chk_world.specs.JobSteps.{IsOf, ReadsOrWrites}
use Rattle.chk_record_index.specs.Pieces.{AsksInPieces}
use Rattle.chk_record_index.proofs.Causes.{shows_behind}
use Rattle.chk_record_index.proofs.Gathering.{every_then}
use Rattle.chk_book.proofs.Added.{cause_later, cause_then, fails_later, fails_as}
use Rattle.chk_book.specs.declared.book.Book.{Book as Struct}
use Rattle.chk_book.specs.Books.{book_view}
use Rattle.chk_book.specs.Folders.{segment_name}
use Rattle.chk_record_reader.specs.Gone.{IsUnsound}
use Rattle.chk_record_reader.specs.Merging.{SparesBoth, AreApart}
use Rattle.chk_record_reader.specs.Segments.{HasFiles, AreSettled}
use Rattle.chk_record_reader.proofs.Causes.{late_unsound, shows_begun}
use Rattle.chk_archive_merge.specs.Merges.{HasTried}
use Rattle.chk_archive_merge.proofs.Wholes.{merged_tried, not_tried}
use Rattle.chk_book.proofs.Works.{last_of, pieces_of, own_of}
use Rattle.chk_archive_merge.proofs.merging.merge.Goals as goal

pub returns-then-book-eq-LAST_NUMBER-clause-raw : goal.returns-then-book-eq-LAST_NUMBER-clause-raw
returns-then-book-eq-LAST_NUMBER-clause-raw g c held settled apart = leads_none _ (λ h x. refl)

pub returns-then-book-eq-LAST_NUMBER-clause-shown : goal.returns-then-book-eq-LAST_NUMBER-clause-shown
returns-then-book-eq-LAST_NUMBER-clause-shown g c = adds_none _ _ (λ history. tt)

pub returns-in_err-names-clause-raw : goal.returns-in_err-names-clause-raw
returns-in_err-names-clause-raw g c =
    let p = err_from_is_err_and c.from_residual.result c.from_residual.ensures.1 in
    rw (p.1, p.2) (λ held settled apart. leads_none _ (λ h x. refl))

pub returns-in_err-names-clause-shown : goal.returns-in_err-names-clause-shown
returns-in_err-names-clause-shown g c =
    let p = err_from_is_err_and c.from_residual.result c.from_residual.ensures.1 in
    rw (p.1, p.2) (adds_none _ _ (λ history. tt))

pub returns-in_err-merged-clause-raw : goal.returns-in_err-merged-clause-raw
returns-in_err-merged-clause-raw g c held settled apart =
    let p = err_from_is_err_and c.from_residual-in_err-merged.result c.from_residual-in_err-merged.ensures.1 in
    let b = book_view c.args.book.now in
    rw (p.1, p.2)
    (not_tried c.args.folder.now b held b c.in_err-merged.field-0.0 refl c.in_err-merged.ensures.only
    c.in_err-merged.ensures.works)

pub returns-in_err-merged-clause-shown : goal.returns-in_err-merged-clause-shown
returns-in_err-merged-clause-shown g c =
    let p = err_from_is_err_and c.from_residual-in_err-merged.result c.from_residual-in_err-merged.ensures.1 in
    rw (p.1, p.2)
    (shows_begun (Unit {0}) (IsUnsound c.args.folder.now (book_view c.args.book.now)) c.in_err-merged.field-0.0
    c.in_err-merged.ensures.only c.in_err-merged.ensures.works)

pub returns-in_err-merged-clause-own : goal.returns-in_err-merged-clause-own
returns-in_err-merged-clause-own g c =
    own_of {T = Option Struct} (ReadsOrWrites (segment_name c.args.folder.now (book_view c.args.book.now).next))
    (Err c.in_err-merged.field-0.0) c.in_err-merged.ensures.works

pub returns-in_err-merged-clause-pieces : goal.returns-in_err-merged-clause-pieces
returns-in_err-merged-clause-pieces g c =
    pieces_of {T = Option Struct} (ReadsOrWrites (segment_name c.args.folder.now (book_view c.args.book.now).next))
    (Err c.in_err-merged.field-0.0) c.in_err-merged.ensures.works

pub returns-in_err-merged-clause-spent : goal.returns-in_err-merged-clause-spent
returns-in_err-merged-clause-spent g c =
    let p = err_from_is_err_and c.from_residual-in_err-merged.result c.from_residual-in_err-merged.ensures.1 in
    rw (p.1, p.2) c.in_err-merged.ensures.spent

pub returns-in_err-merged-clause-last : goal.returns-in_err-merged-clause-last
returns-in_err-merged-clause-last g c =
    let p = err_from_is_err_and c.from_residual-in_err-merged.result c.from_residual-in_err-merged.ensures.1 in
    rw (p.1, p.2)
    (fails_as (Unit {0}) (Option Struct) c.in_err-merged.field-0.0
    (last_of {T = Option Struct} (ReadsOrWrites (segment_name c.args.folder.now (book_view c.args.book.now).next))
    (Err c.in_err-merged.field-0.0) c.in_err-merged.ensures.works))

pub returns-in_err-merged-clause-cause : goal.returns-in_err-merged-clause-cause
returns-in_err-merged-clause-cause g c =
    let p = err_from_is_err_and c.from_residual-in_err-merged.result c.from_residual-in_err-merged.ensures.1 in
    rw (p.1, p.2)
    (cause_later (Unit {0}) (Option Struct) c.in_err-merged.field-0.0 (g.S.Site.fault_count c.args.site.now)
    (g.S.Site.fault_count c.args.site.now) (g.S.Site.fault_count c.merge_by_cursors.new.site) refl c.in_err-merged.ensures.cause)

pub returns-in-Some-clause-raw : goal.returns-in-Some-clause-raw
returns-in-Some-clause-raw g c held settled apart =
    let folder = c.args.folder.now in
    let b = book_view c.args.book.now in
    let segment = segment_name folder b.next in
    let are = c.deref.ensures.value ∙ c.in_ok-names.ensures in
    leads_as (λ h x. x) (λ h x. merged_tried folder b held _ (book_view c.in-Some.merged) refl refl refl refl h x)
    (subst
    (λ ws. Adds (g.S.Site.told c.args.site.now) (g.S.Site.told c.merge_by_cursors.new.site)
    (Leads (anyhow (SparesBoth ws segment)) (HasFiles ws held) (HasTried folder b held (Ok (Some (book_view c.in-Some.merged))))))
    are
    (rw c.in-Some.is at
    c.in_ok-merged.ensures.raw held (subst (λ ws. AreSettled ws held) (sym are) settled) (subst (λ ws. AreApart ws segment) (sym are) apart)))

pub returns-in-Some-clause-shown : goal.returns-in-Some-clause-shown
returns-in-Some-clause-shown g c = adds_as _ c.in_ok-merged.ensures.works (λ added history x. tt)

pub returns-in-Some-clause-kept : goal.returns-in-Some-clause-kept
returns-in-Some-clause-kept g c = (refl, refl)

pub returns-in-Some-clause-own : goal.returns-in-Some-clause-own
returns-in-Some-clause-own g c =
    own_of (ReadsOrWrites (segment_name c.args.folder.now (book_view c.args.book.now).next)) (Ok c.in_ok-merged.field-0)
    c.in_ok-merged.ensures.works

pub returns-in-Some-clause-pieces : goal.returns-in-Some-clause-pieces
returns-in-Some-clause-pieces g c =
    pieces_of (ReadsOrWrites (segment_name c.args.folder.now (book_view c.args.book.now).next)) (Ok c.in_ok-merged.field-0)
    c.in_ok-merged.ensures.works

pub returns-in-Some-clause-next : goal.returns-in-Some-clause-next
returns-in-Some-clause-next g c = rw c.in-Some.is at c.in_ok-merged.ensures.next

pub returns-in-Some-clause-spent : goal.returns-in-Some-clause-spent
returns-in-Some-clause-spent g c = λ e. let other = c.if-book-eq-LAST_NUMBER.false in other e

pub returns-in-Some-clause-last : goal.returns-in-Some-clause-last
returns-in-Some-clause-last g c = adds_as _ c.in_ok-merged.ensures.works (λ added history x. tt)

pub returns-in-Some-clause-cause : goal.returns-in-Some-clause-cause
returns-in-Some-clause-cause g c = c.in_ok-merged.ensures.cause

pub returns-clause-raw : goal.returns-clause-raw
returns-clause-raw g c held settled apart =
    let folder = c.args.folder.now in
    let b = book_view c.args.book.now in
    let segment = segment_name folder b.next in
    let are = c.deref.ensures.value ∙ c.in_ok-names.ensures in
    leads_then
    (subst
    (λ ws. Adds (g.S.Site.told c.args.site.now) (g.S.Site.told c.merge_by_cursors.new.site)
    (Leads (anyhow (SparesBoth ws segment)) (HasFiles ws held) (HasTried folder b held (Ok None))))
    are
    (rw c.in-None.is at
    c.in_ok-merged.ensures.raw held (subst (λ ws. AreSettled ws held) (sym are) settled) (subst (λ ws. AreApart ws segment) (sym are) apart)))
    (c.merge.ensures.raw held c.requires.job settled apart)

pub returns-clause-shown : goal.returns-clause-shown
returns-clause-shown g c =
    let folder = c.args.folder.now in
    let b = book_view c.args.book.now in
    shows_behind (IsUnsound folder b) (late_unsound folder b) c.merge.result c.in_ok-merged.ensures.works c.merge.ensures.shown

pub returns-clause-own : goal.returns-clause-own
returns-clause-own g c =
    let K = ReadsOrWrites (segment_name c.args.folder.now (book_view c.args.book.now).next) in
    every_then (IsOf K) (own_of K (Ok c.in_ok-merged.field-0) c.in_ok-merged.ensures.works) (c.merge.ensures.own c.requires.job)

pub returns-clause-pieces : goal.returns-clause-pieces
returns-clause-pieces g c =
    let K = ReadsOrWrites (segment_name c.args.folder.now (book_view c.args.book.now).next) in
    every_then AsksInPieces (pieces_of K (Ok c.in_ok-merged.field-0) c.in_ok-merged.ensures.works) (c.merge.ensures.pieces c.requires.job)

pub returns-clause-last : goal.returns-clause-last
returns-clause-last g c = fails_later c.merge.result c.in_ok-merged.ensures.works c.merge.ensures.last

pub returns-clause-cause : goal.returns-clause-cause
returns-clause-cause g c =
    cause_then c.merge.result (g.S.Site.fault_count c.args.site.now) (g.S.Site.fault_count c.merge_by_cursors.new.site)
    (g.S.Site.fault_count c.merge.new.site) c.in_ok-merged.ensures.cause c.merge.ensures.cause
