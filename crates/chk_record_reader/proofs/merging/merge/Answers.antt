use Rattle.std.proofs.Common.{◌∙◌, List, Ok, Err, refl, sym, subst}
use Rattle.std.proofs.lemmas.Result.{err_from_is_err_and}
use Rattle.chk_site.specs.Site.{Adds}
use Rattle.chk_site.specs.Runs.{anyhow, Leads}
use Rattle.chk_site.proofs.Runs.{adds_then}
use Rattle.chk_site.proofs.Leads.{leads_none}
use Rattle.chk_world.specs.JobSteps.{IsOf, ReadsOrWrites}
use Rattle.chk_record_index.specs.Heads.{Head}
use Rattle.chk_record_index.specs.Pieces.{AsksInPieces}
use Rattle.chk_record_index.proofs.Gathering.{every_then}
use Rattle.chk_book.specs.declared.book.Book.{Book as Struct}
use Rattle.chk_book.specs.Books.{book_view}
use Rattle.chk_book.specs.Folders.{segment_name, most_in}
use Rattle.chk_record_reader.specs.Segments.{AreSettled}
use Rattle.chk_record_reader.specs.Merging.{SparesBoth, AreApart, CanBegin, WroteMerged, bare_book}
use Rattle.chk_record_reader.proofs.AllGathered.{fails_later}
use Rattle.chk_book.proofs.Added.{fails_as, cause_later}
use Rattle.chk_record_reader.proofs.Writing.{reads_as}
use Rattle.chk_record_reader.proofs.MergedInto.{merged, not_sound_merged, not_written_merged, spent_read, spent_same}
use Rattle.chk_site.proofs.Runs.{adds_none}
use Rattle.chk_record_index.proofs.Causes.{shows_first}
use Rattle.chk_record_reader.specs.Gone.{IsUnsound}
use Rattle.chk_record_reader.proofs.Causes.{merge_gone}
use Rattle.chk_record_reader.proofs.merging.merge.Goals as goal

pub returns-in_err-heads-clause-raw : goal.returns-in_err-heads-clause-raw
returns-in_err-heads-clause-raw g c held is settled apart =
    let b = book_view c.args.book.now in
    let r = c.from_residual-in_err-heads in
    let p = err_from_is_err_and r.result r.ensures.1 in
    rw (p.1, p.2)
    (not_sound_merged c.args.folder.now b held b c.in_err-heads.field-0.0 refl (c.in_err-heads.ensures.raw held is settled))

pub returns-in_err-heads-clause-own : goal.returns-in_err-heads-clause-own
returns-in_err-heads-clause-own g c = λ is.
    reads_as (segment_name c.args.folder.now (book_view c.args.book.now).next) (c.in_err-heads.ensures.own is)

pub returns-in_err-heads-clause-spent : goal.returns-in_err-heads-clause-spent
returns-in_err-heads-clause-spent g c =
    let r = c.from_residual-in_err-heads in
    let p = err_from_is_err_and r.result r.ensures.1 in
    rw (p.1, p.2)
    (spent_read (Unit {0}) (book_view c.args.book.now) c.in_err-heads.field-0.0 c.in_err-heads.ensures.only
    (λ e. let other = c.if-book-eq-LAST_NUMBER.false in other e))

pub returns-in_err-merged-clause-raw : goal.returns-in_err-merged-clause-raw
returns-in_err-merged-clause-raw g c held is settled apart =
    let folder = c.args.folder.now in
    let b = book_view c.args.book.now in
    let heads = c.in_ok-heads.heads in
    let r = c.from_residual-in_err-merged in
    let p = err_from_is_err_and r.result r.ensures.1 in
    let are = c.deref-2.ensures.value ∙ c.in_ok-names.ensures in
    rw (p.1, p.2)
    (not_written_merged folder b held heads b c.in_err-merged.field-0.0 refl (c.in_ok-heads.ensures.raw held is settled)
    (subst
    (λ ws. Adds (g.S.Site.told c.sound_heads.new.site) (g.S.Site.told c.write_merged.new.site)
    (Leads (anyhow (SparesBoth ws (segment_name folder b.next))) (CanBegin (most_in folder) ws held heads)
    (WroteMerged folder b.next ws held heads (Err c.in_err-merged.field-0.0))))
    are
    (c.in_err-merged.ensures.raw held is (subst (λ ws. AreSettled ws held) (sym are) settled)
    (subst (λ ws. AreApart ws (segment_name folder b.next)) (sym are) apart))))

pub returns-in_err-merged-clause-own : goal.returns-in_err-merged-clause-own
returns-in_err-merged-clause-own g c = λ is.
    let segment = segment_name c.args.folder.now (book_view c.args.book.now).next in
    every_then (IsOf (ReadsOrWrites segment)) (reads_as segment (c.in_ok-heads.ensures.own is)) (c.in_err-merged.ensures.own is)

pub returns-in_err-merged-clause-spent : goal.returns-in_err-merged-clause-spent
returns-in_err-merged-clause-spent g c =
    let r = c.from_residual-in_err-merged in
    let p = err_from_is_err_and r.result r.ensures.1 in
    rw (p.1, p.2)
    (spent_same Struct (Unit {0}) (bare_book c.args.book.now.next) (book_view c.args.book.now) c.in_err-merged.field-0.0 refl c.in_err-merged.ensures.spent)

pub returns-in_err-merged-clause-last : goal.returns-in_err-merged-clause-last
returns-in_err-merged-clause-last g c =
    let r = c.from_residual-in_err-merged in
    let p = err_from_is_err_and r.result r.ensures.1 in
    rw (p.1, p.2) (fails_later (Unit {0}) Struct c.in_err-merged.field-0.0 c.in_ok-heads.ensures.pieces c.in_err-merged.ensures.last)

pub returns-clause-raw : goal.returns-clause-raw
returns-clause-raw g c held is settled apart =
    let folder = c.args.folder.now in
    let b = book_view c.args.book.now in
    let heads = c.in_ok-heads.heads in
    let are = c.deref-2.ensures.value ∙ c.in_ok-names.ensures in
    merged folder b held heads _ (book_view c.in_ok-merged.merged) refl refl refl refl (c.in_ok-heads.ensures.raw held is settled)
    (subst
    (λ ws. Adds (g.S.Site.told c.sound_heads.new.site) (g.S.Site.told c.write_merged.new.site)
    (Leads (anyhow (SparesBoth ws (segment_name folder b.next))) (CanBegin (most_in folder) ws held heads)
    (WroteMerged folder b.next ws held heads (Ok (book_view c.in_ok-merged.merged)))))
    are
    (c.in_ok-merged.ensures.raw held is (subst (λ ws. AreSettled ws held) (sym are) settled)
    (subst (λ ws. AreApart ws (segment_name folder b.next)) (sym are) apart)))

pub returns-clause-own : goal.returns-clause-own
returns-clause-own g c = λ is.
    let segment = segment_name c.args.folder.now (book_view c.args.book.now).next in
    every_then (IsOf (ReadsOrWrites segment)) (reads_as segment (c.in_ok-heads.ensures.own is)) (c.in_ok-merged.ensures.own is)

pub returns-clause-last : goal.returns-clause-last
returns-clause-last g c =
    adds_then _ c.in_ok-heads.ensures.pieces c.in_ok-merged.ensures.last (λ a b history x y. tt)

pub returns-in_err-merged-clause-pieces : goal.returns-in_err-merged-clause-pieces
returns-in_err-merged-clause-pieces g c = λ is.
    every_then AsksInPieces c.in_ok-heads.ensures.pieces (c.in_err-merged.ensures.pieces is)

pub returns-clause-pieces : goal.returns-clause-pieces
returns-clause-pieces g c = λ is.
    every_then AsksInPieces c.in_ok-heads.ensures.pieces (c.in_ok-merged.ensures.pieces is)

pub returns-then-book-eq-LAST_NUMBER-clause-raw : goal.returns-then-book-eq-LAST_NUMBER-clause-raw
returns-then-book-eq-LAST_NUMBER-clause-raw g c held is settled apart = leads_none _ (λ h x. refl)

pub returns-in_err-names-clause-raw : goal.returns-in_err-names-clause-raw
returns-in_err-names-clause-raw g c =
    let r = c.from_residual in
    let p = err_from_is_err_and r.result r.ensures.1 in
    rw (p.1, p.2)
    (λ held is settled apart. leads_none _ (λ h x. refl))

pub returns-in_err-heads-clause-last : goal.returns-in_err-heads-clause-last
returns-in_err-heads-clause-last g c =
    let r = c.from_residual-in_err-heads in
    let p = err_from_is_err_and r.result r.ensures.1 in
    rw (p.1, p.2)
    (fails_as (Unit {0}) (List Head) c.in_err-heads.field-0.0 c.in_err-heads.ensures.last)

pub returns-in_err-heads-clause-cause : goal.returns-in_err-heads-clause-cause
returns-in_err-heads-clause-cause g c =
    let r = c.from_residual-in_err-heads in
    let p = err_from_is_err_and r.result r.ensures.1 in
    rw (p.1, p.2)
    (cause_later (Unit {0}) (List Head) c.in_err-heads.field-0.0 (g.S.Site.fault_count
    c.args.site.now)
    (g.S.Site.fault_count c.args.site.now) (g.S.Site.fault_count c.sound_heads.new.site) refl
    c.in_err-heads.ensures.cause)

pub returns-in_err-heads-clause-pieces : goal.returns-in_err-heads-clause-pieces
returns-in_err-heads-clause-pieces g c = λ is. c.in_err-heads.ensures.pieces

pub returns-in_err-merged-clause-cause : goal.returns-in_err-merged-clause-cause
returns-in_err-merged-clause-cause g c =
    let r = c.from_residual-in_err-merged in
    let p = err_from_is_err_and r.result r.ensures.1 in
    rw (p.1, p.2)
    (cause_later (Unit {0}) Struct c.in_err-merged.field-0.0 (g.S.Site.fault_count c.args.site.now)
    (g.S.Site.fault_count c.sound_heads.new.site) (g.S.Site.fault_count c.write_merged.new.site)
    c.in_ok-heads.ensures.cause
    c.in_err-merged.ensures.cause)

pub returns-clause-spent : goal.returns-clause-spent
returns-clause-spent g c = λ e. let other = c.if-book-eq-LAST_NUMBER.false in other e

pub returns-clause-cause : goal.returns-clause-cause
returns-clause-cause g c = c.in_ok-merged.ensures.cause ∙ c.in_ok-heads.ensures.cause

pub returns-then-book-eq-LAST_NUMBER-clause-shown : goal.returns-then-book-eq-LAST_NUMBER-clause-shown
returns-then-book-eq-LAST_NUMBER-clause-shown g c = adds_none _ _ (λ history. tt)

pub returns-in_err-names-clause-shown : goal.returns-in_err-names-clause-shown
returns-in_err-names-clause-shown g c =
    let r = c.from_residual in
    let p = err_from_is_err_and r.result r.ensures.1 in
    rw (p.1, p.2) (adds_none _ _ (λ history. tt))

pub returns-in_err-heads-clause-shown : goal.returns-in_err-heads-clause-shown
returns-in_err-heads-clause-shown g c =
    let r = c.from_residual-in_err-heads in
    let p = err_from_is_err_and r.result r.ensures.1 in
    rw (p.1, p.2)
    (shows_first (Unit {0}) (Unit {0}) (IsUnsound c.args.folder.now (book_view c.args.book.now)) c.in_err-heads.field-0.0
    c.in_err-heads.ensures.shown)

pub returns-in_err-merged-clause-shown : goal.returns-in_err-merged-clause-shown
returns-in_err-merged-clause-shown g c =
    let r = c.from_residual-in_err-merged in
    let p = err_from_is_err_and r.result r.ensures.1 in
    rw (p.1, p.2)
    (merge_gone c.args.folder.now (book_view c.args.book.now) c.deref-2.result.now c.in_ok-heads.heads Struct c.in_err-merged.field-0.0
    (c.deref-2.ensures.value ∙ c.in_ok-names.ensures) c.in_ok-heads.ensures.shown c.in_err-merged.ensures.shown)

pub returns-clause-shown : goal.returns-clause-shown
returns-clause-shown g c = adds_then _ c.in_ok-heads.ensures.pieces c.in_ok-merged.ensures.last (λ a b history x y. tt)

pub returns-clause-kept : goal.returns-clause-kept
returns-clause-kept g c = (refl, refl)

pub returns-clause-next : goal.returns-clause-next
returns-clause-next g c = c.in_ok-merged.ensures.next
