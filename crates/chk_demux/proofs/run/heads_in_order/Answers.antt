use Rattle.std.proofs.Common.{List, Ok, Err, sym, subst, refl}
use Rattle.std.specs.Prelude.{codes}
use Rattle.std.proofs.lemmas.Result.{err_from_is_err_and}
use Rattle.chk_site.specs.Site.{Adds}
use Rattle.chk_chunk.specs.Keys.{chunk_limit}
use Rattle.chk_record_index.specs.Heads.{Head}
use Rattle.chk_book.specs.Books.{book_view}
use Rattle.chk_record_reader.specs.Segments.{AreSettled}
use Rattle.chk_record_reader.specs.Checking.{ToldOfSome}
use Rattle.chk_record_reader.proofs.Archived.{gathered_as}
use Rattle.chk_record_reader.proofs.SoundHeads.{heads_sound, heads_bad, heads_broken, some_cause}
use Rattle.chk_demux.specs.Running.{RunsOn}
use Rattle.chk_demux.specs.Working.{Worked}
use Rattle.chk_demux.proofs.Ends.{cause_behind}
use Rattle.chk_demux.proofs.RunSteps.{not_found, not_checked, not_run, all_sorted, gathers}
use Rattle.chk_archive_parts.proofs.Works.{works_result, works_value}
use Rattle.chk_record_reader.proofs.Causes.{sound_bad, sound_broken, sound_so}
use Rattle.chk_demux.proofs.Shown.{told_reads}
use Rattle.chk_demux.proofs.run.heads_in_order.Goals as goal

pub returns-in_err-heads-clause-told : goal.returns-in_err-heads-clause-told
returns-in_err-heads-clause-told g c stamped v sound well =
    let q = err_from_is_err_and c.from_residual.result c.from_residual.ensures.1 in
    rw (q.1, q.2)
    (not_found stamped v c.args.names.now c.gather_found.result c.gather_found.ensures.only
    (c.gather_found.ensures.told stamped v sound) c.in_err-heads.field-0.0 c.in_err-heads.was)

pub returns-in_err-heads-clause-raw : goal.returns-in_err-heads-clause-raw
returns-in_err-heads-clause-raw g c held settled =
    let q = err_from_is_err_and c.from_residual.result c.from_residual.ensures.1 in
    let b = book_view c.args.archive.now in
    rw (q.1, q.2)
    (heads_bad (codes "archive") b held c.in_err-heads.field-0.0
    (gathered_as (codes "archive") b held c.args.names.now chunk_limit (Err c.in_err-heads.field-0.0) c.requires.names refl
    (c.in_err-heads.ensures.raw held (subst (λ ws. AreSettled ws held) (sym c.requires.names) settled))))

pub returns-in_err-heads-clause-works : goal.returns-in_err-heads-clause-works
returns-in_err-heads-clause-works g c =
    let q = err_from_is_err_and c.from_residual.result c.from_residual.ensures.1 in
    rw (q.1, q.2)
    (works_result (List Head) RunsOn c.gather_found.result c.in_err-heads.field-0.0 c.in_err-heads.was
    (gathers c.gather_found.result c.gather_found.ensures.own c.gather_found.ensures.pieces c.gather_found.ensures.last))

pub returns-in_err-heads-clause-cause : goal.returns-in_err-heads-clause-cause
returns-in_err-heads-clause-cause g c =
    let q = err_from_is_err_and c.from_residual.result c.from_residual.ensures.1 in
    let old = g.S.Site.fault_count c.args.site.now in
    rw (q.1, q.2)
    (cause_behind (List Head) c.gather_found.result c.in_err-heads.field-0.0 c.in_err-heads.was old old
    (g.S.Site.fault_count c.gather_found.new.site) refl c.gather_found.ensures.cause)

pub returns-in_err-put_in_order-clause-told : goal.returns-in_err-put_in_order-clause-told
returns-in_err-put_in_order-clause-told g c stamped v sound well =
    let r = c.from_residual-in_err-put_in_order in
    let q = err_from_is_err_and r.result r.ensures.1 in
    rw (q.1, q.2)
    (not_checked stamped v c.args.names.now c.gather_found.result c.gather_found.ensures.only
    (c.gather_found.ensures.told stamped v sound) c.in_ok-heads.heads c.in_ok-heads.was (book_view c.args.archive.now) well
    c.in_err-put_in_order.field-0.0 c.in_err-put_in_order.ensures.err)

pub returns-in_err-put_in_order-clause-raw : goal.returns-in_err-put_in_order-clause-raw
returns-in_err-put_in_order-clause-raw g c held settled =
    let r = c.from_residual-in_err-put_in_order in
    let q = err_from_is_err_and r.result r.ensures.1 in
    let b = book_view c.args.archive.now in
    rw (q.1, q.2)
    (heads_broken (codes "archive") b held c.in_ok-heads.heads c.in_err-put_in_order.field-0.0
    (subst (λ ws. ToldOfSome (codes "archive") b ws c.in_ok-heads.heads c.in_err-put_in_order.field-0.0)
    c.requires.names c.in_err-put_in_order.ensures.err)
    (gathered_as (codes "archive") b held c.args.names.now chunk_limit (Ok c.in_ok-heads.heads) c.requires.names refl
    (c.in_ok-heads.ensures.raw held (subst (λ ws. AreSettled ws held) (sym c.requires.names) settled))))

pub returns-in_err-put_in_order-clause-works : goal.returns-in_err-put_in_order-clause-works
returns-in_err-put_in_order-clause-works g c =
    let r = c.from_residual-in_err-put_in_order in
    let q = err_from_is_err_and r.result r.ensures.1 in
    rw (q.1, q.2)
    (not_run (List Head) c.in_ok-heads.heads c.in_err-put_in_order.field-0.0 (book_view c.args.archive.now) c.args.names.now
    c.in_ok-heads.heads c.in_err-put_in_order.ensures.err
    (subst (λ r. Adds (g.S.Site.told c.args.site.now) (g.S.Site.told c.gather_found.new.site) (Worked RunsOn r))
    c.in_ok-heads.was
    (gathers c.gather_found.result c.gather_found.ensures.own c.gather_found.ensures.pieces c.gather_found.ensures.last)))

pub returns-in_err-put_in_order-clause-cause : goal.returns-in_err-put_in_order-clause-cause
returns-in_err-put_in_order-clause-cause g c =
    let r = c.from_residual-in_err-put_in_order in
    let q = err_from_is_err_and r.result r.ensures.1 in
    rw (q.1, q.2)
    (some_cause (codes "archive") (book_view c.args.archive.now) c.args.names.now c.in_ok-heads.heads
    c.in_err-put_in_order.field-0.0 c.in_err-put_in_order.ensures.err (g.S.Site.fault_count c.args.site.now)
    (g.S.Site.fault_count c.gather_found.new.site) c.in_ok-heads.ensures.cause)

pub returns-clause-told : goal.returns-clause-told
returns-clause-told g c stamped v sound well =
    all_sorted stamped v c.args.names.now c.gather_found.result c.gather_found.ensures.only
    (c.gather_found.ensures.told stamped v sound) c.in_ok-heads.heads c.in_ok-heads.was c.put_in_order.new.heads
    c.in_ok-put_in_order.ensures.order

pub returns-clause-raw : goal.returns-clause-raw
returns-clause-raw g c held settled =
    let b = book_view c.args.archive.now in
    heads_sound (codes "archive") b held c.in_ok-heads.heads c.put_in_order.new.heads
    c.in_ok-put_in_order.ensures.well c.in_ok-put_in_order.ensures.order
    (gathered_as (codes "archive") b held c.args.names.now chunk_limit (Ok c.in_ok-heads.heads) c.requires.names refl
    (c.in_ok-heads.ensures.raw held (subst (λ ws. AreSettled ws held) (sym c.requires.names) settled)))

pub returns-clause-works : goal.returns-clause-works
returns-clause-works g c =
    works_value (List Head) (List Head) RunsOn c.in_ok-heads.heads c.put_in_order.new.heads
    (subst (λ r. Adds (g.S.Site.told c.args.site.now) (g.S.Site.told c.gather_found.new.site) (Worked RunsOn r))
    c.in_ok-heads.was
    (gathers c.gather_found.result c.gather_found.ensures.own c.gather_found.ensures.pieces c.gather_found.ensures.last))

pub returns-clause-cause : goal.returns-clause-cause
returns-clause-cause g c = c.in_ok-heads.ensures.cause

pub returns-in_err-heads-clause-shown : goal.returns-in_err-heads-clause-shown
returns-in_err-heads-clause-shown g c =
    let q = err_from_is_err_and c.from_residual.result c.from_residual.ensures.1 in
    rw (q.1, q.2)
    (sound_bad (codes "archive") (book_view c.args.archive.now) c.args.names.now chunk_limit c.requires.names refl
    c.in_err-heads.field-0.0 c.in_err-heads.ensures.shown)

pub returns-in_err-put_in_order-clause-shown : goal.returns-in_err-put_in_order-clause-shown
returns-in_err-put_in_order-clause-shown g c =
    let r = c.from_residual-in_err-put_in_order in
    let q = err_from_is_err_and r.result r.ensures.1 in
    rw (q.1, q.2)
    (sound_broken (codes "archive") (book_view c.args.archive.now) c.args.names.now chunk_limit c.requires.names refl
    c.in_ok-heads.heads c.in_err-put_in_order.field-0.0 c.in_err-put_in_order.ensures.err c.in_ok-heads.ensures.shown)

pub returns-clause-shown : goal.returns-clause-shown
returns-clause-shown g c =
    sound_so (codes "archive") (book_view c.args.archive.now) c.args.names.now chunk_limit c.requires.names refl
    c.in_ok-heads.heads c.put_in_order.new.heads c.in_ok-put_in_order.ensures.order c.in_ok-heads.ensures.shown

pub returns-in_err-heads-clause-only : goal.returns-in_err-heads-clause-only
returns-in_err-heads-clause-only g c =
    let q = err_from_is_err_and c.from_residual.result c.from_residual.ensures.1 in
    rw (q.1, q.2) c.in_err-heads.ensures.only

pub returns-in_err-put_in_order-clause-only : goal.returns-in_err-put_in_order-clause-only
returns-in_err-put_in_order-clause-only g c =
    let r = c.from_residual-in_err-put_in_order in
    let q = err_from_is_err_and r.result r.ensures.1 in
    rw (q.1, q.2)
    (told_reads (codes "archive") (book_view c.args.archive.now) c.args.names.now
    c.in_ok-heads.heads c.in_err-put_in_order.field-0.0 c.in_err-put_in_order.ensures.err)
