use Rattle.std.proofs.Common.{◌∙◌, ◌≤◌, drop, List, Option, Ok, Err, length, refl, ap, sym, subst}
use Rattle.std.proofs.lemmas.Result.{err_from_is_err_and}
use Rattle.chk_site.proofs.Leads.{leads_none}
use Rattle.chk_site.proofs.Runs.{adds_none}
use Rattle.chk_record_reader.specs.Segments.{AreSettled}
use Rattle.chk_record_index.specs.Heads.{Head}
use Rattle.chk_book.specs.Books.{book_view}
use Rattle.chk_archive_parts.specs.Gathering.{held}
use Rattle.chk_demux.specs.Running.{RunsOn}
use Rattle.chk_demux.proofs.NewestRaw.{newest_sound, newest_failed, then_sound, older_sound, older_failed, older_none, newest_shown, newest_shows_none, then_shown}
use Rattle.chk_demux.proofs.NewestTold.{newest_told, then_all, not_newest, of_read, from_none, names_sound, names_settled, names_well}
use Rattle.chk_demux.proofs.RunSteps.{gathers}
use Rattle.chk_demux.proofs.Ends.{cause_behind}
use Rattle.chk_archive_parts.proofs.Works.{works_memory, works_value, works_fail}
use Rattle.chk_book.proofs.Works.{works_then}
use Rattle.chk_demux.proofs.run.heads_for_split.Goals as goal

pub returns-in_err-places-clause-told : goal.returns-in_err-places-clause-told
returns-in_err-places-clause-told g c stamped v cs can =
    let p = err_from_is_err_and c.from_residual.result c.from_residual.ensures.1 in
    rw (p.1, p.2) (leads_none (g.S.Site.told c.args.site.now) (λ h z. z.legal))

pub returns-in_err-places-clause-only : goal.returns-in_err-places-clause-only
returns-in_err-places-clause-only g c =
    let p = err_from_is_err_and c.from_residual.result c.from_residual.ensures.1 in rw (p.1, p.2) tt

pub returns-in_err-places-clause-works : goal.returns-in_err-places-clause-works
returns-in_err-places-clause-works g c =
    let p = err_from_is_err_and c.from_residual.result c.from_residual.ensures.1 in
    rw (p.1, p.2) (works_memory (List Head) RunsOn (g.S.Site.told c.args.site.now))

pub returns-in_err-places-clause-cause : goal.returns-in_err-places-clause-cause
returns-in_err-places-clause-cause g c =
    let p = err_from_is_err_and c.from_residual.result c.from_residual.ensures.1 in rw (p.1, p.2) refl

pub newest_heads-requires : goal.newest_heads-requires
newest_heads-requires g c = record {
  job = c.requires.job;
  places = ap length c.as_slice.ensures.value ∙ c.in_ok-places.ensures.size;
}

pub returns-in_err-newest-clause-told : goal.returns-in_err-newest-clause-told
returns-in_err-newest-clause-told g c stamped v cs can =
    let r = c.from_residual-in_err-newest in
    let p = err_from_is_err_and r.result r.ensures.1 in
    let a = book_view c.args.archive.now in
    let b = book_view c.args.book.now in
    rw (p.1, p.2)
    (not_newest stamped a b v cs can c.args.names.now c.requires.names c.as_slice.result.now
    (λ rises. c.as_slice.ensures.value ∙ c.in_ok-places.ensures.are rises)
    (Err c.in_err-newest.field-0.0)
    (c.in_err-newest.ensures.raw (held v) 0 can.sorted (from_none (length c.args.names.now))
    (names_settled stamped a b v cs can c.args.names.now c.requires.names))
    c.in_err-newest.ensures.own c.in_err-newest.field-0.0 c.in_err-newest.ensures.only)

pub returns-in_err-newest-clause-only : goal.returns-in_err-newest-clause-only
returns-in_err-newest-clause-only g c =
    let r = c.from_residual-in_err-newest in
    let p = err_from_is_err_and r.result r.ensures.1 in
    rw (p.1, p.2) (of_read c.in_err-newest.field-0.0 c.in_err-newest.ensures.only)

pub returns-in_err-newest-clause-works : goal.returns-in_err-newest-clause-works
returns-in_err-newest-clause-works g c =
    let r = c.from_residual-in_err-newest in
    let p = err_from_is_err_and r.result r.ensures.1 in
    let fault = c.in_err-newest.field-0.0 in
    rw (p.1, p.2)
    (works_fail (Option (List Head)) (List Head) RunsOn fault
    (gathers {T = Option (List Head)} (Err fault) c.in_err-newest.ensures.own c.in_err-newest.ensures.pieces
    c.in_err-newest.ensures.last))

pub returns-in_err-newest-clause-cause : goal.returns-in_err-newest-clause-cause
returns-in_err-newest-clause-cause g c =
    let r = c.from_residual-in_err-newest in
    let p = err_from_is_err_and r.result r.ensures.1 in
    let now = g.S.Site.fault_count c.newest_heads.new.site in
    let before = g.S.Site.fault_count c.args.site.now in
    rw (p.1, p.2)
    (cause_behind {T = Option (List Head)} (List Head) (Err c.in_err-newest.field-0.0) c.in_err-newest.field-0.0 refl
    before before now refl c.in_err-newest.ensures.cause)

pub returns-in-Some-clause-told : goal.returns-in-Some-clause-told
returns-in-Some-clause-told g c stamped v cs can =
    let a = book_view c.args.archive.now in
    let b = book_view c.args.book.now in
    newest_told stamped a b v cs can c.args.names.now c.requires.names c.as_slice.result.now
    (λ rises. c.as_slice.ensures.value ∙ c.in_ok-places.ensures.are rises)
    (Ok c.in_ok-newest.newest)
    (c.in_ok-newest.ensures.raw (held v) 0 can.sorted (from_none (length c.args.names.now))
    (names_settled stamped a b v cs can c.args.names.now c.requires.names))
    c.in_ok-newest.ensures.own c.in-Some.heads (ap Ok c.in-Some.is)

pub returns-in-Some-clause-works : goal.returns-in-Some-clause-works
returns-in-Some-clause-works g c =
    works_value (Option (List Head)) (List Head) RunsOn c.in_ok-newest.newest c.in-Some.heads
    (gathers {T = Option (List Head)} (Ok c.in_ok-newest.newest) c.in_ok-newest.ensures.own
    c.in_ok-newest.ensures.pieces c.in_ok-newest.ensures.last)

pub returns-in-Some-clause-cause : goal.returns-in-Some-clause-cause
returns-in-Some-clause-cause g c = c.in_ok-newest.ensures.cause

pub returns-clause-told : goal.returns-clause-told
returns-clause-told g c stamped v cs can =
    let a = book_view c.args.archive.now in
    let b = book_view c.args.book.now in
    then_all stamped a b v cs can c.args.names.now c.requires.names c.as_slice.result.now
    (λ rises. c.as_slice.ensures.value ∙ c.in_ok-places.ensures.are rises)
    (Ok c.in_ok-newest.newest)
    (c.in_ok-newest.ensures.raw (held v) 0 can.sorted (from_none (length c.args.names.now))
    (names_settled stamped a b v cs can c.args.names.now c.requires.names))
    c.in_ok-newest.ensures.own c.heads_in_order.result
    (c.heads_in_order.ensures.told stamped v (names_sound stamped a b v cs can c.args.names.now c.requires.names)
    (names_well stamped a b v cs can c.args.names.now c.requires.names))

pub returns-clause-works : goal.returns-clause-works
returns-clause-works g c =
    works_then RunsOn (Ok c.in_ok-newest.newest) c.heads_in_order.result
    (gathers {T = Option (List Head)} (Ok c.in_ok-newest.newest) c.in_ok-newest.ensures.own
    c.in_ok-newest.ensures.pieces c.in_ok-newest.ensures.last) c.heads_in_order.ensures.works

-- ---- whatever was told before

pub returns-in_err-places-clause-raw : goal.returns-in_err-places-clause-raw
returns-in_err-places-clause-raw g c held settled sorted rises =
    let p = err_from_is_err_and c.from_residual.result c.from_residual.ensures.1 in
    rw (p.1, p.2) (leads_none (g.S.Site.told c.args.site.now) (λ h z. tt))

pub returns-in_err-newest-clause-raw : goal.returns-in_err-newest-clause-raw
returns-in_err-newest-clause-raw g c held settled sorted rises =
    let r = c.from_residual-in_err-newest in
    let p = err_from_is_err_and r.result r.ensures.1 in
    let are = c.requires.names in
    rw (p.1, p.2)
    (newest_failed (book_view c.args.archive.now) (book_view c.args.book.now) held sorted settled c.args.names.now are
    c.as_slice.result.now (c.as_slice.ensures.value ∙ c.in_ok-places.ensures.are rises)
    (Err c.in_err-newest.field-0.0)
    (c.in_err-newest.ensures.raw held 0 sorted (from_none (length c.args.names.now))
    (subst (λ ws. AreSettled ws held) (sym are) settled))
    c.in_err-newest.ensures.own c.in_err-newest.field-0.0 c.in_err-newest.ensures.only)

pub returns-in-Some-clause-raw : goal.returns-in-Some-clause-raw
returns-in-Some-clause-raw g c held settled sorted rises =
    let are = c.requires.names in
    newest_sound (book_view c.args.archive.now) (book_view c.args.book.now) held sorted settled c.args.names.now are
    c.as_slice.result.now (c.as_slice.ensures.value ∙ c.in_ok-places.ensures.are rises)
    (Ok c.in_ok-newest.newest)
    (c.in_ok-newest.ensures.raw held 0 sorted (from_none (length c.args.names.now))
    (subst (λ ws. AreSettled ws held) (sym are) settled))
    c.in_ok-newest.ensures.own c.in-Some.heads (ap Ok c.in-Some.is)

pub returns-clause-raw : goal.returns-clause-raw
returns-clause-raw g c held settled sorted rises =
    let are = c.requires.names in
    then_sound (book_view c.args.archive.now) (book_view c.args.book.now) held sorted settled c.args.names.now are
    c.as_slice.result.now (c.as_slice.ensures.value ∙ c.in_ok-places.ensures.are rises)
    (Ok c.in_ok-newest.newest)
    (c.in_ok-newest.ensures.raw held 0 sorted (from_none (length c.args.names.now))
    (subst (λ ws. AreSettled ws held) (sym are) settled))
    c.in_ok-newest.ensures.own (ap Ok c.in-None.is) c.heads_in_order.result
    (c.heads_in_order.ensures.raw held settled)

pub returns-in_err-places-clause-shown : goal.returns-in_err-places-clause-shown
returns-in_err-places-clause-shown g c sorted =
    let p = err_from_is_err_and c.from_residual.result c.from_residual.ensures.1 in
    rw (p.1, p.2) (adds_none _ _ (λ history. tt))

pub returns-in_err-newest-clause-shown : goal.returns-in_err-newest-clause-shown
returns-in_err-newest-clause-shown g c sorted =
    let r = c.from_residual-in_err-newest in
    let p = err_from_is_err_and r.result r.ensures.1 in
    rw (p.1, p.2)
    (newest_shows_none (book_view c.args.archive.now) c.args.names.now c.requires.names c.as_slice.result.now c.in_err-newest.field-0.0
    c.in_err-newest.ensures.only c.in_err-newest.ensures.own)

pub returns-in-Some-clause-shown : goal.returns-in-Some-clause-shown
returns-in-Some-clause-shown g c sorted =
    newest_shown (book_view c.args.archive.now) c.args.names.now c.requires.names c.as_slice.result.now c.in-Some.heads
    (Ok c.in_ok-newest.newest) (ap Ok c.in-Some.is) (c.in_ok-newest.ensures.shown sorted)

pub returns-clause-shown : goal.returns-clause-shown
returns-clause-shown g c sorted =
    then_shown (book_view c.args.archive.now) c.args.names.now c.requires.names c.as_slice.result.now c.in_ok-newest.ensures.own
    c.heads_in_order.result c.heads_in_order.ensures.shown

-- ---- whatever the older files are

pub returns-in_err-places-clause-older : goal.returns-in_err-places-clause-older
returns-in_err-places-clause-older g c held k enough settled sorted rises =
    let p = err_from_is_err_and c.from_residual.result c.from_residual.ensures.1 in
    rw (p.1, p.2) (leads_none (g.S.Site.told c.args.site.now) (λ h z. tt))

pub returns-in_err-newest-clause-older : goal.returns-in_err-newest-clause-older
returns-in_err-newest-clause-older g c held k enough settled sorted rises =
    let r = c.from_residual-in_err-newest in
    let p = err_from_is_err_and r.result r.ensures.1 in
    let are = c.requires.names in
    rw (p.1, p.2)
    (older_failed (book_view c.args.archive.now)
    (book_view c.args.book.now) held k enough c.args.names.now are
    c.as_slice.result.now (c.as_slice.ensures.value ∙ c.in_ok-places.ensures.are rises)
    (Err c.in_err-newest.field-0.0)
    (c.in_err-newest.ensures.raw held k sorted (subst (λ ws. k ≤ length ws) (sym are) enough.within)
    (subst (λ ws. AreSettled (drop k ws) held) (sym are) settled))
    c.in_err-newest.field-0.0 c.in_err-newest.ensures.only)

pub returns-in-Some-clause-older : goal.returns-in-Some-clause-older
returns-in-Some-clause-older g c held k enough settled sorted rises =
    let are = c.requires.names in
    older_sound (book_view c.args.archive.now)
    (book_view c.args.book.now) held k enough c.args.names.now are
    c.as_slice.result.now (c.as_slice.ensures.value ∙ c.in_ok-places.ensures.are rises)
    (Ok c.in_ok-newest.newest)
    (c.in_ok-newest.ensures.raw held k sorted (subst (λ ws. k ≤ length ws) (sym are) enough.within)
    (subst (λ ws. AreSettled (drop k ws) held) (sym are) settled))
    c.in-Some.heads (ap Ok c.in-Some.is)

pub returns-clause-older : goal.returns-clause-older
returns-clause-older g c held k enough settled sorted rises =
    let are = c.requires.names in
    older_none (book_view c.args.archive.now)
    (book_view c.args.book.now) held k enough c.args.names.now are
    c.as_slice.result.now (c.as_slice.ensures.value ∙ c.in_ok-places.ensures.are rises)
    (Ok c.in_ok-newest.newest)
    (c.in_ok-newest.ensures.raw held k sorted (subst (λ ws. k ≤ length ws) (sym are) enough.within)
    (subst (λ ws. AreSettled (drop k ws) held) (sym are) settled))
    (ap Ok c.in-None.is) c.heads_in_order.result c.heads_in_order.ensures.works
