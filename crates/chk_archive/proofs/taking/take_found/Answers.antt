use Rattle.std.proofs.Common.{◌∙◌, ap, subst}
use Rattle.std.specs.Prelude.{count_by}
use Rattle.std.proofs.lemmas.Result.{err_from_is_err_and}
use Rattle.chk_site.specs.Site.{Adds}
use Rattle.chk_site.specs.Runs.{anyhow, Leads}
use Rattle.chk_site.proofs.Leads.{leads_none}
use Rattle.chk_world.specs.ArchiveRuns.{in_order}
use Rattle.chk_record_reader.specs.Segments.{HasFiles, SparesFiles}
use Rattle.chk_archive_parts.specs.Gathering.{held}
use Rattle.chk_archive_parts.specs.Records.{found_in}
use Rattle.chk_archive.specs.Holding.{HoldsOnce}
use Rattle.chk_archive.proofs.Holding.{found_records}
use Rattle.chk_record_index.specs.Order.{in_head_order}
use Rattle.chk_book.specs.Books.{book_view}
use Rattle.chk_archive_parts.specs.Kept.{is_first}
use Rattle.chk_archive.specs.Listed.{sources_in}
use Rattle.chk_archive.specs.Shown.{LacksOne}
use Rattle.chk_archive.specs.Taking.{AreSorted}
use Rattle.chk_archive.proofs.SpentCauses.{spent_starting, found_spent}
use Rattle.chk_archive.proofs.TakenIn.{start_fails}
use Rattle.chk_archive.proofs.Shown.{start_shown, gone_shown}
use Rattle.chk_archive.specs.declared.taking.Taken.{Taken as TakenStruct}
use Rattle.chk_archive.proofs.taking.take_found.Goals as goal

pub check_starts-requires : goal.check_starts-requires
check_starts-requires g c = record { order = (c.args.heads, c.in_ok-sort.ensures.ok) }

pub returns-in_err-sort-clause-told : goal.returns-in_err-sort-clause-told
returns-in_err-sort-clause-told g c stamped v names at files_are heads_are =
    let q = err_from_is_err_and c.from_residual.result c.from_residual.ensures.1 in
    rw (q.1, q.2) (leads_none (g.S.Site.told c.args.site.now) (λ h k. k.legal))

pub returns-in_err-check_starts-clause-told : goal.returns-in_err-check_starts-clause-told
returns-in_err-check_starts-clause-told g c stamped v names at files_are heads_are =
    let q = err_from_is_err_and c.from_residual-in_err-check_starts.result c.from_residual-in_err-check_starts.ensures.1 in
    let b = book_view c.args.book.now in
    let files = c.args.files.now in
    let heads = c.sort.new.self in
    let sorted : AreSorted v (sources_in b names) files heads c.count_first-old.result =
    record {
      files_are = files_are;
      heads_are = c.in_ok-sort.ensures.ok ∙ ap in_head_order heads_are;
      count = c.count_first-old.ensures ∙ ap (count_by is_first) heads_are;
    } in
    rw (q.1, q.2)
    (leads_none (g.S.Site.told c.args.site.now)
    (λ h k. start_fails stamped names b v at files heads c.count_first-old.result sorted b c.in_err-check_starts.field-0.0
    c.in_err-check_starts.ensures.err h k))

pub returns-in_err-planned-clause-told : goal.returns-in_err-planned-clause-told
returns-in_err-planned-clause-told g c stamped v names at files_are heads_are =
    let q = err_from_is_err_and c.from_residual-in_err-planned.result c.from_residual-in_err-planned.ensures.1 in
    rw (q.1, q.2) (leads_none (g.S.Site.told c.args.site.now) (λ h k. k.legal))

pub returns-clause-told : goal.returns-clause-told
returns-clause-told g c stamped v names at files_are heads_are =
    c.take_planned.ensures.told stamped v names at
    (record {
      files_are = files_are;
      heads_are = c.in_ok-sort.ensures.ok ∙ ap in_head_order heads_are;
      count = c.count_first-old.ensures ∙ ap (count_by is_first) heads_are;
    })

pub returns-in_err-check_starts-clause-shown : goal.returns-in_err-check_starts-clause-shown
returns-in_err-check_starts-clause-shown g c =
    let q = err_from_is_err_and c.from_residual-in_err-check_starts.result c.from_residual-in_err-check_starts.ensures.1 in
    rw (q.1, q.2)
    (start_shown TakenStruct (book_view c.args.book.now).ends c.args.files.now c.args.heads c.sort.new.self c.in_err-check_starts.field-0.0
    (g.S.Site.told c.args.site.now) c.in_ok-sort.ensures.ok c.in_err-check_starts.ensures.err)

pub returns-clause-shown : goal.returns-clause-shown
returns-clause-shown g c =
    gone_shown (book_view c.args.book.now).ends c.args.files.now c.args.heads c.sort.new.self c.take_planned.result c.in_ok-sort.ensures.ok
    c.take_planned.ensures.shown

pub returns-in_err-check_starts-clause-spent : goal.returns-in_err-check_starts-clause-spent
returns-in_err-check_starts-clause-spent g c =
    let q = err_from_is_err_and c.from_residual-in_err-check_starts.result
    c.from_residual-in_err-check_starts.ensures.1 in
    let b = book_view c.args.book.now in
    rw (q.1, q.2)
    (spent_starting (LacksOne b c.args.heads) c.args.files.now b.ends c.sort.new.self
    c.in_err-check_starts.field-0.0
    c.in_err-check_starts.ensures.err)

pub returns-clause-spent : goal.returns-clause-spent
returns-clause-spent g c =
    let b = book_view c.args.book.now in
    let p = c.in_ok-planned.planned in
    found_spent b c.args.heads c.sort.new.self c.count_first-old.result p c.take_planned.result
    c.in_ok-sort.ensures.ok c.count_first-old.ensures c.take_planned.ensures.spent

pub returns-in_err-sort-clause-raw : goal.returns-in_err-sort-clause-raw
returns-in_err-sort-clause-raw g c v sound is =
    let q = err_from_is_err_and c.from_residual.result c.from_residual.ensures.1 in
    rw (q.1, q.2) (leads_none (g.S.Site.told c.args.site.now) (λ h k. tt))

pub returns-in_err-check_starts-clause-raw : goal.returns-in_err-check_starts-clause-raw
returns-in_err-check_starts-clause-raw g c v sound is =
    let q = err_from_is_err_and c.from_residual-in_err-check_starts.result
    c.from_residual-in_err-check_starts.ensures.1 in
    rw (q.1, q.2) (leads_none (g.S.Site.told c.args.site.now) (λ h k. tt))

pub returns-in_err-planned-clause-raw : goal.returns-in_err-planned-clause-raw
returns-in_err-planned-clause-raw g c v sound is =
    let q = err_from_is_err_and c.from_residual-in_err-planned.result
    c.from_residual-in_err-planned.ensures.1 in
    rw (q.1, q.2) (leads_none (g.S.Site.told c.args.site.now) (λ h k. tt))

pub returns-clause-raw : goal.returns-clause-raw
returns-clause-raw g c v sound is =
    let files = c.args.files.now in
    let cs = in_order (found_in v files) in
    subst (λ hs. Adds (g.S.Site.told c.args.site.now) (g.S.Site.told c.take_planned.new.site)
    (Leads (anyhow (SparesFiles files)) (HasFiles files (held v))
    (HoldsOnce (book_view c.args.book.now) hs cs c.take_planned.result))) c.in_ok-sort.ensures.ok
    (c.take_planned.ensures.raw v (found_in v files)
    (found_records v files c.args.heads c.sort.new.self sound is c.in_ok-sort.ensures.ok))
