use Rattle.std.proofs.Common.{◌≡◌, ◌∙◌, Ok, Err, ap, sym, subst}
use Rattle.std.specs.Prelude.{IfErr}
use Rattle.std.proofs.lemmas.Result.{err_from_is_err_and}
use Rattle.chk_site.proofs.Leads.{leads_none, leads_as}
use Rattle.chk_world.specs.JobSteps.{IsOf, ReadsFile}
use Rattle.chk_record_index.specs.Pieces.{AsksInPieces}
use Rattle.chk_record_index.proofs.Gathering.{every_then}
use Rattle.chk_book.specs.Books.{book_view}
use Rattle.chk_world.specs.ArchiveRuns.{in_order}
use Rattle.chk_archive_parts.specs.Gathering.{held, AreSound, heads_of}
use Rattle.chk_archive_parts.specs.Records.{found_in}
use Rattle.chk_archive.specs.Holding.{HoldsOnce}
use Rattle.chk_archive.proofs.Holding.{gathered_held}
use Rattle.chk_archive_parts.proofs.StepKinds.{as_kind, fails_behind}
use Rattle.chk_archive.specs.Archived.{MergesBy, merge_reads}
use Rattle.chk_archive.specs.Listed.{sources_in}
use Rattle.chk_archive.proofs.Listings.{sources_sound}
use Rattle.chk_site.specs.Site.{Adds}
use Rattle.chk_site.specs.Runs.{anyhow, Leads}
use Rattle.chk_chunk.specs.Keys.{chunk_limit}
use Rattle.chk_record_index.specs.Order.{in_head_order}
use Rattle.chk_record_reader.specs.Segments.{HasFiles, SparesFiles, AreSettled, GatheredAll}
use Rattle.chk_archive.specs.Starts.{ToldOtherStart}
use Rattle.chk_archive.proofs.RawSources.{read_fails, read_then}
use Rattle.chk_archive.proofs.TakenIn.{found_fails, then_taken}
use Rattle.chk_archive.proofs.Shown.{taken_bad, taken_found}
use Rattle.chk_record_index.specs.ShownHeads.{ShowsAllGathered}
use Rattle.chk_record_index.specs.Causes.{Shows}
use Rattle.chk_archive.specs.Shown.{IsUnfit}
use Rattle.chk_archive.specs.declared.taking.Taken.{Taken as TakenStruct}
use Rattle.chk_archive.proofs.taking.take_in.Goals as goal

pub returns-in_err-files-clause-told : goal.returns-in_err-files-clause-told
returns-in_err-files-clause-told g c stamped v at =
    let q = err_from_is_err_and c.from_residual.result c.from_residual.ensures.1 in
    rw (q.1, q.2) (leads_none (g.S.Site.told c.args.site.now) (λ h k. k.legal))

pub returns-in_err-files-clause-raw : goal.returns-in_err-files-clause-raw
returns-in_err-files-clause-raw g c held settled =
    let q = err_from_is_err_and c.from_residual.result c.from_residual.ensures.1 in
    rw (q.1, q.2) (leads_none (g.S.Site.told c.args.site.now) (λ h k. tt))

pub returns-in_err-heads-clause-raw : goal.returns-in_err-heads-clause-raw
returns-in_err-heads-clause-raw g c held settled =
    let q = err_from_is_err_and c.from_residual-in_err-heads.result c.from_residual-in_err-heads.ensures.1 in
    let b = book_view c.args.book.now in
    let files : c.as_slice.result.now ≡ sources_in b c.args.names.now = c.as_slice.ensures.value ∙ c.in_ok-files.ensures in
    rw (q.1, q.2)
    (read_fails (sources_in b c.args.names.now) b.ends held c.in_err-heads.field-0.0
    (subst (λ ws. Adds (g.S.Site.told c.args.site.now) (g.S.Site.told c.gather_found.new.site)
    (Leads (anyhow (SparesFiles ws)) (HasFiles ws held) (GatheredAll chunk_limit ws held (Err c.in_err-heads.field-0.0)))) files
    (c.in_err-heads.ensures.raw held (subst (λ ws. AreSettled ws held) (sym files) settled))))

pub returns-clause-raw : goal.returns-clause-raw
returns-clause-raw g c held settled =
    let b = book_view c.args.book.now in
    let names = c.args.names.now in
    let heads = c.in_ok-heads.heads in
    let files : c.as_slice.result.now ≡ sources_in b names = c.as_slice.ensures.value ∙ c.in_ok-files.ensures in
    let again : c.as_slice-2.result.now ≡ sources_in b names = c.as_slice-2.ensures.value ∙ c.in_ok-files.ensures in
    read_then (sources_in b names) b.ends held heads c.take_found.result
    (subst (λ ws. Adds (g.S.Site.told c.args.site.now) (g.S.Site.told c.gather_found.new.site)
    (Leads (anyhow (SparesFiles ws)) (HasFiles ws held) (GatheredAll chunk_limit ws held (Ok heads)))) files
    (c.in_ok-heads.ensures.raw held (subst (λ ws. AreSettled ws held) (sym files) settled)))
    c.take_found.ensures.own c.take_found.ensures.starts
    (λ differ. subst (λ ws. IfErr c.take_found.result (ToldOtherStart ws b.ends (in_head_order heads))) again
    (c.take_found.ensures.other differ).0)

pub returns-in_err-heads-clause-told : goal.returns-in_err-heads-clause-told
returns-in_err-heads-clause-told g c stamped v at =
    let q = err_from_is_err_and c.from_residual-in_err-heads.result c.from_residual-in_err-heads.ensures.1 in
    let b = book_view c.args.book.now in
    let names = c.args.names.now in
    let files : c.as_slice.result.now ≡ sources_in b names = c.as_slice.ensures.value ∙ c.in_ok-files.ensures in
    let sound : AreSound v c.as_slice.result.now = subst (AreSound v) (sym files) (sources_sound stamped names b v at) in
    rw (q.1, q.2)
    (leads_as (λ h k. k)
    (λ h k. found_fails stamped v b b c.as_slice.result.now c.in_err-heads.field-0.0 c.in_err-heads.ensures.only h k)
    (c.in_err-heads.ensures.told stamped v sound))

pub returns-in_err-heads-clause-own : goal.returns-in_err-heads-clause-own
returns-in_err-heads-clause-own g c = as_kind ReadsFile MergesBy (λ call k. merge_reads call k) c.gather_found.ensures.own

pub returns-clause-told : goal.returns-clause-told
returns-clause-told g c stamped v at =
    let b = book_view c.args.book.now in
    let names = c.args.names.now in
    let files : c.as_slice.result.now ≡ sources_in b names = c.as_slice.ensures.value ∙ c.in_ok-files.ensures in
    let again : c.as_slice-2.result.now ≡ sources_in b names = c.as_slice-2.ensures.value ∙ c.in_ok-files.ensures in
    let sound : AreSound v c.as_slice.result.now = subst (AreSound v) (sym files) (sources_sound stamped names b v at) in
    then_taken stamped v b (book_view c.take_found.new.book) c.as_slice.result.now
    (c.in_ok-heads.heads ≡ heads_of v 0 c.as_slice.result.now) c.take_found.result
    (c.in_ok-heads.ensures.told stamped v sound) c.take_found.ensures.own
    (λ is. c.take_found.ensures.told stamped v names at again
    (subst (λ f. c.in_ok-heads.heads ≡ heads_of v 0 f) (files ∙ sym again) is))

pub returns-clause-own : goal.returns-clause-own
returns-clause-own g c =
    every_then (IsOf MergesBy) (as_kind ReadsFile MergesBy (λ call k. merge_reads call k) c.gather_found.ensures.own)
    c.take_found.ensures.own

pub returns-clause-pieces : goal.returns-clause-pieces
returns-clause-pieces g c = every_then AsksInPieces c.gather_found.ensures.pieces c.take_found.ensures.pieces

pub returns-clause-last : goal.returns-clause-last
returns-clause-last g c = fails_behind c.take_found.result c.gather_found.ensures.pieces c.take_found.ensures.last

pub returns-in_err-heads-clause-shown : goal.returns-in_err-heads-clause-shown
returns-in_err-heads-clause-shown g c =
    let q = err_from_is_err_and c.from_residual-in_err-heads.result c.from_residual-in_err-heads.ensures.1 in
    let b = book_view c.args.book.now in
    let files : c.as_slice.result.now ≡ sources_in b c.args.names.now = c.as_slice.ensures.value ∙ c.in_ok-files.ensures in
    rw (q.1, q.2)
    (taken_bad TakenStruct b (sources_in b c.args.names.now) c.in_err-heads.field-0.0
    c.in_err-heads.ensures.only
    (subst (λ ws. Adds (g.S.Site.told c.args.site.now) (g.S.Site.told c.gather_found.new.site)
    (ShowsAllGathered chunk_limit ws (Err c.in_err-heads.field-0.0))) files c.in_err-heads.ensures.shown))

pub returns-clause-shown : goal.returns-clause-shown
returns-clause-shown g c =
    let b = book_view c.args.book.now in
    let names = c.args.names.now in
    let heads = c.in_ok-heads.heads in
    let files : c.as_slice.result.now ≡ sources_in b names = c.as_slice.ensures.value ∙ c.in_ok-files.ensures in
    let again : c.as_slice-2.result.now ≡ sources_in b names = c.as_slice-2.ensures.value ∙ c.in_ok-files.ensures in
    taken_found b (sources_in b names) heads c.take_found.result c.take_found.ensures.starts
    c.take_found.ensures.spent
    (subst (λ ws. Adds (g.S.Site.told c.args.site.now) (g.S.Site.told c.gather_found.new.site)
    (ShowsAllGathered chunk_limit ws (Ok heads))) files c.in_ok-heads.ensures.shown)
    (subst (λ ws. Adds (g.S.Site.told c.gather_found.new.site) (g.S.Site.told c.take_found.new.site)
    (Shows (IsUnfit b.ends ws heads) c.take_found.result)) again c.take_found.ensures.shown)

pub returns-in_err-files-clause-holds : goal.returns-in_err-files-clause-holds
returns-in_err-files-clause-holds g c v sound settled =
    let q = err_from_is_err_and c.from_residual.result c.from_residual.ensures.1 in
    rw (q.1, q.2) (leads_none (g.S.Site.told c.args.site.now) (λ h k. tt))

pub returns-in_err-heads-clause-holds : goal.returns-in_err-heads-clause-holds
returns-in_err-heads-clause-holds g c v sound settled =
    let q = err_from_is_err_and c.from_residual-in_err-heads.result c.from_residual-in_err-heads.ensures.1 in
    let b = book_view c.args.book.now in
    let files : c.as_slice.result.now ≡ sources_in b c.args.names.now = c.as_slice.ensures.value ∙ c.in_ok-files.ensures in
    rw (q.1, q.2)
    (leads_as (λ h k. k) (λ h k. tt)
    (subst (λ ws. Adds (g.S.Site.told c.args.site.now) (g.S.Site.told c.gather_found.new.site)
    (Leads (anyhow (SparesFiles ws)) (HasFiles ws (held v))
    (GatheredAll chunk_limit ws (held v) (Err c.in_err-heads.field-0.0)))) files
    (c.in_err-heads.ensures.raw (held v) (subst (λ ws. AreSettled ws (held v)) (sym files) settled))))

pub returns-clause-holds : goal.returns-clause-holds
returns-clause-holds g c v sound settled =
    let b = book_view c.args.book.now in
    let names = c.args.names.now in
    let heads = c.in_ok-heads.heads in
    let files : c.as_slice.result.now ≡ sources_in b names = c.as_slice.ensures.value ∙ c.in_ok-files.ensures in
    let again : c.as_slice-2.result.now ≡ sources_in b names = c.as_slice-2.ensures.value ∙ c.in_ok-files.ensures in
    gathered_held b v (sources_in b names) heads c.take_found.result
    (subst (λ ws. Adds (g.S.Site.told c.args.site.now) (g.S.Site.told c.gather_found.new.site)
    (Leads (anyhow (SparesFiles ws)) (HasFiles ws (held v))
    (GatheredAll chunk_limit ws (held v) (Ok heads)))) files
    (c.in_ok-heads.ensures.raw (held v) (subst (λ ws. AreSettled ws (held v)) (sym files) settled)))
    c.take_found.ensures.own
    (λ is.
    subst (λ ws. Adds (g.S.Site.told c.gather_found.new.site) (g.S.Site.told c.take_found.new.site)
    (Leads (anyhow (SparesFiles ws)) (HasFiles ws (held v))
    (HoldsOnce b (in_head_order heads) (in_order (found_in v ws)) c.take_found.result))) again
    (c.take_found.ensures.raw v (subst (AreSound v) (sym again) sound)
    (is ∙ ap (heads_of v 0) (sym again))))
