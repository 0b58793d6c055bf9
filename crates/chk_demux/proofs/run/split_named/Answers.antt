use Rattle.std.proofs.Common.{◌≡◌, ℕ, subst, refl, ◌∙◌}
use Rattle.std.proofs.lemmas.Result.{err_from_is_err_and}
use Rattle.chk_site.proofs.Leads.{leads_none}
use Rattle.chk_record_index.specs.Faults.{JobCause}
use Rattle.chk_world.specs.Sight.{AtJob}
use Rattle.chk_book.specs.Books.{book_view}
use Rattle.chk_demux.specs.Running.{RunsOn, archive_heads}
use Rattle.chk_demux.specs.Splitting.{texts, all_chunks, all_left}
use Rattle.chk_demux.specs.Writes.{IsOutput}
use Rattle.chk_demux.specs.Due.{HasDue}
use Rattle.chk_demux.specs.Shown.{PutsIf}
use Rattle.chk_demux.proofs.Ends.{cause_behind, no_more}
use Rattle.chk_demux.proofs.RawSplit.{heads_refused, heads_read, older_fails, older_split}
use Rattle.chk_demux.proofs.RunSteps.{no_heads, split_so, splits}
use Rattle.chk_archive_parts.proofs.Works.{works_result, works_memory}
use Rattle.chk_site.proofs.Runs.{adds_none, adds_as}
use Rattle.chk_demux.proofs.Shown.{heads_fail, gone_behind}
use Rattle.chk_demux.proofs.NewHeads.{put_behind}
use Rattle.chk_demux.proofs.run.split_named.Goals as goal

pub returns-in_err-files-clause-told : goal.returns-in_err-files-clause-told
returns-in_err-files-clause-told g c stamped v cs can none =
    let q = err_from_is_err_and c.from_residual.result c.from_residual.ensures.1 in
    let a = book_view c.args.archive.now in
    let b = book_view c.args.book.now in
    rw (q.1, q.2)
    (no_more {U = ℕ} stamped (AtJob stamped (λ u. u ≡ v)) (λ u. u ≡ v)
    (λ left u. IsOutput v (all_chunks (texts c.args.types.now) b (archive_heads v a) cs a.ends) c.args.output.now u
    × (left ≡ all_left (texts c.args.types.now) b cs a.ends))
    (leads_none (g.S.Site.told c.args.site.now) (λ h z. z)))

pub returns-in_err-files-clause-raw : goal.returns-in_err-files-clause-raw
returns-in_err-files-clause-raw g c held settled counts sorted rises =
    let q = err_from_is_err_and c.from_residual.result c.from_residual.ensures.1 in
    rw (q.1, q.2) (leads_none (g.S.Site.told c.args.site.now) (λ h z. tt))

pub returns-in_err-files-clause-writer : goal.returns-in_err-files-clause-writer
returns-in_err-files-clause-writer g c =
    let q = err_from_is_err_and c.from_residual.result c.from_residual.ensures.1 in
    rw q.1 tt

pub returns-in_err-files-clause-works : goal.returns-in_err-files-clause-works
returns-in_err-files-clause-works g c =
    let q = err_from_is_err_and c.from_residual.result c.from_residual.ensures.1 in
    rw (q.1, q.2) (works_memory ℕ RunsOn (g.S.Site.told c.args.site.now))

pub returns-in_err-files-clause-cause : goal.returns-in_err-files-clause-cause
returns-in_err-files-clause-cause g c =
    let q = err_from_is_err_and c.from_residual.result c.from_residual.ensures.1 in
    rw (q.1, q.2) refl

pub returns-in_err-heads-clause-told : goal.returns-in_err-heads-clause-told
returns-in_err-heads-clause-told g c stamped v cs can none =
    let q = err_from_is_err_and c.from_residual-in_err-heads.result c.from_residual-in_err-heads.ensures.1 in
    let a = book_view c.args.archive.now in
    let b = book_view c.args.book.now in
    let o = c.args.output.now in
    let names = c.as_slice-names.result.now in
    let are = c.as_slice-names.ensures.value ∙ c.in_ok-files.ensures in
    rw (q.1, q.2)
    (no_heads stamped (texts c.args.types.now) a b v cs can o o none names are c.heads_for_split.result
    (c.heads_for_split.ensures.told stamped v cs can) c.in_err-heads.field-0.0 c.in_err-heads.was)

pub heads_for_split-requires-clause-names : goal.heads_for_split-requires-clause-names
heads_for_split-requires-clause-names g c = c.as_slice-names.ensures.value ∙ c.in_ok-files.ensures

pub returns-in_err-heads-clause-raw : goal.returns-in_err-heads-clause-raw
returns-in_err-heads-clause-raw g c held settled counts sorted rises =
    let q = err_from_is_err_and c.from_residual-in_err-heads.result c.from_residual-in_err-heads.ensures.1 in
    let old = c.args.output.now.entries in
    rw (q.1, q.2)
    (heads_refused (book_view c.args.archive.now) held settled counts (texts c.args.types.now)
    (book_view c.args.book.now) old old c.heads_for_split.result
    (c.heads_for_split.ensures.raw held settled sorted rises) c.in_err-heads.field-0.0 c.in_err-heads.was)

pub returns-clause-raw : goal.returns-clause-raw
returns-clause-raw g c held settled counts sorted rises =
    heads_read (book_view c.args.archive.now) held settled counts (texts c.args.types.now)
    (book_view c.args.book.now) c.args.output.now.entries c.split_streams.new.output.entries
    c.heads_for_split.result
    (c.heads_for_split.ensures.raw held settled sorted rises) sorted c.in_ok-heads.heads
    c.in_ok-heads.was c.as_slice-names.result.now
    (c.as_slice-names.ensures.value ∙ c.in_ok-files.ensures) (book_view c.args.book.now).next c.split_streams.result
    c.split_streams.ensures.works
    (λ v cs ws records bytes within own apart rise.
    c.split_streams.ensures.raw v cs ws records bytes within own apart rise rises)

pub returns-in_err-heads-clause-writer : goal.returns-in_err-heads-clause-writer
returns-in_err-heads-clause-writer g c =
    let q = err_from_is_err_and c.from_residual-in_err-heads.result c.from_residual-in_err-heads.ensures.1 in
    rw q.1 tt

pub returns-in_err-heads-clause-works : goal.returns-in_err-heads-clause-works
returns-in_err-heads-clause-works g c =
    let q = err_from_is_err_and c.from_residual-in_err-heads.result c.from_residual-in_err-heads.ensures.1 in
    rw (q.1, q.2)
    (works_result ℕ RunsOn c.heads_for_split.result c.in_err-heads.field-0.0 c.in_err-heads.was
    c.heads_for_split.ensures.works)

pub returns-in_err-heads-clause-cause : goal.returns-in_err-heads-clause-cause
returns-in_err-heads-clause-cause g c =
    let q = err_from_is_err_and c.from_residual-in_err-heads.result c.from_residual-in_err-heads.ensures.1 in
    let old = g.S.Site.fault_count c.args.site.now in
    rw (q.1, q.2)
    (cause_behind ℕ c.heads_for_split.result c.in_err-heads.field-0.0 c.in_err-heads.was old old
    (g.S.Site.fault_count c.heads_for_split.new.site) refl c.heads_for_split.ensures.cause)

pub returns-clause-told : goal.returns-clause-told
returns-clause-told g c stamped v cs can none =
    let a = book_view c.args.archive.now in
    let b = book_view c.args.book.now in
    let o = c.args.output.now in
    let n = c.split_streams.new.output in
    let names = c.as_slice-names.result.now in
    let are = c.as_slice-names.ensures.value ∙ c.in_ok-files.ensures in
    split_so stamped (texts c.args.types.now) a b v cs can o n none names are c.heads_for_split.result
    (c.heads_for_split.ensures.told stamped v cs can)
    c.in_ok-heads.heads c.in_ok-heads.was c.split_streams.result c.split_streams.ensures.works
    (λ ds. c.split_streams.ensures.told stamped v ds)

pub returns-clause-writer : goal.returns-clause-writer
returns-clause-writer g c = c.split_streams.ensures.writer

pub returns-clause-works : goal.returns-clause-works
returns-clause-works g c =
    splits (book_view c.args.book.now).next c.heads_for_split.result c.split_streams.result
    c.heads_for_split.ensures.works c.split_streams.ensures.works

pub returns-clause-cause : goal.returns-clause-cause
returns-clause-cause g c =
    subst (λ n. JobCause n (g.S.Site.fault_count c.split_streams.new.site) c.split_streams.result)
    c.in_ok-heads.ensures.cause c.split_streams.ensures.cause

pub returns-in_err-files-clause-shown : goal.returns-in_err-files-clause-shown
returns-in_err-files-clause-shown g c sorted =
    let q = err_from_is_err_and c.from_residual.result c.from_residual.ensures.1 in
    rw (q.1, q.2) (adds_none _ _ (λ history. tt))

pub returns-in_err-heads-clause-shown : goal.returns-in_err-heads-clause-shown
returns-in_err-heads-clause-shown g c sorted =
    let q = err_from_is_err_and c.from_residual-in_err-heads.result c.from_residual-in_err-heads.ensures.1 in
    rw (q.1, q.2)
    (heads_fail ℕ (book_view c.args.archive.now) c.in_err-heads.field-0.0 (c.in_err-heads.ensures.shown sorted))

pub returns-clause-shown : goal.returns-clause-shown
returns-clause-shown g c sorted =
    gone_behind (book_view c.args.archive.now) c.as_slice-names.result.now c.in_ok-heads.heads c.split_streams.result
    (c.as_slice-names.ensures.value ∙ c.in_ok-files.ensures) (c.in_ok-heads.ensures.shown sorted)
    c.split_streams.ensures.shown

pub returns-in_err-files-clause-only : goal.returns-in_err-files-clause-only
returns-in_err-files-clause-only g c =
    let q = err_from_is_err_and c.from_residual.result c.from_residual.ensures.1 in
    rw (q.1, q.2) tt

pub returns-in_err-heads-clause-only : goal.returns-in_err-heads-clause-only
returns-in_err-heads-clause-only g c =
    let q = err_from_is_err_and c.from_residual-in_err-heads.result
    c.from_residual-in_err-heads.ensures.1 in
    rw (q.1, q.2) c.in_err-heads.ensures.only

pub returns-clause-only : goal.returns-clause-only
returns-clause-only g c = c.split_streams.ensures.only

pub returns-in_err-files-clause-due : goal.returns-in_err-files-clause-due
returns-in_err-files-clause-due g c sorted =
    let q = err_from_is_err_and c.from_residual.result c.from_residual.ensures.1 in
    rw (q.1, q.2) (adds_none _ _ (λ history. tt))

pub returns-in_err-heads-clause-due : goal.returns-in_err-heads-clause-due
returns-in_err-heads-clause-due g c sorted =
    let q = err_from_is_err_and c.from_residual-in_err-heads.result
    c.from_residual-in_err-heads.ensures.1 in
    rw (q.1, q.2) (adds_as _ (c.in_err-heads.ensures.shown sorted) (λ added history x. tt))

pub returns-clause-due : goal.returns-clause-due
returns-clause-due g c sorted =
    put_behind (book_view c.args.archive.now) (book_view c.args.book.now) c.in_ok-heads.heads
    c.split_streams.result c.args.output.now.entries c.split_streams.new.output.entries
    c.split_streams.ensures.due (c.in_ok-heads.ensures.shown sorted) c.split_streams.ensures.works

-- ---- whatever the older files are

pub returns-in_err-files-clause-older : goal.returns-in_err-files-clause-older
returns-in_err-files-clause-older g c held k enough settled counts sorted rises =
    let q = err_from_is_err_and c.from_residual.result c.from_residual.ensures.1 in
    rw (q.1, q.2) (leads_none (g.S.Site.told c.args.site.now) (λ h z. tt))

pub returns-in_err-heads-clause-older : goal.returns-in_err-heads-clause-older
returns-in_err-heads-clause-older g c held k enough settled counts sorted rises =
    let q = err_from_is_err_and c.from_residual-in_err-heads.result c.from_residual-in_err-heads.ensures.1 in
    rw (q.1, q.2)
    (older_fails (book_view c.args.archive.now) (book_view c.args.book.now) held k settled counts
    c.heads_for_split.result (c.heads_for_split.ensures.older held k enough settled sorted rises)
    c.in_err-heads.field-0.0 c.in_err-heads.was)

pub returns-clause-older : goal.returns-clause-older
returns-clause-older g c held k enough settled counts sorted rises =
    let a = book_view c.args.archive.now in
    let b = book_view c.args.book.now in
    older_split a b held k settled counts c.heads_for_split.result
    (c.heads_for_split.ensures.older held k enough settled sorted rises) c.in_ok-heads.heads
    c.in_ok-heads.was c.as_slice-names.result.now
    (c.as_slice-names.ensures.value ∙ c.in_ok-files.ensures)
    b.next
    (λ cs. PutsIf (HasDue (texts c.args.types.now) a b cs) c.args.output.now.entries
    c.split_streams.new.output.entries)
    c.split_streams.result c.split_streams.ensures.works
    (λ v cs ws records bytes within own apart rise.
    c.split_streams.ensures.raw v cs ws records bytes within own apart rise rises)
