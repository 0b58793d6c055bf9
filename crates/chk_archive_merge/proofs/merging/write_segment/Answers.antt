use Rattle.std.proofs.Common.{◌∙◌, Bool, map, Ok, Err, refl, sym, subst, true, true≢false}
use Rattle.std.proofs.lemmas.List.{length-map}
use Rattle.std.proofs.lemmas.Result.{err_from_is_err_and}
use Rattle.chk_site.specs.Site.{Adds}
use Rattle.chk_site.specs.Runs.{anyhow, Leads}
use Rattle.chk_site.proofs.Runs.{adds_then}
use Rattle.chk_site.proofs.Leads.{leads_as, leads_then, leads_frame}
use Rattle.chk_world.specs.Books.{Book}
use Rattle.chk_world.specs.JobSteps.{ReadsOrWrites, SparesFile}
use Rattle.chk_book.proofs.Added.{cause_later, spent_write, write_begins}
use Rattle.chk_book.specs.declared.segmenter.Segmenter.{Segmenter}
use Rattle.chk_book.specs.Books.{book_view}
use Rattle.chk_book.specs.Folders.{segment_name, most_in}
use Rattle.chk_book.specs.Segmenting.{HoldsSegment}
use Rattle.chk_book.specs.Views.{end_view}
use Rattle.chk_book.specs.Written.{HasEnded}
use Rattle.chk_record_reader.specs.Merging.{bare_book}
use Rattle.chk_record_reader.proofs.OnePass.{AreRising}
use Rattle.chk_record_reader.proofs.MergedInto.{spent_same}
use Rattle.chk_archive_merge.specs.Merges.{AreOpen}
use Rattle.chk_archive_merge.proofs.Beside.{write_beside}
use Rattle.chk_book.proofs.Segmented.{unsaid as led_anyhow}
use Rattle.chk_archive_merge.proofs.Wholes.{finished}
use Rattle.chk_archive_merge.proofs.Works.{works_value, works_fault, works_write, works_named}
use Rattle.chk_book.proofs.Works.{works_then}
use Rattle.chk_archive_merge.proofs.merging.write_segment.Goals as goal

pub returns-in_err-segmenter-clause-raw : goal.returns-in_err-segmenter-clause-raw
returns-in_err-segmenter-clause-raw g c held settled apart rising =
    let p = err_from_is_err_and c.from_residual.result c.from_residual.ensures.1 in
    rw (p.1, p.2) (led_anyhow (λ h. tt) c.in_err-segmenter.ensures.last)

pub returns-in_err-segmenter-clause-works : goal.returns-in_err-segmenter-clause-works
returns-in_err-segmenter-clause-works g c =
    let p = err_from_is_err_and c.from_residual.result c.from_residual.ensures.1 in
    let segment = segment_name c.args.folder.now c.args.merged.now.next in
    rw (p.1, p.2)
    (works_fault {T = Segmenter} {U = Bool} (ReadsOrWrites segment) c.in_err-segmenter.field-0.0
    (works_write {T = Segmenter} segment (Err c.in_err-segmenter.field-0.0) (c.in_err-segmenter.ensures.own c.requires.job) c.in_err-segmenter.ensures.last))

pub returns-in_err-segmenter-clause-spent : goal.returns-in_err-segmenter-clause-spent
returns-in_err-segmenter-clause-spent g c =
    let p = err_from_is_err_and c.from_residual.result c.from_residual.ensures.1 in
    rw (p.1, p.2)
    (spent_same Segmenter (Unit {0}) (book_view c.args.merged.now) (bare_book c.args.merged.now.next) c.in_err-segmenter.field-0.0 refl
    c.in_err-segmenter.ensures.spent)

pub returns-in_err-segmenter-clause-only : goal.returns-in_err-segmenter-clause-only
returns-in_err-segmenter-clause-only g c =
    let p = err_from_is_err_and c.from_residual.result c.from_residual.ensures.1 in
    rw (p.1, p.2) c.in_err-segmenter.ensures.only

pub returns-in_err-segmenter-clause-cause : goal.returns-in_err-segmenter-clause-cause
returns-in_err-segmenter-clause-cause g c =
    let p = err_from_is_err_and c.from_residual.result c.from_residual.ensures.1 in
    rw (p.1, p.2)
    (cause_later Bool Segmenter c.in_err-segmenter.field-0.0 (g.S.Site.fault_count c.args.site.now) (g.S.Site.fault_count c.args.site.now)
    (g.S.Site.fault_count c.begin_segment.new.site) refl c.in_err-segmenter.ensures.cause)

pub write_all-requires-clause-who : goal.write_all-requires-clause-who
write_all-requires-clause-who g c = c.in_ok-segmenter.ensures.who

pub write_all-requires-clause-begun : goal.write_all-requires-clause-begun
write_all-requires-clause-begun g c = c.in_ok-segmenter.ensures.at

pub returns-in_err-write_all-clause-raw : goal.returns-in_err-write_all-clause-raw
returns-in_err-write_all-clause-raw g c held settled apart rising =
    let p = err_from_is_err_and c.from_residual-in_err-write_all.result c.from_residual-in_err-write_all.ensures.1 in
    let segment = segment_name c.args.folder.now c.args.merged.now.next in
    rw (p.1, p.2)
    (led_anyhow (λ h. tt)
    (works_then {T = Segmenter} {U = Bool} (ReadsOrWrites segment) (Ok c.in_ok-segmenter.segmenter) (Err c.in_err-write_all.field-0.0)
    (works_write segment (Ok c.in_ok-segmenter.segmenter) (c.in_ok-segmenter.ensures.own c.requires.job) c.in_ok-segmenter.ensures.last)
    c.in_err-write_all.ensures.works))

pub returns-in_err-write_all-clause-works : goal.returns-in_err-write_all-clause-works
returns-in_err-write_all-clause-works g c =
    let p = err_from_is_err_and c.from_residual-in_err-write_all.result c.from_residual-in_err-write_all.ensures.1 in
    let segment = segment_name c.args.folder.now c.args.merged.now.next in
    rw (p.1, p.2)
    (works_then {T = Segmenter} {U = Bool} (ReadsOrWrites segment) (Ok c.in_ok-segmenter.segmenter) (Err c.in_err-write_all.field-0.0)
    (works_write segment (Ok c.in_ok-segmenter.segmenter) (c.in_ok-segmenter.ensures.own c.requires.job) c.in_ok-segmenter.ensures.last)
    c.in_err-write_all.ensures.works)

pub returns-in_err-write_all-clause-spent : goal.returns-in_err-write_all-clause-spent
returns-in_err-write_all-clause-spent g c =
    let p = err_from_is_err_and c.from_residual-in_err-write_all.result c.from_residual-in_err-write_all.ensures.1 in
    rw (p.1, p.2)
    (spent_write (Unit {0}) (bare_book c.args.merged.now.next) c.in_err-write_all.field-0.0 c.in_err-write_all.ensures.only c.in_ok-segmenter.ensures.spent)

pub returns-in_err-write_all-clause-only : goal.returns-in_err-write_all-clause-only
returns-in_err-write_all-clause-only g c =
    let p = err_from_is_err_and c.from_residual-in_err-write_all.result c.from_residual-in_err-write_all.ensures.1 in
    rw (p.1, p.2) (write_begins c.in_err-write_all.field-0.0 c.in_err-write_all.ensures.only)

pub returns-in_err-write_all-clause-cause : goal.returns-in_err-write_all-clause-cause
returns-in_err-write_all-clause-cause g c =
    let p = err_from_is_err_and c.from_residual-in_err-write_all.result c.from_residual-in_err-write_all.ensures.1 in
    rw (p.1, p.2)
    (cause_later Bool Bool c.in_err-write_all.field-0.0 (g.S.Site.fault_count c.args.site.now) (g.S.Site.fault_count c.begin_segment.new.site)
    (g.S.Site.fault_count c.write_all.new.site) c.in_ok-segmenter.ensures.cause c.in_err-write_all.ensures.cause)

pub returns-then-not-branch-clause-raw : goal.returns-then-not-branch-clause-raw
returns-then-not-branch-clause-raw g c held settled apart rising =
    let folder = c.args.folder.now in
    let next = c.args.merged.now.next in
    let names = c.args.names.now in
    let cs = c.args.cursors.now in
    leads_then
    (leads_as (λ h x. ((x.0, tt), x.1)) (λ h x. ((x.0.0, x.0.1), x.1))
    (leads_frame (λ h. AreOpen (most_in folder) names held cs) (λ h step e. e)
    (write_beside names held (segment_name folder next) settled apart c.in_ok-segmenter.ensures.raw (c.in_ok-segmenter.ensures.own c.requires.job))))
    (rw c.if-not-branch.true at c.in_ok-write_all.ensures.raw held settled apart)

pub returns-then-not-branch-clause-works : goal.returns-then-not-branch-clause-works
returns-then-not-branch-clause-works g c =
    let segment = segment_name c.args.folder.now c.args.merged.now.next in
    works_then (ReadsOrWrites segment) (Ok c.in_ok-segmenter.segmenter) (Ok _)
    (works_write segment (Ok c.in_ok-segmenter.segmenter) (c.in_ok-segmenter.ensures.own c.requires.job) c.in_ok-segmenter.ensures.last)
    (works_value (ReadsOrWrites segment) c.in_ok-write_all.field-0 _ c.in_ok-write_all.ensures.works)

pub returns-then-not-branch-clause-next : goal.returns-then-not-branch-clause-next
returns-then-not-branch-clause-next g c so = absurd (true≢false (sym so))

pub returns-then-not-branch-clause-cause : goal.returns-then-not-branch-clause-cause
returns-then-not-branch-clause-cause g c = c.in_ok-write_all.ensures.cause ∙ c.in_ok-segmenter.ensures.cause

pub finish-requires : goal.finish-requires
finish-requires g c =
    let some = c.in_ok-write_all.ensures.some c.if-not-branch.false in some.1.number ∙ some.3

pub returns-in_err-finish-clause-works : goal.returns-in_err-finish-clause-works
returns-in_err-finish-clause-works g c =
    let p = err_from_is_err_and c.from_residual-in_err-finish.result c.from_residual-in_err-finish.ensures.1 in
    let segment = segment_name c.args.folder.now c.args.merged.now.next in
    let K = ReadsOrWrites segment in
    let some = c.in_ok-write_all.ensures.some c.if-not-branch.false in
    rw (p.1, p.2)
    (works_then {T = Segmenter} {U = Bool} K (Ok c.in_ok-segmenter.segmenter) (Err c.in_err-finish.field-0.0)
    (works_write segment (Ok c.in_ok-segmenter.segmenter) (c.in_ok-segmenter.ensures.own c.requires.job) c.in_ok-segmenter.ensures.last)
    (works_then {T = Bool} {U = Bool} K (Ok c.in_ok-write_all.field-0) (Err c.in_err-finish.field-0.0) c.in_ok-write_all.ensures.works
    (works_fault {T = Unit {0}} {U = Bool} K c.in_err-finish.field-0.0
    (works_named {T = Unit {0}} some.0 c.args.folder.now c.args.merged.now.next (Err c.in_err-finish.field-0.0) some.2 some.3
    (works_write {T = Unit {0}} (segment_name some.0.folder some.0.number) (Err c.in_err-finish.field-0.0)
    (c.in_err-finish.ensures.own some.0 some.1 (c.write_all.ensures.who ∙ (c.in_ok-segmenter.ensures.who ∙ c.requires.job)))
    c.in_err-finish.ensures.last)))))

pub returns-in_err-finish-clause-raw : goal.returns-in_err-finish-clause-raw
returns-in_err-finish-clause-raw g c held settled apart rising =
    let p = err_from_is_err_and c.from_residual-in_err-finish.result c.from_residual-in_err-finish.ensures.1 in
    rw (p.1, p.2)
    (led_anyhow (λ h. tt)
    (adds_then (λ added history. Unit {0}) c.in_ok-segmenter.ensures.last
    (adds_then (λ added history. Unit {0}) c.in_ok-write_all.ensures.works c.in_err-finish.ensures.last (λ a b history x y. tt))
    (λ a b history x y. tt)))

pub returns-in_err-finish-clause-spent : goal.returns-in_err-finish-clause-spent
returns-in_err-finish-clause-spent g c =
    let p = err_from_is_err_and c.from_residual-in_err-finish.result c.from_residual-in_err-finish.ensures.1 in
    rw (p.1, p.2)
    (spent_write (Unit {0}) (bare_book c.args.merged.now.next) c.in_err-finish.field-0.0 c.in_err-finish.ensures.only c.in_ok-segmenter.ensures.spent)

pub returns-in_err-finish-clause-only : goal.returns-in_err-finish-clause-only
returns-in_err-finish-clause-only g c =
    let p = err_from_is_err_and c.from_residual-in_err-finish.result c.from_residual-in_err-finish.ensures.1 in
    rw (p.1, p.2) (write_begins c.in_err-finish.field-0.0 c.in_err-finish.ensures.only)

pub returns-in_err-finish-clause-cause : goal.returns-in_err-finish-clause-cause
returns-in_err-finish-clause-cause g c =
    let p = err_from_is_err_and c.from_residual-in_err-finish.result c.from_residual-in_err-finish.ensures.1 in
    rw (p.1, p.2)
    (cause_later Bool (Unit {0}) c.in_err-finish.field-0.0 (g.S.Site.fault_count c.args.site.now) (g.S.Site.fault_count c.write_all.new.site)
    (g.S.Site.fault_count c.finish.new.site) (c.in_ok-write_all.ensures.cause ∙ c.in_ok-segmenter.ensures.cause) c.in_err-finish.ensures.cause)

pub returns-clause-raw : goal.returns-clause-raw
returns-clause-raw g c held settled apart rising =
    let folder = c.args.folder.now in
    let next = c.args.merged.now.next in
    let names = c.args.names.now in
    let cs = c.args.cursors.now in
    let es = map end_view c.args.ends.now in
    let s = c.write_all.new.segmenter in
    leads_then
    (leads_as (λ h x. ((x.0, tt), x.1)) (λ h x. ((x.0.0, x.0.1), x.1))
    (leads_frame (λ h. AreOpen (most_in folder) names held cs) (λ h step e. e)
    (write_beside names held (segment_name folder next) settled apart c.in_ok-segmenter.ensures.raw (c.in_ok-segmenter.ensures.own c.requires.job))))
    (leads_then (rw c.if-not-branch.false at c.in_ok-write_all.ensures.raw held settled apart)
    (finished names held es folder next s (book_view c.finish.new.book)
    (subst (AreRising es) (sym (length-map c.args.ends.now end_view)) rising) settled apart c.in_ok-finish.ensures.last
    (λ w at.
    subst
    (λ (b : Book). Adds (g.S.Site.told c.write_all.new.site) (g.S.Site.told c.finish.new.site)
    (Leads (anyhow (SparesFile (segment_name w.folder w.number))) (HoldsSegment w) (HasEnded w b (book_view c.finish.new.book) (Ok tt))))
    c.requires.bare (c.in_ok-finish.ensures.raw w at))
    (λ w at. c.in_ok-finish.ensures.own w at (c.write_all.ensures.who ∙ (c.in_ok-segmenter.ensures.who ∙ c.requires.job)))))

pub returns-clause-works : goal.returns-clause-works
returns-clause-works g c =
    let segment = segment_name c.args.folder.now c.args.merged.now.next in
    let K = ReadsOrWrites segment in
    let some = c.in_ok-write_all.ensures.some c.if-not-branch.false in
    works_then K (Ok c.in_ok-segmenter.segmenter) (Ok true)
    (works_write segment (Ok c.in_ok-segmenter.segmenter) (c.in_ok-segmenter.ensures.own c.requires.job) c.in_ok-segmenter.ensures.last)
    (works_then K (Ok c.in_ok-write_all.field-0) (Ok true) c.in_ok-write_all.ensures.works
    (works_value K (tt {0}) true
    (works_named {T = Unit {0}} some.0 c.args.folder.now c.args.merged.now.next (Ok (tt {0})) some.2 some.3
    (works_write {T = Unit {0}} (segment_name some.0.folder some.0.number) (Ok (tt {0}))
    (c.in_ok-finish.ensures.own some.0 some.1 (c.write_all.ensures.who ∙ (c.in_ok-segmenter.ensures.who ∙ c.requires.job)))
    c.in_ok-finish.ensures.last))))

pub returns-clause-next : goal.returns-clause-next
returns-clause-next g c so = c.in_ok-finish.ensures.next

pub returns-clause-cause : goal.returns-clause-cause
returns-clause-cause g c = c.in_ok-finish.ensures.cause ∙ (c.in_ok-write_all.ensures.cause ∙ c.in_ok-segmenter.ensures.cause)
