use Rattle.std.proofs.Common.{◌∙◌, ℕ, Bool, Option, Some, None, Ok, Err, true, false}
use Rattle.std.proofs.lemmas.Result.{err_from_is_err_and}
use Rattle.chk_world.specs.JobSteps.{ReadsOrWrites}
use Rattle.chk_book.proofs.Added.{cause_later}
use Rattle.chk_book.specs.Folders.{segment_name}
use Rattle.chk_book.specs.Views.{end_view}
use Rattle.chk_book.specs.Written.{taken}
use Rattle.chk_archive_merge.specs.Merges.{chunk_here}
use Rattle.chk_archive_merge.proofs.Beside.{read_beside}
use Rattle.chk_book.proofs.Segmented.{unsaid as led_anyhow}
use Rattle.chk_archive_merge.proofs.Putting.{put_on, put_off, put_none}
use Rattle.chk_archive_merge.proofs.Works.{works_value, works_fault, works_read, works_write}
use Rattle.chk_book.proofs.Works.{works_then}
use Rattle.chk_archive_merge.proofs.merging.write_one.Goals as goal

pub put_one-requires-clause-job : goal.put_one-requires-clause-job
put_one-requires-clause-job g c = c.requires.who ∙ c.requires.job

pub returns-in_err-next-clause-raw : goal.returns-in_err-next-clause-raw
returns-in_err-next-clause-raw g c w names held at settled apart one =
    let p = err_from_is_err_and c.from_residual.result c.from_residual.ensures.1 in
    rw (p.1, p.2) (led_anyhow (λ h. tt) (c.in_err-next.ensures.own w at))

pub returns-in_err-next-clause-works : goal.returns-in_err-next-clause-works
returns-in_err-next-clause-works g c w at =
    let p = err_from_is_err_and c.from_residual.result c.from_residual.ensures.1 in
    rw (p.1, p.2)
    (works_write {T = Option ℕ} (segment_name w.folder w.number) (Err c.in_err-next.field-0.0) (c.in_err-next.ensures.own w at) c.in_err-next.ensures.last)

pub returns-in_default-clause-raw : goal.returns-in_default-clause-raw
returns-in_default-clause-raw g c w names held at settled apart one =
    put_none c.args.most names held c.args.name.now c.args.segmenter.now w c.args.cursor.now c.args.cursor.now settled apart
    (rw c.in_default.is at c.in_ok-next.ensures.raw w at) (c.in_ok-next.ensures.own w at)

pub returns-in_default-clause-works : goal.returns-in_default-clause-works
returns-in_default-clause-works g c w at =
    works_value (ReadsOrWrites (segment_name w.folder w.number)) c.in_ok-next.field-0 _
    (works_write (segment_name w.folder w.number) (Ok c.in_ok-next.field-0) (c.in_ok-next.ensures.own w at) c.in_ok-next.ensures.last)

pub returns-in_err-advance-clause-raw : goal.returns-in_err-advance-clause-raw
returns-in_err-advance-clause-raw g c w names held at settled apart one =
    let p = err_from_is_err_and c.from_residual-in_err-advance.result c.from_residual-in_err-advance.ensures.1 in
    let segment = segment_name w.folder w.number in
    rw (p.1, p.2)
    (led_anyhow (λ h. tt)
    (works_then {T = Option ℕ} {U = Bool} (ReadsOrWrites segment) (Ok c.in_ok-next.field-0) (Err c.in_err-advance.field-0.0)
    (works_write segment (Ok c.in_ok-next.field-0) (c.in_ok-next.ensures.own w at) c.in_ok-next.ensures.last)
    (works_read segment (Err c.in_err-advance.field-0.0) c.in_err-advance.ensures.works)))

pub returns-in_err-advance-clause-works : goal.returns-in_err-advance-clause-works
returns-in_err-advance-clause-works g c w at =
    let p = err_from_is_err_and c.from_residual-in_err-advance.result c.from_residual-in_err-advance.ensures.1 in
    let segment = segment_name w.folder w.number in
    rw (p.1, p.2)
    (works_then {T = Option ℕ} {U = Option ℕ} (ReadsOrWrites segment) (Ok c.in_ok-next.field-0) (Err c.in_err-advance.field-0.0)
    (works_write segment (Ok c.in_ok-next.field-0) (c.in_ok-next.ensures.own w at) c.in_ok-next.ensures.last)
    (works_fault {T = Bool} {U = Option ℕ} (ReadsOrWrites segment) c.in_err-advance.field-0.0
    (works_read {T = Bool} segment (Err c.in_err-advance.field-0.0) c.in_err-advance.ensures.works)))

pub returns-in_err-advance-clause-only : goal.returns-in_err-advance-clause-only
returns-in_err-advance-clause-only g c =
    let p = err_from_is_err_and c.from_residual-in_err-advance.result c.from_residual-in_err-advance.ensures.1 in
    rw (p.1, p.2) c.in_err-advance.ensures.only

pub returns-in_err-advance-clause-cause : goal.returns-in_err-advance-clause-cause
returns-in_err-advance-clause-cause g c =
    let p = err_from_is_err_and c.from_residual-in_err-advance.result c.from_residual-in_err-advance.ensures.1 in
    rw (p.1, p.2)
    (cause_later (Option ℕ) Bool c.in_err-advance.field-0.0 (g.S.Site.fault_count c.args.site.now) (g.S.Site.fault_count c.put_one.new.site)
    (g.S.Site.fault_count c.advance.new.site) c.in_ok-next.ensures.cause c.in_err-advance.ensures.cause)

pub returns-then-not-branch-clause-raw : goal.returns-then-not-branch-clause-raw
returns-then-not-branch-clause-raw g c w names held at settled apart one =
    let name = c.args.name.now in
    let s = c.args.segmenter.now in
    let v = taken s w (chunk_here c.args.most c.args.cursor.now) in
    put_off c.args.most names held name s w c.in-Some.next c.args.cursor.now c.advance.new.self settled apart
    (rw c.in-Some.is at c.in_ok-next.ensures.raw w at) (c.in_ok-next.ensures.own w at)
    (read_beside names held v apart name one c.args.cursor.now c.advance.new.self (Ok false) (settled name one).1 c.in_ok-advance.ensures.works
    (rw c.if-not-branch.true at c.in_ok-advance.ensures.raw))

pub returns-then-not-branch-clause-works : goal.returns-then-not-branch-clause-works
returns-then-not-branch-clause-works g c w at =
    let segment = segment_name w.folder w.number in
    works_then (ReadsOrWrites segment) (Ok c.in_ok-next.field-0) (Ok None)
    (works_write segment (Ok c.in_ok-next.field-0) (c.in_ok-next.ensures.own w at) c.in_ok-next.ensures.last)
    (works_value (ReadsOrWrites segment) c.in_ok-advance.field-0 _
    (works_read segment (Ok c.in_ok-advance.field-0) c.in_ok-advance.ensures.works))

pub returns-then-not-branch-clause-cause : goal.returns-then-not-branch-clause-cause
returns-then-not-branch-clause-cause g c = c.in_ok-advance.ensures.cause ∙ c.in_ok-next.ensures.cause

pub returns-clause-raw : goal.returns-clause-raw
returns-clause-raw g c w names held at settled apart one =
    let name = c.args.name.now in
    let s = c.args.segmenter.now in
    let v = taken s w (chunk_here c.args.most c.args.cursor.now) in
    put_on c.args.most names held name s w (end_view c.args.end.now) c.args.reached c.in-Some.next c.args.cursor.now c.advance.new.self settled apart
    (rw c.in-Some.is at c.in_ok-next.ensures.next)
    (rw c.in-Some.is at c.in_ok-next.ensures.raw w at) (c.in_ok-next.ensures.own w at)
    (read_beside names held v apart name one c.args.cursor.now c.advance.new.self (Ok true) (settled name one).1 c.in_ok-advance.ensures.works
    (rw c.if-not-branch.false at c.in_ok-advance.ensures.raw))

pub returns-clause-next : goal.returns-clause-next
returns-clause-next g c = rw c.in-Some.is at c.in_ok-next.ensures.next

pub returns-clause-put : goal.returns-clause-put
returns-clause-put g c = rw c.in-Some.is at c.in_ok-next.ensures.put

pub returns-clause-works : goal.returns-clause-works
returns-clause-works g c w at =
    let segment = segment_name w.folder w.number in
    works_then (ReadsOrWrites segment) (Ok c.in_ok-next.field-0) (Ok (Some c.in-Some.next))
    (works_write segment (Ok c.in_ok-next.field-0) (c.in_ok-next.ensures.own w at) c.in_ok-next.ensures.last)
    (works_value (ReadsOrWrites segment) c.in_ok-advance.field-0 _
    (works_read segment (Ok c.in_ok-advance.field-0) c.in_ok-advance.ensures.works))

pub returns-clause-cause : goal.returns-clause-cause
returns-clause-cause g c = c.in_ok-advance.ensures.cause ∙ c.in_ok-next.ensures.cause
