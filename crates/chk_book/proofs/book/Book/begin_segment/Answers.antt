use Rattle.std.proofs.lemmas.Result.{err_from_is_err_and}
use Rattle.chk_site.proofs.Runs.{adds_as}
use Rattle.chk_site.proofs.Leads.{leads_as, leads_none}
use Rattle.chk_replace.proofs.CallSteps.{script_last}
use Rattle.chk_seqfile.specs.Headers.{header, marker_of}
use Rattle.chk_record_index.specs.Faults.{FailsLast}
use Rattle.std.proofs.Common.{Ok}
use Rattle.chk_book.specs.Folders.{segment_name, segment_stem}
use Rattle.chk_book.specs.declared.segmenter.Segmenter.{Segmenter}
use Rattle.chk_book.proofs.Storing.{begins, begins_own}
use Rattle.chk_book.proofs.Segmented.{unsaid, failed_last, failed_cause, failed_begin, failed_spent}
use Rattle.chk_book.specs.Books.{book_view}
use Rattle.chk_book.proofs.book.Book.begin_segment.Goals as goal

pub returns-then-self-eq-LAST_NUMBER-clause-raw : goal.returns-then-self-eq-LAST_NUMBER-clause-raw
returns-then-self-eq-LAST_NUMBER-clause-raw g c = leads_none _ (λ h x. tt)

pub returns-then-self-gt-LAST_NUMBER-clause-raw : goal.returns-then-self-gt-LAST_NUMBER-clause-raw
returns-then-self-gt-LAST_NUMBER-clause-raw g c = leads_none _ (λ h x. tt)

pub returns-in_err-begin_segment_file-clause-raw : goal.returns-in_err-begin_segment_file-clause-raw
returns-in_err-begin_segment_file-clause-raw g c =
    let r = c.from_residual-in_err-begin_segment_file in
    let p = err_from_is_err_and r.result r.ensures.1 in
    rw (p.1, p.2) (unsaid (λ h. tt) (script_last c.in_err-begin_segment_file.ensures.told))

pub returns-in_err-begin_segment_file-clause-own : goal.returns-in_err-begin_segment_file-clause-own
returns-in_err-begin_segment_file-clause-own g c =
    let number = c.args.self.now.next in
    λ is. begins_own c.args.who.now (segment_name c.args.folder.now number) (header (marker_of (segment_stem number))) is
    c.in_err-begin_segment_file.ensures.told

pub returns-in_err-begin_segment_file-clause-last : goal.returns-in_err-begin_segment_file-clause-last
returns-in_err-begin_segment_file-clause-last g c =
    let r = c.from_residual-in_err-begin_segment_file in
    let p = err_from_is_err_and r.result r.ensures.1 in
    rw (p.1, p.2) (failed_last Segmenter c.in_err-begin_segment_file.field-0.0 (script_last c.in_err-begin_segment_file.ensures.told))

pub returns-clause-raw : goal.returns-clause-raw
returns-clause-raw g c =
    let number = c.args.self.now.next in
    leads_as (λ h x. x) (λ h x. x)
    (begins c.args.who.now (segment_name c.args.folder.now number) (header (marker_of (segment_stem number))) c.in_ok-begin_segment_file.ensures.told)

pub returns-clause-own : goal.returns-clause-own
returns-clause-own g c =
    let number = c.args.self.now.next in
    λ is. begins_own c.args.who.now (segment_name c.args.folder.now number) (header (marker_of (segment_stem number))) is
    c.in_ok-begin_segment_file.ensures.told

pub returns-clause-last : goal.returns-clause-last
returns-clause-last g c = adds_as (FailsLast {T = Segmenter} (Ok c.in_ok-segmenter.segmenter)) (script_last c.in_ok-begin_segment_file.ensures.told) (λ added history x. tt)

pub returns-in_err-segmenter-clause-raw : goal.returns-in_err-segmenter-clause-raw
returns-in_err-segmenter-clause-raw g c =
    let r = c.from_residual in
    let p = err_from_is_err_and r.result r.ensures.1 in
    rw (p.1, p.2)
    (leads_none _ (λ h x. tt))

pub returns-in_err-begin_segment_file-clause-spent :
    goal.returns-in_err-begin_segment_file-clause-spent
returns-in_err-begin_segment_file-clause-spent g c =
    let r = c.from_residual-in_err-begin_segment_file in
    let p = err_from_is_err_and r.result r.ensures.1 in
    rw (p.1, p.2)
    (failed_spent Segmenter (book_view c.args.self.now) c.in_err-begin_segment_file.field-0.0 (λ e.
    let other = c.if-self-eq-LAST_NUMBER.false in other e))

pub returns-in_err-begin_segment_file-clause-only :
    goal.returns-in_err-begin_segment_file-clause-only
returns-in_err-begin_segment_file-clause-only g c =
    let r = c.from_residual-in_err-begin_segment_file in
    let p = err_from_is_err_and r.result r.ensures.1 in
    rw (p.1, p.2)
    (failed_begin c.in_err-begin_segment_file.field-0.0)

pub returns-in_err-begin_segment_file-clause-cause :
    goal.returns-in_err-begin_segment_file-clause-cause
returns-in_err-begin_segment_file-clause-cause g c =
    let r = c.from_residual-in_err-begin_segment_file in
    let p = err_from_is_err_and r.result r.ensures.1 in
    rw (p.1, p.2)
    (failed_cause Segmenter (Unit {0}) c.in_err-begin_segment_file.field-0.0 (g.S.Site.fault_count
    c.args.site.now)
    (g.S.Site.fault_count c.begin_segment_file.new.site) c.in_err-begin_segment_file.ensures.cause)

pub returns-clause-spent : goal.returns-clause-spent
returns-clause-spent g c = λ e. let other = c.if-self-eq-LAST_NUMBER.false in other e
