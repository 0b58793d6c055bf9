use Rattle.std.proofs.Common.{◌∙◌, ◌+◌, ℕ, Ok, refl, ap}
use Rattle.std.proofs.lemmas.Result.{err_from_is_err_and}
use Rattle.chk_site.proofs.Runs.{adds_as}
use Rattle.chk_site.proofs.Leads.{leads_as}
use Rattle.chk_replace.proofs.CallSteps.{script_last}
use Rattle.chk_world.specs.Books.{Book}
use Rattle.chk_record_index.specs.Faults.{FailsLast}
use Rattle.chk_book.specs.Books.{book_view}
use Rattle.chk_book.specs.Views.{segment_view}
use Rattle.chk_book.proofs.Segmented.{unsaid, failed_last, rest_held, rest_own, entered_is}
use Rattle.chk_book.proofs.segmenter.Segmenter.enter.Goals as goal

pub returns-in_err-end_file-clause-raw : goal.returns-in_err-end_file-clause-raw
returns-in_err-end_file-clause-raw g c =
    let r = c.from_residual-in_err-end_file in
    let p = err_from_is_err_and r.result r.ensures.1 in
    rw (p.1, p.2) (λ w at. unsaid (λ h. refl) (script_last c.in_err-end_file.ensures.told))

pub returns-in_err-end_file-clause-own : goal.returns-in_err-end_file-clause-own
returns-in_err-end_file-clause-own g c = λ w at is. rest_own c.args.self.now w at is
    c.in_err-end_file.ensures.told

pub returns-in_err-end_file-clause-last : goal.returns-in_err-end_file-clause-last
returns-in_err-end_file-clause-last g c =
    let r = c.from_residual-in_err-end_file in
    let p = err_from_is_err_and r.result r.ensures.1 in
    rw (p.1, p.2) (failed_last (Unit {0}) c.in_err-end_file.field-0.0 (script_last
    c.in_err-end_file.ensures.told))

pub returns-clause-raw : goal.returns-clause-raw
returns-clause-raw g c =
    λ w at.
    leads_as (λ h x. x)
    (λ h x. (
      x,
      entered_is c.args.self.now w (book_view c.args.book.now) (book_view c.in_ok-next.next)
          (segment_view c.segment.result) at
          c.segment.ensures.number c.segment.ensures.length c.in_ok-next.ensures,
    ))
    (rest_held c.args.self.now w at c.in_ok-end_file.ensures.told)

pub returns-clause-own : goal.returns-clause-own
returns-clause-own g c = λ w at is. rest_own c.args.self.now w at is c.in_ok-end_file.ensures.told

pub returns-clause-last : goal.returns-clause-last
returns-clause-last g c = adds_as (FailsLast {T = Unit {0}} (Ok tt)) (script_last
    c.in_ok-end_file.ensures.told) (λ added history x. tt)

pub returns-clause-next : goal.returns-clause-next
returns-clause-next g c =
    ap (λ (b : Book). b.next) c.in_ok-next.ensures ∙ ap (λ (n : ℕ). n + 1) c.segment.ensures.number

pub returns-clause-aside : goal.returns-clause-aside
returns-clause-aside g c = ap (λ (b : Book). b.aside) c.in_ok-next.ensures
