use Rattle.std.proofs.Common.{◌∙◌, Bool, Option, Some, None, Ok, Err, refl}
use Rattle.std.proofs.lemmas.Result.{err_from_is_err_and}
use Rattle.chk_site.proofs.Leads.{leads_as, leads_none}
use Rattle.chk_world.specs.JobSteps.{ReadsFile}
use Rattle.chk_book.proofs.Added.{cause_later}
use Rattle.chk_archive_merge.proofs.Onward.{leads_with, stepped}
use Rattle.chk_book.proofs.Segmented.{unsaid as led_anyhow}
use Rattle.chk_archive_merge.proofs.Works.{works_value, works_fault}
use Rattle.chk_book.proofs.Works.{works_none, works_then}
use Rattle.chk_archive_merge.proofs.cursor.Cursor.advance.Goals as goal

pub loop-turn-init : goal.loop-turn-init
loop-turn-init g c = record {
  so = λ names held one small. leads_none _ (λ h x. (x, λ records gone. gone));
  works = works_none ReadsFile (tt {0}) _;
  count = refl;
}

pub returns-in_err-on-clause-raw : goal.returns-in_err-on-clause-raw
returns-in_err-on-clause-raw g c names held one small =
    let p = err_from_is_err_and c.from_residual.result c.from_residual.ensures.1 in
    rw (p.1, p.2)
    (led_anyhow (λ h. tt)
    (works_then ReadsFile (Ok (tt {0})) (Err c.in_err-on.field-0.0) c.loop-turn.invariant.works c.in_err-on.ensures.works))

pub returns-in_err-on-clause-works : goal.returns-in_err-on-clause-works
returns-in_err-on-clause-works g c =
    let p = err_from_is_err_and c.from_residual.result c.from_residual.ensures.1 in
    rw (p.1, p.2)
    (works_then {T = Unit {0}} {U = Bool} ReadsFile (Ok (tt {0})) (Err c.in_err-on.field-0.0) c.loop-turn.invariant.works
    (works_fault {T = Option Bool} {U = Bool} ReadsFile c.in_err-on.field-0.0 c.in_err-on.ensures.works))

pub returns-in_err-on-clause-only : goal.returns-in_err-on-clause-only
returns-in_err-on-clause-only g c =
    let p = err_from_is_err_and c.from_residual.result c.from_residual.ensures.1 in
    rw (p.1, p.2) c.in_err-on.ensures.only

pub returns-in_err-on-clause-cause : goal.returns-in_err-on-clause-cause
returns-in_err-on-clause-cause g c =
    let p = err_from_is_err_and c.from_residual.result c.from_residual.ensures.1 in
    rw (p.1, p.2)
    (cause_later Bool (Option Bool) c.in_err-on.field-0.0 (g.S.Site.fault_count c.args.site.now) (g.S.Site.fault_count c.loop-turn.site)
    (g.S.Site.fault_count c.step.new.site) c.loop-turn.invariant.count c.in_err-on.ensures.cause)

pub returns-in-Some-clause-raw : goal.returns-in-Some-clause-raw
returns-in-Some-clause-raw g c names held one small =
    let name = c.args.name.now in
    leads_with
    (λ h keeps x. stepped names held name c.args.self.now c.loop-turn.self c.step.new.self (Ok (Some c.in-Some.on)) h keeps x)
    (c.loop-turn.invariant.so names held one small) (rw c.in-Some.is at c.in_ok-on.ensures.raw names held one small)

pub returns-in-Some-clause-works : goal.returns-in-Some-clause-works
returns-in-Some-clause-works g c =
    works_then ReadsFile (Ok (tt {0})) (Ok c.in-Some.on) c.loop-turn.invariant.works
    (works_value ReadsFile c.in_ok-on.field-0 c.in-Some.on c.in_ok-on.ensures.works)

pub returns-in-Some-clause-cause : goal.returns-in-Some-clause-cause
returns-in-Some-clause-cause g c = c.in_ok-on.ensures.cause ∙ c.loop-turn.invariant.count

pub loop-turn-preserved : goal.loop-turn-preserved
loop-turn-preserved g c = record {
  so = λ names held one small.
      let name = c.args.name.now in
      leads_with
      (λ h keeps x. stepped names held name c.args.self.now c.loop-turn.self c.step.new.self (Ok None) h keeps x)
      (c.loop-turn.invariant.so names held one small) (rw c.in_default.is at c.in_ok-on.ensures.raw names held one small);
  works = works_then ReadsFile (Ok (tt {0})) (Ok (tt {0})) c.loop-turn.invariant.works
      (works_value ReadsFile c.in_ok-on.field-0 (tt {0}) c.in_ok-on.ensures.works);
  count = c.in_ok-on.ensures.cause ∙ c.loop-turn.invariant.count;
}

pub returns-clause-raw : goal.returns-clause-raw
returns-clause-raw g c names held one small = leads_as (λ h x. x) (λ h x. x.0) (c.loop-turn.invariant.so names held one small)

pub returns-clause-works : goal.returns-clause-works
returns-clause-works g c = works_value ReadsFile (tt {0}) _ c.loop-turn.invariant.works

pub returns-clause-cause : goal.returns-clause-cause
returns-clause-cause g c = c.loop-turn.invariant.count
