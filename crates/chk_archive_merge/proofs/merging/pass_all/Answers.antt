use Rattle.std.proofs.Common.{◌∙◌, ℕ, Bool, Option, Ok, Err, refl}
use Rattle.std.proofs.lemmas.Result.{err_from_is_err_and}
use Rattle.chk_site.proofs.Leads.{leads_none, leads_then}
use Rattle.chk_world.specs.JobSteps.{ReadsFile}
use Rattle.chk_book.proofs.Added.{cause_later}
use Rattle.chk_book.proofs.Segmented.{unsaid as led_anyhow}
use Rattle.chk_archive_merge.proofs.Works.{works_value, works_fault}
use Rattle.chk_book.proofs.Works.{works_none, works_then}
use Rattle.chk_archive_merge.proofs.merging.pass_all.Goals as goal

pub loop-turn-init : goal.loop-turn-init
loop-turn-init g c = record {
  so = λ held settled. leads_none _ (λ h x. x);
  size = c.requires.count;
  works = works_none ReadsFile (tt {0}) _;
  count = refl;
}

pub returns-in-End-clause-raw : goal.returns-in-End-clause-raw
returns-in-End-clause-raw g c held settled = c.loop-turn.invariant.so held settled

pub returns-in-End-clause-works : goal.returns-in-End-clause-works
returns-in-End-clause-works g c = works_value ReadsFile (tt {0}) _ c.loop-turn.invariant.works

pub returns-in-Stop-clause-raw : goal.returns-in-Stop-clause-raw
returns-in-Stop-clause-raw g c held settled = c.loop-turn.invariant.so held settled

pub returns-in-Stop-clause-works : goal.returns-in-Stop-clause-works
returns-in-Stop-clause-works g c = works_value ReadsFile (tt {0}) _ c.loop-turn.invariant.works

pub returns-in_err-reached-clause-raw : goal.returns-in_err-reached-clause-raw
returns-in_err-reached-clause-raw g c held settled =
    let p = err_from_is_err_and c.from_residual.result c.from_residual.ensures.1 in
    rw (p.1, p.2)
    (led_anyhow (λ h. tt)
    (works_then {T = Unit {0}} {U = Option ℕ} ReadsFile (Ok (tt {0})) (Err c.in_err-reached.field-0.0) c.loop-turn.invariant.works c.in_err-reached.ensures.works))

pub returns-in_err-reached-clause-works : goal.returns-in_err-reached-clause-works
returns-in_err-reached-clause-works g c =
    let p = err_from_is_err_and c.from_residual.result c.from_residual.ensures.1 in
    rw (p.1, p.2)
    (works_then {T = Unit {0}} {U = Bool} ReadsFile (Ok (tt {0})) (Err c.in_err-reached.field-0.0) c.loop-turn.invariant.works
    (works_fault {T = Option ℕ} {U = Bool} ReadsFile c.in_err-reached.field-0.0 c.in_err-reached.ensures.works))

pub returns-in_err-reached-clause-only : goal.returns-in_err-reached-clause-only
returns-in_err-reached-clause-only g c =
    let p = err_from_is_err_and c.from_residual.result c.from_residual.ensures.1 in
    rw (p.1, p.2) c.in_err-reached.ensures.only

pub returns-in_err-reached-clause-cause : goal.returns-in_err-reached-clause-cause
returns-in_err-reached-clause-cause g c =
    let p = err_from_is_err_and c.from_residual.result c.from_residual.ensures.1 in
    rw (p.1, p.2)
    (cause_later Bool (Option ℕ) c.in_err-reached.field-0.0 (g.S.Site.fault_count c.args.site.now) (g.S.Site.fault_count c.loop-turn.site)
    (g.S.Site.fault_count c.pass_at.new.site) c.loop-turn.invariant.count c.in_err-reached.ensures.cause)

pub returns-in-None-clause-raw : goal.returns-in-None-clause-raw
returns-in-None-clause-raw g c held settled =
    leads_then (c.loop-turn.invariant.so held settled) (c.in_ok-reached.ensures.raw held settled)

pub returns-in-None-clause-works : goal.returns-in-None-clause-works
returns-in-None-clause-works g c =
    works_then ReadsFile (Ok (tt {0})) (Ok _) c.loop-turn.invariant.works (works_value ReadsFile c.in_ok-reached.field-0 _ c.in_ok-reached.ensures.works)

pub returns-in-None-clause-cause : goal.returns-in-None-clause-cause
returns-in-None-clause-cause g c = c.in_ok-reached.ensures.cause ∙ c.loop-turn.invariant.count

pub loop-turn-preserved : goal.loop-turn-preserved
loop-turn-preserved g c = record {
  so = λ held settled. leads_then (c.loop-turn.invariant.so held settled) (c.in_ok-reached.ensures.raw held settled);
  size = c.pass_at.ensures.count ∙ c.loop-turn.invariant.size;
  works = works_then ReadsFile (Ok (tt {0})) (Ok (tt {0})) c.loop-turn.invariant.works
      (works_value ReadsFile c.in_ok-reached.field-0 (tt {0}) c.in_ok-reached.ensures.works);
  count = c.in_ok-reached.ensures.cause ∙ c.loop-turn.invariant.count;
}

pub returns-clause-raw : goal.returns-clause-raw
returns-clause-raw g c held settled = c.loop-turn.invariant.so held settled

pub returns-clause-works : goal.returns-clause-works
returns-clause-works g c = works_value ReadsFile (tt {0}) _ c.loop-turn.invariant.works
