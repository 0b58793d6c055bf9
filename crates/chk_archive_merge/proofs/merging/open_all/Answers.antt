use Rattle.std.proofs.Common.{◌≡◌, ◌∙◌, Bool, Ok, Err, [], refl, sym, ap, subst, length, arith, ◌∷◌, length-append}
use Rattle.std.specs.Prelude.{slice_index_or, Contains}
use Rattle.std.proofs.lemmas.List.{take_all}
use Rattle.std.proofs.lemmas.Result.{err_from_is_err_and}
use Rattle.chk_site.proofs.Leads.{leads_as, leads_none, leads_then}
use Rattle.chk_site.specs.Site.{Adds}
use Rattle.chk_site.specs.Runs.{anyhow, Leads}
use Rattle.chk_world.specs.JobSteps.{ReadsFile}
use Rattle.chk_book.proofs.Added.{cause_later}
use Rattle.chk_record_reader.specs.Segments.{HasFiles, SparesFiles}
use Rattle.chk_archive_merge.specs.Sides.{AreSides}
use Rattle.chk_archive_merge.proofs.Onward.{still_there}
use Rattle.chk_book.proofs.Segmented.{unsaid as led_anyhow}
use Rattle.chk_archive_merge.proofs.Opening.{one_opened}
use Rattle.chk_archive_merge.proofs.Works.{works_value, works_memory}
use Rattle.chk_book.proofs.Works.{works_none, works_then}
use Rattle.chk_archive_merge.proofs.merging.open_all.Goals as goal

pub loop-name-init : goal.loop-name-init
loop-name-init g c = record {
  so = λ held settled. leads_none _ (λ h x. (x, subst (λ l. AreSides c.args.most held 0 [] l []) (sym c.requires.none) tt));
  size = ap length c.requires.none;
  works = works_none ReadsFile (tt {0}) _;
  count = refl;
}

pub returns-in_err-advance-clause-raw : goal.returns-in_err-advance-clause-raw
returns-in_err-advance-clause-raw g c held settled =
    let p = err_from_is_err_and c.from_residual.result c.from_residual.ensures.1 in
    rw (p.1, p.2)
    (led_anyhow (λ h. tt)
    (works_then {T = Unit {0}} {U = Bool} ReadsFile (Ok (tt {0})) (Err c.in_err-advance.field-0.0) c.loop-name.invariant.works c.in_err-advance.ensures.works))

pub returns-in_err-advance-clause-count : goal.returns-in_err-advance-clause-count
returns-in_err-advance-clause-count g c =
    let p = err_from_is_err_and c.from_residual.result c.from_residual.ensures.1 in rw p.1 tt

pub returns-in_err-advance-clause-works : goal.returns-in_err-advance-clause-works
returns-in_err-advance-clause-works g c =
    let p = err_from_is_err_and c.from_residual.result c.from_residual.ensures.1 in
    rw (p.1, p.2)
    (works_then {T = Unit {0}} {U = Bool} ReadsFile (Ok (tt {0})) (Err c.in_err-advance.field-0.0) c.loop-name.invariant.works c.in_err-advance.ensures.works)

pub returns-in_err-advance-clause-only : goal.returns-in_err-advance-clause-only
returns-in_err-advance-clause-only g c =
    let p = err_from_is_err_and c.from_residual.result c.from_residual.ensures.1 in
    rw (p.1, p.2) c.in_err-advance.ensures.only

pub returns-in_err-advance-clause-cause : goal.returns-in_err-advance-clause-cause
returns-in_err-advance-clause-cause g c =
    let p = err_from_is_err_and c.from_residual.result c.from_residual.ensures.1 in
    rw (p.1, p.2)
    (cause_later Bool Bool c.in_err-advance.field-0.0 (g.S.Site.fault_count c.args.site.now) (g.S.Site.fault_count c.loop-name.site)
    (g.S.Site.fault_count c.advance.new.site) c.loop-name.invariant.count c.in_err-advance.ensures.cause)

pub returns-then-not-branch-clause-raw : goal.returns-then-not-branch-clause-raw
returns-then-not-branch-clause-raw g c held settled =
    let names = c.args.names.now in
    let w = c.as_str.result.now in
    let same : slice_index_or names c.loop-name.name-index w ≡ w =
    subst (λ x. slice_index_or names c.loop-name.name-index x ≡ x) (sym c.as_str.ensures.text) (sym c.name-item.is) in
    let one : Contains names w = (c.loop-name.name-index, c.loop-name-test.true, same) in
    leads_then (leads_as (λ h x. x) (λ h x. x.0) (c.loop-name.invariant.so held settled))
    (leads_as (λ h x. x) (λ h x. still_there names held w c.new-cursor.result c.advance.new.self c.in_ok-advance.field-0 h x)
    (c.in_ok-advance.ensures.raw names held one (settled w one).1))

pub returns-then-not-branch-clause-works : goal.returns-then-not-branch-clause-works
returns-then-not-branch-clause-works g c =
    works_then ReadsFile (Ok (tt {0})) (Ok _) c.loop-name.invariant.works (works_value ReadsFile c.in_ok-advance.field-0 _ c.in_ok-advance.ensures.works)

pub returns-then-not-branch-clause-cause : goal.returns-then-not-branch-clause-cause
returns-then-not-branch-clause-cause g c = c.in_ok-advance.ensures.cause ∙ c.loop-name.invariant.count

pub returns-in_err-add-clause-raw : goal.returns-in_err-add-clause-raw
returns-in_err-add-clause-raw g c held settled =
    let p = err_from_is_err_and c.from_residual-in_err-add.result c.from_residual-in_err-add.ensures.1 in
    rw (p.1, p.2)
    (led_anyhow (λ h. tt)
    (works_then ReadsFile (Ok (tt {0})) (Ok c.in_ok-advance.field-0) c.loop-name.invariant.works c.in_ok-advance.ensures.works))

pub returns-in_err-add-clause-works : goal.returns-in_err-add-clause-works
returns-in_err-add-clause-works g c =
    let p = err_from_is_err_and c.from_residual-in_err-add.result c.from_residual-in_err-add.ensures.1 in
    rw (p.1, p.2)
    (works_memory ReadsFile c.in_ok-advance.field-0
    (works_then ReadsFile (Ok (tt {0})) (Ok c.in_ok-advance.field-0) c.loop-name.invariant.works c.in_ok-advance.ensures.works))

pub returns-in_err-add-clause-cause : goal.returns-in_err-add-clause-cause
returns-in_err-add-clause-cause g c =
    let p = err_from_is_err_and c.from_residual-in_err-add.result c.from_residual-in_err-add.ensures.1 in
    rw (p.1, p.2) (c.in_ok-advance.ensures.cause ∙ c.loop-name.invariant.count)

pub loop-name-preserved : goal.loop-name-preserved
loop-name-preserved g c = record {
  so = λ held settled.
      let names = c.args.names.now in
      let w = c.as_str.result.now in
      let same : slice_index_or names c.loop-name.name-index w ≡ w =
      subst (λ x. slice_index_or names c.loop-name.name-index x ≡ x) (sym c.as_str.ensures.text) (sym c.name-item.is) in
      let one : Contains names w = (c.loop-name.name-index, c.loop-name-test.true, same) in
      one_opened c.args.most held names c.loop-name.name-index w c.loop-name.cursors.items c.add.new.cursors.items c.new-cursor.result c.advance.new.self
      c.loop-name-test.true same c.in_ok-add.ensures c.new-cursor.ensures.fed c.new-cursor.ensures.some
      (c.loop-name.invariant.so held settled)
      (rw c.if-not-branch.false at c.in_ok-advance.ensures.raw names held one (settled w one).1);
  size =
      let size = c.loop-name.invariant.size in
      let more = ap length c.in_ok-add.ensures ∙ length-append c.loop-name.cursors.items (c.advance.new.self ∷ []) in
      omega (arith, size, more);
  works = works_then ReadsFile (Ok (tt {0})) (Ok (tt {0})) c.loop-name.invariant.works
      (works_value ReadsFile c.in_ok-advance.field-0 (tt {0}) c.in_ok-advance.ensures.works);
  count = c.in_ok-advance.ensures.cause ∙ c.loop-name.invariant.count;
}

pub returns-clause-raw : goal.returns-clause-raw
returns-clause-raw g c held settled =
    let names = c.args.names.now in
    subst
    (λ ws. Adds (g.S.Site.told c.args.site.now) (g.S.Site.told c.loop-name.site)
    (Leads (anyhow (SparesFiles names)) (HasFiles names held)
    (λ h. HasFiles names held h × AreSides c.args.most held 0 ws c.loop-name.cursors.items [])))
    (take_all c.loop-name.name-index names c.loop-name-test.false) (c.loop-name.invariant.so held settled)

pub returns-clause-works : goal.returns-clause-works
returns-clause-works g c = works_value ReadsFile (tt {0}) _ c.loop-name.invariant.works
