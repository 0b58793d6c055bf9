use Rattle.chk_join.proofs.Chain.{untold}
use Rattle.chk_join.proofs.StraysGone.{removed_one, none_pending}
use Rattle.chk_archive_parts.proofs.InTurn.{next_is, cause_done}
use Rattle.chk_join.specs.Cleaned.{Pending}
use Rattle.chk_join_sources.specs.Copying.{joined_segment}
use Rattle.chk_replace.specs.Replace.{LeavesFile}
use Rattle.chk_site.proofs.Leads.{leads_as, leads_none, leads_then}
use Rattle.chk_site.specs.Runs.{anyhow, Leads}
use Rattle.std.proofs.Math.ListN.{drop_of_length-le}
use Rattle.std.proofs.Common.{◌∙◌, Ok, Err, refl, sym, subst, [], ◌∷◌, ◌+◌, drop}
use Rattle.std.proofs.lemmas.Result.{err_from_is_err_and}
use Rattle.chk_site.specs.declared.acts.Call.TheVariants.{Remove}
use Rattle.chk_site.specs.Site.{Adds, asked, answered, plain, Calls}
use Rattle.chk_record_index.specs.Faults.{job_fault}
use Rattle.chk_record_reader.proofs.AllRead.{each_get}
use Rattle.chk_join.specs.Names.{IsStray}
use Rattle.chk_join.specs.Working.{TidiesBy}
use Rattle.chk_book.proofs.Works.{works_none, works_then}
use Rattle.chk_join.proofs.Tidied.{remove_works}
use Rattle.chk_join.proofs.tidying.remove_all.Goals as goal

pub loop-name-init : goal.loop-name-init
loop-name-init g c = record {
  works = λ b all. works_none (TidiesBy b) tt (g.S.Site.told c.args.site.now);
  gone = λ k count. leads_none (g.S.Site.told c.args.site.now) (λ h x. x);
  count = refl;
}

pub loop-name-preserved : goal.loop-name-preserved
loop-name-preserved g c =
    let l = c.loop-name in
    let names = c.args.names.now in
    let name = c.as_str.result.now in
    record {
      works = λ b all.
          works_then (TidiesBy b) (Ok tt) (Ok tt) (l.invariant.works b all)
          (remove_works b name
          (subst (IsStray b) (sym (c.as_str.ensures.text ∙ c.name-item.is))
          (each_get (IsStray b) names all l.name-index c.name-item.result c.loop-name-test.true))
          c.remove.result (Ok tt) c.in_ok-done.ensures
          (subst (λ who. Adds (g.S.Site.told l.site) (g.S.Site.told c.remove.new.self)
          (Calls (asked who Remove (name ∷ []) 0 0) (answered plain c.remove.result))) c.requires.job c.remove.ensures.told));
      gone = λ k count.
          leads_then (l.invariant.gone k count)
          (subst (λ ws. Adds (g.S.Site.told l.site) (g.S.Site.told c.remove.new.self)
          (Leads (anyhow (LeavesFile (joined_segment k))) (Pending k ws) (Pending k (drop (l.name-index + 1) names))))
          (sym (next_is names l.name-index c.name-item.result name c.loop-name-test.true c.name-item.is c.as_str.ensures.text))
          (removed_one k count name (drop (l.name-index + 1) names) c.remove.result c.in_ok-done.ensures
          (subst (λ who. Adds (g.S.Site.told l.site) (g.S.Site.told c.remove.new.self)
          (Calls (asked who Remove (name ∷ []) 0 0) (answered plain c.remove.result))) c.requires.job c.remove.ensures.told)));
      count = cause_done (g.S.Site.fault_count l.site) (g.S.Site.fault_count c.remove.new.self) c.remove.result
          c.in_ok-done.ensures c.remove.ensures.cause ∙ l.invariant.count;
    }

pub returns-in_err-done-clause-works : goal.returns-in_err-done-clause-works
returns-in_err-done-clause-works g c b all =
    let p = err_from_is_err_and c.from_residual.result c.from_residual.ensures.1 in
    let l = c.loop-name in
    let names = c.args.names.now in
    let name = c.as_str.result.now in
    rw (p.1, p.2)
    (works_then {T = Unit {0}} {U = Unit {0}} (TidiesBy b) (Ok tt) (Err (job_fault c.in_err-done.field-0.0)) (l.invariant.works b all)
    (remove_works b name
    (subst (IsStray b) (sym (c.as_str.ensures.text ∙ c.name-item.is))
    (each_get (IsStray b) names all l.name-index c.name-item.result c.loop-name-test.true))
    c.remove.result (Err c.in_err-done.field-0.0) c.in_err-done.ensures
    (subst (λ who. Adds (g.S.Site.told l.site) (g.S.Site.told c.remove.new.self)
    (Calls (asked who Remove (name ∷ []) 0 0) (answered plain c.remove.result))) c.requires.job c.remove.ensures.told)))

pub returns-clause-works : goal.returns-clause-works
returns-clause-works g c b all = c.loop-name.invariant.works b all

pub returns-in_err-done-clause-gone : goal.returns-in_err-done-clause-gone
returns-in_err-done-clause-gone g c k count =
    let p = err_from_is_err_and c.from_residual.result c.from_residual.ensures.1 in
    let l = c.loop-name in
    let name = c.as_str.result.now in
    rw (p.1, p.2)
    (leads_then (l.invariant.gone k count)
    (untold (LeavesFile (joined_segment k))
    (subst (λ who. Adds (g.S.Site.told l.site) (g.S.Site.told c.remove.new.self)
    (Calls (asked who Remove (name ∷ []) 0 0) (answered plain c.remove.result))) c.requires.job c.remove.ensures.told) (λ h. tt)))

pub returns-clause-gone : goal.returns-clause-gone
returns-clause-gone g c k count =
    let names = c.args.names.now in
    leads_as (λ h x. x)
    (λ h x. none_pending k h
    (subst (λ ws. Pending k ws h) (drop_of_length-le names c.loop-name-test.false) x))
    (c.loop-name.invariant.gone k count)
