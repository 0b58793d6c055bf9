use Rattle.std.proofs.Common.{◌∙◌, ◌+◌, subst, drop}
use Rattle.std.proofs.Math.ListN.{drop_of_length-le}
use Rattle.std.proofs.lemmas.Result.{err_from_is_err_and}
use Rattle.chk_archive.proofs.InTurn.{SoFar, one_more, one_ended, all_made}
use Rattle.chk_archive_parts.proofs.InTurn.{cause_done, next_is}
use Rattle.chk_archive.proofs.calling.remove_all.Goals as goal

pub returns-in_err-done-clause-told : goal.returns-in_err-done-clause-told
returns-in_err-done-clause-told g c =
    let p = err_from_is_err_and c.from_residual.result c.from_residual.ensures.1 in
    let who = c.args.who.now in
    let names = c.args.names.now in
    let l = c.loop-name in
    let name = c.as_str.result.now in
    let old = g.S.Site.told c.args.site.now in
    let now = g.S.Site.told l.site in
    let next = next_is names l.name-index c.name-item.result name c.loop-name-test.true c.name-item.is c.as_str.ensures.text in
    rw (p.1, p.2)
    (one_ended who names name (drop (l.name-index + 1) names) old now
    (g.S.Site.told c.remove.new.self)
    (subst (λ r. SoFar who names r old now) next l.invariant.so_far) c.remove.result c.in_err-done.field-0.0
    c.in_err-done.ensures c.remove.ensures.told)

pub loop-name-preserved : goal.loop-name-preserved
loop-name-preserved g c =
    let who = c.args.who.now in
    let names = c.args.names.now in
    let l = c.loop-name in
    let name = c.as_str.result.now in
    let old = g.S.Site.told c.args.site.now in
    let now = g.S.Site.told l.site in
    let next = next_is names l.name-index c.name-item.result name c.loop-name-test.true c.name-item.is c.as_str.ensures.text in
    record {
      so_far = one_more who names name (drop (l.name-index + 1) names) old now
          (g.S.Site.told c.remove.new.self)
          (subst (λ r. SoFar who names r old now) next l.invariant.so_far) c.remove.result c.in_ok-done.ensures
          c.remove.ensures.told;
      count = cause_done (g.S.Site.fault_count l.site)
          (g.S.Site.fault_count c.remove.new.self) c.remove.result c.in_ok-done.ensures
          c.remove.ensures.cause ∙ l.invariant.count;
    }

pub returns-clause-told : goal.returns-clause-told
returns-clause-told g c =
    let names = c.args.names.now in
    all_made c.args.who.now names (drop c.loop-name.name-index names)
    (g.S.Site.told c.args.site.now) (g.S.Site.told c.loop-name.site)
    c.loop-name.invariant.so_far (drop_of_length-le names c.loop-name-test.false)
