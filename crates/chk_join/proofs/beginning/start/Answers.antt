use Rattle.std.proofs.Common.{[], subst}
use Rattle.chk_site.specs.declared.acts.Call.TheVariants.{Start}
use Rattle.chk_site.specs.Site.{Adds, asked, answered, plain, Calls}
use Rattle.chk_join.proofs.Started.{start_so, start_works}
use Rattle.chk_join.proofs.beginning.start.Goals as goal

pub returns-clause-told : goal.returns-clause-told
returns-clause-told g c stamped =
    start_so stamped c.done.result c.start.result c.done.ensures
    (subst (λ who. Adds (g.S.Site.told c.args.site.now) (g.S.Site.told c.start.new.self)
    (Calls (asked who Start [] 0 0) (answered plain c.start.result)))
    c.requires c.start.ensures.told)

pub returns-clause-works : goal.returns-clause-works
returns-clause-works g c =
    start_works c.done.result c.start.result c.done.ensures
    (subst (λ who. Adds (g.S.Site.told c.args.site.now) (g.S.Site.told c.start.new.self)
    (Calls (asked who Start [] 0 0) (answered plain c.start.result)))
    c.requires c.start.ensures.told)
