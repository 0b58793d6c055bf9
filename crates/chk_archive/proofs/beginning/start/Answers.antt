use Rattle.std.proofs.Common.{[], subst}
use Rattle.chk_site.specs.declared.acts.Call.TheVariants.{Start}
use Rattle.chk_site.specs.Site.{Adds, asked, answered, plain, Calls}
use Rattle.chk_archive.proofs.Started.{start_so, start_works, start_pieces}
use Rattle.chk_archive_parts.proofs.Beginning.{start_last}
use Rattle.chk_archive.proofs.beginning.start.Goals as goal

pub returns-clause-told : goal.returns-clause-told
returns-clause-told g c stamped loaded =
    start_so stamped loaded c.done.result c.start.result c.done.ensures
    (subst (λ who. Adds (g.S.Site.told c.args.site.now) (g.S.Site.told c.start.new.self)
    (Calls (asked who Start [] 0 0) (answered plain c.start.result)))
    c.requires c.start.ensures.told)

pub returns-clause-own : goal.returns-clause-own
returns-clause-own g c =
    start_works c.start.result
    (subst (λ who. Adds (g.S.Site.told c.args.site.now) (g.S.Site.told c.start.new.self)
    (Calls (asked who Start [] 0 0) (answered plain c.start.result)))
    c.requires c.start.ensures.told)

pub returns-clause-last : goal.returns-clause-last
returns-clause-last g c =
    start_last c.done.result c.start.result c.done.ensures
    (subst (λ who. Adds (g.S.Site.told c.args.site.now) (g.S.Site.told c.start.new.self)
    (Calls (asked who Start [] 0 0) (answered plain c.start.result)))
    c.requires c.start.ensures.told)

pub returns-clause-pieces : goal.returns-clause-pieces
returns-clause-pieces g c =
    start_pieces c.start.result
    (subst (λ who. Adds (g.S.Site.told c.args.site.now) (g.S.Site.told c.start.new.self)
    (Calls (asked who Start [] 0 0) (answered plain c.start.result)))
    c.requires c.start.ensures.told)
