use Rattle.std.proofs.Common.{subst, ◌∙◌}
use Rattle.chk_site.specs.Runs.{MadeInTurn}
use Rattle.chk_archive.specs.Calling.{removals}
use Rattle.chk_archive.specs.FolderNames.{closed_in}
use Rattle.chk_archive.proofs.SinksGo.{shown_go, shown_works}
use Rattle.chk_replace.proofs.CallSteps.{script_last}
use Rattle.chk_archive.proofs.sinks.remove_sinks.Goals as goal

pub returns-clause-told : goal.returns-clause-told
returns-clause-told g c stamped own =
    let old = g.S.Site.told c.args.site.now in
    let new = g.S.Site.told c.remove_all.new.site in
    shown_go stamped own c.args.names.now
    (subst (λ who. MadeInTurn (removals who
    (closed_in c.args.names.now)) c.remove_all.result old new) c.requires
    (subst (λ l. MadeInTurn (removals c.args.who.now l) c.remove_all.result old new)
    (c.as_slice.ensures.value ∙ c.in_ok-closed.ensures) c.remove_all.ensures.told))

pub returns-clause-own : goal.returns-clause-own
returns-clause-own g c =
    let old = g.S.Site.told c.args.site.now in
    let new = g.S.Site.told c.remove_all.new.site in
    shown_works c.args.names.now
    (subst (λ who. MadeInTurn (removals who
    (closed_in c.args.names.now)) c.remove_all.result old new) c.requires
    (subst (λ l. MadeInTurn (removals c.args.who.now l) c.remove_all.result old new)
    (c.as_slice.ensures.value ∙ c.in_ok-closed.ensures) c.remove_all.ensures.told))

pub returns-clause-last : goal.returns-clause-last
returns-clause-last g c = script_last c.remove_all.ensures.told
