use Rattle.std.proofs.Common.{[], ◌∷◌, subst}
use Rattle.chk_site.specs.declared.acts.Who.{Who}
use Rattle.chk_site.specs.declared.acts.Call.TheVariants.{Say}
use Rattle.chk_site.specs.Site.{Adds, asked, answered, plain, Calls}
use Rattle.chukwa_run.specs.Saying.{unsaid, said}
use Rattle.chukwa_run.proofs.saying.say.Goals as goal

pub returns-in_default-clause-says : goal.returns-in_default-clause-says
returns-in_default-clause-says g c = unsaid

pub returns-clause-says : goal.returns-clause-says
returns-clause-says g c =
    said c.say-said.result
    (subst (λ (w : Who). Adds (g.S.Site.told c.args.site.now) (g.S.Site.told c.say-said.new.self)
    (Calls (asked w Say (c.args.line.now ∷ []) 0 0) (answered plain c.say-said.result))) c.in-Ok.ensures c.say-said.ensures.told)
