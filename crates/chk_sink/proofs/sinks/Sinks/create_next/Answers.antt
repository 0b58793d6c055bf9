use Rattle.std.proofs.Common.{[], ◌∷◌, subst}
use Rattle.chk_site.specs.declared.acts.Call.TheVariants.{Create}
use Rattle.chk_site.specs.declared.acts.Who.{Who}
use Rattle.chk_site.specs.Site.{Adds, asked, answered, plain, Calls}
use Rattle.chk_sink.proofs.Fields.{seen_as}
use Rattle.chk_sink.proofs.sinks.Sinks.create_next.Goals as goal

pub returns-clause-told : goal.returns-clause-told
returns-clause-told g c =
    let s = c.args.self.now in
    let known = seen_as c.self.inside s c.self.view_is c.self.invariant in
    record {
      given = c.create-created.result;
      came = c.done.ensures;
      told = subst (λ (w : Who). Adds (g.S.Site.told c.args.site.now)
          (g.S.Site.told c.create-created.new.self)
          (Calls (asked w Create (c.args.name.now ∷ []) 0 0)
          (answered plain c.create-created.result))) known.who c.create-created.ensures.told;
      counted = c.count.ensures;
    }
