use Rattle.std.proofs.Common.{[], ◌∷◌, subst}
use Rattle.chk_site.specs.declared.acts.Call.TheVariants.{Append}
use Rattle.chk_site.specs.declared.acts.Who.{Who}
use Rattle.chk_site.specs.Site.{asked}
use Rattle.chk_sink.specs.Calls.{MadeOnce}
use Rattle.chk_sink.proofs.Fields.{seen_as}
use Rattle.chk_sink.proofs.sinks.Sinks.append.Goals as goal

pub returns-clause-told : goal.returns-clause-told
returns-clause-told g c =
    subst (λ (w : Who). MadeOnce (asked w Append (c.args.sink.now ∷ c.args.piece.now ∷ []) 0 0)
    c.append_to.result
    (g.S.Site.told c.args.site.now) (g.S.Site.told c.append_to.new.site))
    (seen_as c.self.inside c.args.self.now c.self.view_is c.self.invariant).who
    c.append_to.ensures.told
