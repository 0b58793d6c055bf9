use Rattle.std.proofs.Common.{ℕ, List, subst}
use Rattle.chk_site.specs.Runs.{MadeInTurn}
use Rattle.chk_replace.specs.Replace.{replacement}
use Rattle.chk_sink.proofs.starting.publish.Goals as goal

pub returns-clause-told : goal.returns-clause-told
returns-clause-told g c =
    subst
    (λ (bytes : List ℕ). MadeInTurn (replacement c.args.who.now c.args.name.now bytes) c.replace.result (g.S.Site.told c.args.site.now) (g.S.Site.told c.replace.new.site))
    c.to_be_bytes.ensures c.replace.ensures.told
