use Rattle.std.proofs.Common.{List, ℕ, subst}
use Rattle.chk_ctl_status.specs.Telling.{Tells}
use Rattle.chk_ctl_status.proofs.telling.say_text.Goals as goal

pub returns-clause-told : goal.returns-clause-told
returns-clause-told g c =
    let old = g.S.Site.told c.args.site.now in
    let new = g.S.Site.told c.say_bytes.new.site in
    subst (λ (t : List ℕ). Tells c.args.who.now t c.say_bytes.result old new)
    c.as_bytes.ensures.value c.say_bytes.ensures.told
