use Rattle.std.proofs.Common.{◌≡◌, [], subst}
use Rattle.chk_site.specs.declared.acts.Call.TheVariants.{Pause}
use Rattle.chk_site.specs.Site.{Adds, asked, answered, plain, Calls}
use Rattle.chk_world.specs.Sight.{job}
use Rattle.chk_replace.proofs.OldAndNew.{last_call}
use Rattle.chk_ctl_streams.proofs.following.wait.Goals as goal

pub returns-clause-told : goal.returns-clause-told
returns-clause-told g c =
    let is : c.args.who.now ≡ job = c.requires.job in
    last_call c.done.result c.pause-waited.result c.done.ensures
    (subst (λ w. Adds (g.S.Site.told c.args.site.now) (g.S.Site.told c.pause-waited.new.self)
    (Calls (asked w Pause [] 5000 0) (answered (plain {T = Unit {0}}) c.pause-waited.result))) is
    c.pause-waited.ensures.told)
