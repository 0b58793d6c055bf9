use Rattle.std.proofs.Common.{ap, subst}
use Rattle.chk_site.specs.History.{Every}
use Rattle.chk_site.specs.Site.{Adds}
use Rattle.chk_replace.specs.Replace.{SparesOld}
use Rattle.chk_world.specs.Names.{CheckFile, spell}
use Rattle.chk_checkpoint.specs.Lines.{lines_of}
use Rattle.chk_agent.specs.States.{State}
use Rattle.chk_agent.proofs.SettlingExits.{writes_as}
use Rattle.chk_agent.proofs.agent.Agent.write_lines.Goals as goal

pub returns-clause-told : goal.returns-clause-told
returns-clause-told g c =
    writes_as c.self.inside.who c.args.self.now (lines_of c.args.check.now)
    c.write_checkpoint.result c.self.invariant.role
    (ap (λ (s : State). s.source) c.self.view_is) c.write_checkpoint.ensures.told

pub returns-clause-unmade : goal.returns-clause-unmade
returns-clause-unmade g c =
    subst
    (λ (s : State). Adds (g.S.Site.told c.args.site.now) (g.S.Site.told c.write_checkpoint.new.site)
    (Every (SparesOld c.write_checkpoint.result (spell (CheckFile s.source)))))
    c.self.view_is c.write_checkpoint.ensures.unmade
