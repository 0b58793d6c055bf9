use Rattle.std.proofs.Common.{[]}
use Rattle.chk_agent.proofs.TurningFaults.{last_ok}
use Rattle.chk_agent_run.proofs.Carried.{carried_none}
use Rattle.chk_agent_run.proofs.Controls.{at_some, at_none}
use Rattle.chk_agent_run.proofs.turn.at_door.Goals as goal

pub returns-in-Some-clause-script : goal.returns-in-Some-clause-script
returns-in-Some-clause-script g c =
    at_some c.args.who.now c.args.agent.now c.args.door c.in-Some.door c.in-Some.is c.run_messages.ensures.script

pub returns-in-None-clause-script : goal.returns-in-None-clause-script
returns-in-None-clause-script g c = at_none c.args.who.now c.args.agent.now c.args.door c.in-None.is _

pub returns-in-None-clause-told : goal.returns-in-None-clause-told
returns-in-None-clause-told g c = (carried_none c.args.agent.now (g.S.Site.told c.args.site.now)).talks

pub returns-in-None-clause-last : goal.returns-in-None-clause-last
returns-in-None-clause-last g c = last_ok (tt {0}) ((carried_none c.args.agent.now (g.S.Site.told c.args.site.now)).talks [])
