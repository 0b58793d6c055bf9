use Rattle.chk_site.specs.declared.acts.Call.TheVariants.{Pause}
use Rattle.chk_site.specs.Site.{asked, plain}
use Rattle.std.proofs.Common.{[]}
use Rattle.chk_agent_run.specs.Calls.{Made}
use Rattle.chk_agent_run.proofs.CallsTold.{pause_told, made_last, cause_as}
use Rattle.chk_agent_run.proofs.calls.wait.Goals as goal

pub returns-clause-made : goal.returns-clause-made
returns-clause-made g c =
    record { given = c.pause-answer.result; gives = c.given.ensures.gives; told = c.pause-answer.ensures.told }

pub returns-clause-told : goal.returns-clause-told
returns-clause-told g c =
    pause_told c.args.agent.now c.args.who.now c.requires.who c.ready-sound.ensures.sound c.requires.ready c.args.time (returns-clause-made g c)

pub returns-clause-last : goal.returns-clause-last
returns-clause-last g c = made_last (asked c.args.who.now Pause [] c.args.time 0) plain c.given.result (returns-clause-made g c)

pub returns-clause-cause : goal.returns-clause-cause
returns-clause-cause g c =
    cause_as Pause (g.S.Site.fault_count c.args.site.now) (g.S.Site.fault_count c.pause-answer.new.self)
    c.pause-answer.result c.given.result c.given.ensures.gives c.pause-answer.ensures.cause
