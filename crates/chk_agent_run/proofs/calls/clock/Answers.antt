use Rattle.chk_site.specs.declared.acts.Call.TheVariants.{Clock}
use Rattle.chk_site.specs.Site.{asked, sized}
use Rattle.std.proofs.Common.{[]}
use Rattle.chk_agent_run.specs.Calls.{Made}
use Rattle.chk_agent_run.proofs.CallsTold.{clock_told, made_last, cause_as}
use Rattle.chk_agent_run.proofs.calls.clock.Goals as goal

pub returns-clause-made : goal.returns-clause-made
returns-clause-made g c =
    record { given = c.clock-answer.result; gives = c.given.ensures.gives; told = c.clock-answer.ensures.told }

pub returns-clause-told : goal.returns-clause-told
returns-clause-told g c =
    clock_told c.args.agent.now c.args.who.now c.requires.who c.ready-sound.ensures.sound c.requires.ready (returns-clause-made g c)

pub returns-clause-last : goal.returns-clause-last
returns-clause-last g c = made_last (asked c.args.who.now Clock [] 0 0) sized c.given.result (returns-clause-made g c)

pub returns-clause-cause : goal.returns-clause-cause
returns-clause-cause g c =
    cause_as Clock (g.S.Site.fault_count c.args.site.now) (g.S.Site.fault_count c.clock-answer.new.self)
    c.clock-answer.result c.given.result c.given.ensures.gives c.clock-answer.ensures.cause
