use Rattle.std.proofs.Common.{ℕ, List, subst}
use Rattle.chk_site.specs.declared.acts.Call.TheVariants.{Take}
use Rattle.chk_agent_run.specs.Calls.{Took}
use Rattle.chk_agent_run.proofs.CallsTold.{take_told, took_last, cause_as}
use Rattle.chk_agent_run.proofs.calls.take.Goals as goal

pub returns-clause-taken : goal.returns-clause-taken
returns-clause-taken g c =
    subst (λ (door : List ℕ). Took c.args.who.now door c.given.result (g.S.Site.told c.args.site.now) (g.S.Site.told c.take-answer.new.self))
    c.as_str.ensures.text
    (record { given = c.take-answer.result; gives = c.given.ensures.gives; told = c.take-answer.ensures.told })

pub returns-clause-told : goal.returns-clause-told
returns-clause-told g c =
    take_told c.args.agent.now c.args.who.now c.requires.who c.ready-sound.ensures.sound c.requires.ready c.args.door.now
    (returns-clause-taken g c)

pub returns-clause-last : goal.returns-clause-last
returns-clause-last g c = took_last c.args.who.now c.args.door.now c.given.result (returns-clause-taken g c)

pub returns-clause-cause : goal.returns-clause-cause
returns-clause-cause g c =
    cause_as Take (g.S.Site.fault_count c.args.site.now) (g.S.Site.fault_count c.take-answer.new.self)
    c.take-answer.result c.given.result c.given.ensures.gives c.take-answer.ensures.cause
