use Rattle.chk_agent_run.specs.Turns.{Answers}
use Rattle.chk_agent_run.proofs.CallsTold.{answer_told, count_of}
use Rattle.chk_agent_run.proofs.calls.answer.Goals as goal

pub returns-clause-made : goal.returns-clause-made
returns-clause-made g c =
    record { given = c.answer-reply.result; gives = c.answered.ensures.gives; told = c.answer-reply.ensures.told }

pub returns-clause-told : goal.returns-clause-told
returns-clause-told g c =
    answer_told c.args.agent.now c.args.who.now c.requires.who c.ready-sound.ensures.sound c.requires.ready c.args.taking
    c.args.text.now (returns-clause-made g c)

pub returns-clause-count : goal.returns-clause-count
returns-clause-count g c =
    count_of (g.S.Site.fault_count c.args.site.now) (g.S.Site.fault_count c.answer-reply.new.self)
    c.answer-reply.result c.answer-reply.ensures.cause
