use Rattle.chk_world.specs.Places.{As}
use Rattle.chk_agent_delivery.specs.Scripts.{reply_fails}
use Rattle.chk_agent.specs.Fields.{agent_view}
use Rattle.chk_agent.proofs.TalkingTold.{replies_by, as_runs, talk_told, talk_cause, answer_cause}
use Rattle.chk_agent.proofs.TalkingSound.{replied_sound}
use Rattle.chk_agent.proofs.agent.Agent.post_reply.Goals as goal

pub invariant_of-self : goal.invariant_of-self
invariant_of-self g c = record {
  role = c.self.invariant.role;
  sound = replied_sound c.self.inside.who
      (agent_view c.self.inside) c.self.invariant.sound c.post_reply-given.ensures.state
      c.used-sound.ensures.sound;
}

pub returns-clause-state : goal.returns-clause-state
returns-clause-state g c =
    let call = c.post_reply-given in
    replies_by c.self.inside c.args.self.now c.self.view_is c.self.invariant c.args.now call.result
    c.as_agent.result call.new.self c.as_agent.ensures
    call.ensures.state

pub returns-clause-told : goal.returns-clause-told
returns-clause-told g c =
    talk_told As as_runs c.self.inside c.args.self.now c.self.view_is c.self.invariant
    c.requires.ready
    c.post_reply-given.new.self c.post_reply-given.ensures.told

pub returns-clause-cause : goal.returns-clause-cause
returns-clause-cause g c =
    let call = c.post_reply-given in talk_cause _ _ call.result c.as_agent.result
    (reply_fails call.result) c.as_agent.ensures call.ensures.cause

pub returns-clause-failed : goal.returns-clause-failed
returns-clause-failed g c =
    let call = c.post_reply-given in
    answer_cause _ _ call.result c.as_agent.result c.as_agent.ensures call.ensures.cause
