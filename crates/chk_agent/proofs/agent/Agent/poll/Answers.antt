use Rattle.chk_site.specs.declared.acts.Call.TheVariants.{Send}
use Rattle.chk_world.specs.Places.{Making}
use Rattle.chk_agent_delivery.specs.Scripts.{poll_fails}
use Rattle.chk_agent.specs.Fields.{agent_view}
use Rattle.chk_agent.proofs.TalkingTold.{polls_by, sending_runs, talk_told, talk_cause, poll_cause}
use Rattle.chk_agent.proofs.TalkingSound.{polled_sound}
use Rattle.chk_agent.proofs.agent.Agent.poll.Goals as goal

pub invariant_of-self : goal.invariant_of-self
invariant_of-self g c = record {
  role = c.self.invariant.role;
  sound = polled_sound c.self.inside.who
      (agent_view c.self.inside) c.self.invariant.sound c.poll-given.ensures.state
      c.used-sound.ensures.sound;
}

pub returns-clause-state : goal.returns-clause-state
returns-clause-state g c =
    let call = c.poll-given in
    polls_by c.self.inside c.args.self.now c.self.view_is c.self.invariant call.result
    c.as_agent.result call.new.self c.as_agent.ensures
    call.ensures.state

pub returns-clause-told : goal.returns-clause-told
returns-clause-told g c =
    talk_told (λ stamped who. Making stamped who Send) sending_runs c.self.inside c.args.self.now
    c.self.view_is c.self.invariant c.requires.ready
    c.poll-given.new.self c.poll-given.ensures.told

pub returns-clause-cause : goal.returns-clause-cause
returns-clause-cause g c =
    let call = c.poll-given in talk_cause _ _ call.result c.as_agent.result
    (poll_fails call.result) c.as_agent.ensures call.ensures.cause

pub returns-clause-failed : goal.returns-clause-failed
returns-clause-failed g c =
    let call = c.poll-given in
    poll_cause _ _ call.result c.as_agent.result c.as_agent.ensures call.ensures.cause
