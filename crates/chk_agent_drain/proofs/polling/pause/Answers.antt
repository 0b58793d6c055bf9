use Rattle.chk_agent_drain.proofs.Pausing.{paused_talks, unpaused_talks}
use Rattle.chk_agent_drain.proofs.polling.pause.Goals as goal

pub returns-in_err-done-clause-talks : goal.returns-in_err-done-clause-talks
returns-in_err-done-clause-talks g c =
    unpaused_talks c.args.agent.now c.free_rows-sound.ensures.sound c.requires.ready
    c.who.result.now c.who.ensures
    c.pause-given.result c.pause-given.ensures.told c.in_err-done.field-0.0 c.in_err-done.ensures

pub returns-clause-talks : goal.returns-clause-talks
returns-clause-talks g c =
    paused_talks c.args.agent.now c.free_rows-sound.ensures.sound c.requires.ready c.who.result.now
    c.who.ensures
    c.pause-given.result c.pause-given.ensures.told c.pause-given.ensures.only c.in_ok-done.ensures
