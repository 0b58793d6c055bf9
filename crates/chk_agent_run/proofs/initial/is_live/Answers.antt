use Rattle.std.proofs.Common.{sym, ◌∙◌}
use Rattle.chk_agent_run.proofs.LiveLemmas.{found_live, none_live, number_below}
use Rattle.chk_agent_run.proofs.initial.is_live.Goals as goal

pub state-requires : goal.state-requires
state-requires c =
    number_below c.args.kind.now c.args.path.now c.args.agent.now c.find_stream.result
    c.find_stream.ensures
    c.in-Some.number (sym c.in-Some.is)

pub returns-in-Some : goal.returns-in-Some
returns-in-Some c =
    c.is_some.ensures
    ∙ found_live c.args.kind.now c.args.path.now c.args.agent.now c.find_stream.result
    c.find_stream.ensures
    c.in-Some.number (sym c.in-Some.is) c.ready-sound.ensures.sound c.state.result c.state.ensures

pub returns-in-None : goal.returns-in-None
returns-in-None c =
    none_live c.args.kind.now c.args.path.now c.args.agent.now c.find_stream.result
    c.find_stream.ensures
    (sym c.in-None.is)
