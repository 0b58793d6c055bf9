use Rattle.std.proofs.lemmas.Result.{err_from_is_err_and}
use Rattle.chk_agent.specs.Takes.{named, wanting}
use Rattle.chk_agent.proofs.agent.Agent.take_named.Goals as goal

pub returns-in_err-name-clause-state : goal.returns-in_err-name-clause-state
returns-in_err-name-clause-state g c =
    let p = err_from_is_err_and c.from_residual.result c.from_residual.ensures.1 in rw (p.1, p.2) wanting

pub returns-clause-state : goal.returns-clause-state
returns-clause-state g c = named c.in_ok-name.name c.in_ok-name.ensures.name c.take_stream.ensures.state
