use Rattle.std.proofs.Common.{◌<◌, length, arith}
use Rattle.chk_cmd_drain.proofs.LiveOnes.{path_found}
use Rattle.chk_cmd_drain.proofs.ending.path_at.Goals as goal

pub returns : goal.returns
returns c =
    let low : c.args.adaptor < length c.args.agent.now.adaptors = omega arith in
    path_found c.args.agent.now c.args.adaptor low c.path.result.now c.path.ensures c.word.result
    c.word.ensures
