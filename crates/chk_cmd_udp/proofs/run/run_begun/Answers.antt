use Rattle.chk_wahead.proofs.Joining.{refused_by}
use Rattle.chk_cmd_udp.specs.Runs.{GoesOn, finished}
use Rattle.chk_cmd_udp.proofs.run.run_begun.Goals as goal

pub returns-in_err-run_turns-clause-ran : goal.returns-in_err-run_turns-clause-ran
returns-in_err-run_turns-clause-ran g c =
    rw (refused_by c.from_residual.ensures.1)
    (GoesOn.cut c.in_err-run_turns.field-0.0
    (rw c.new-tally.ensures at c.in_err-run_turns.ensures.script))

pub returns-clause-ran : goal.returns-clause-ran
returns-clause-ran g c =
    finished (rw c.new-tally.ensures at c.in_ok-run_turns.ensures.script) c.finish.ensures.script
