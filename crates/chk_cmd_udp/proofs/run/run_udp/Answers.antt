use Rattle.std.proofs.Common.{ap, arith}
use Rattle.chk_site.specs.declared.acts.Who.{Who}
use Rattle.chk_cmd_udp.specs.Runs.{unstarted, started}
use Rattle.chk_cmd_udp.proofs.Lasting.{run_last}
use Rattle.chk_cmd_udp.proofs.Legally.{run_legal}
use Rattle.chk_cmd_udp.proofs.Spending.{run_spent}
use Rattle.chk_cmd_udp.proofs.Starting.{begun, begun_small}
use Rattle.chk_cmd_udp.proofs.run.run_udp.Goals as goal

pub run_begun-requires-clause-ready : goal.run_begun-requires-clause-ready
run_begun-requires-clause-ready g c = (begun c.in-Ok.wahead c.in-Ok.ensures.told).ready

pub run_begun-requires-clause-small : goal.run_begun-requires-clause-small
run_begun-requires-clause-small g c =
    begun_small 9223372036854775808 c.args.who.now c.in-Ok.wahead (omega arith)
    (begun c.in-Ok.wahead c.in-Ok.ensures.told)

pub returns-in-Ok : goal.returns-in-Ok
returns-in-Ok g c =
    let ran = started c.in-Ok.ensures.told c.run_begun.ensures.ran in
    record {
      ran = ran;
      legal = run_legal c.args.who.now c.args.writer.now (ap (λ (w : Who). w.role) c.requires.who)
          c.requires.writer ran;
      spent = run_spent ran;
      last = run_last ran;
      cause = rw c.in-Ok.ensures.cause at c.run_begun.ensures.cause;
    }

pub returns-in-Err : goal.returns-in-Err
returns-in-Err g c =
    let ran = unstarted c.in-Err.fault c.in-Err.ensures.told in
    record {
      ran = ran;
      legal = run_legal c.args.who.now c.args.writer.now (ap (λ (w : Who). w.role) c.requires.who)
          c.requires.writer ran;
      spent = run_spent ran;
      last = run_last ran;
      cause = c.in-Err.ensures.cause;
    }
