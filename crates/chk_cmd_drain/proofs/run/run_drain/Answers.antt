use Rattle.chk_cmd_drain.specs.declared.faults.DrainFault.TheVariants.{Run}
use Rattle.chk_cmd_drain.specs.Drains.{HasDrained}
use Rattle.chk_cmd_drain.proofs.DoneAll.{done_so, not_begun_so}
use Rattle.chk_cmd_drain.proofs.Ran.{unbegun_ends, unbegun_last, unbegun_cause, ran_ends, ran_last, ran_cause}
use Rattle.chk_cmd_drain.proofs.run.run_drain.Goals as goal

pub returns-in-Ok : goal.returns-in-Ok
returns-in-Ok g c = record {
  ran = HasDrained.drained_so c.in-Ok.begun c.in-Ok.ensures.ran c.finish.ensures.script;
  told = λ stamped. ran_ends stamped c.args.who.now c.args.writer.now c.in-Ok.begun.agent
      c.finish.new.agent c.finish.result
      c.in-Ok.ensures.me c.finish.ensures.undamaged
      (c.in-Ok.ensures.told stamped) c.finish.ensures.told;
  done = λ stamped. done_so stamped c.args.who.now c.args.writer.now c.args.work.now.initial
      c.in-Ok.begun.agent c.finish.new.agent c.in-Ok.ensures.me c.in-Ok.begun.now
      c.args.work.now.reads c.args.work.now.polls c.finish.result
      (c.in-Ok.ensures.told stamped) (c.in-Ok.ensures.done stamped) c.finish.ensures.script
      c.finish.ensures.told (c.finish.ensures.done stamped);
  last = ran_last c.finish.result c.in-Ok.ensures.last c.finish.ensures.last;
  cause = ran_cause c.finish.result _ _ _ c.in-Ok.ensures.cause c.finish.ensures.cause;
}

pub returns-in-Err : goal.returns-in-Err
returns-in-Err g c = record {
  ran = HasDrained.not_begun c.in-Err.fault c.in-Err.ensures.ran;
  told = λ stamped. unbegun_ends stamped c.args.who.now c.args.writer.now c.in-Err.fault
      (c.in-Err.ensures.told stamped);
  done = λ stamped. not_begun_so stamped c.args.who.now c.args.writer.now
      c.args.work.now.initial c.in-Err.fault (c.in-Err.ensures.told stamped);
  last = unbegun_last c.in-Err.fault c.in-Err.ensures.last;
  cause = unbegun_cause _ _ c.in-Err.fault c.in-Err.ensures.cause;
}
