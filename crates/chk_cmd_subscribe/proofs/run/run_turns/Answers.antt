use Rattle.std.proofs.Common.{◌+◌, ◌-◌, arith, ◌∙◌}
use Rattle.chk_cmd_subscribe.proofs.Running.{turns_next, turns_stop, turns_over}
use Rattle.chk_cmd_subscribe.proofs.run.run_turns.Goals as goal

pub returns-in-Err-clause-script : goal.returns-in-Err-clause-script
returns-in-Err-clause-script g c =
    let l = c.loop-turn in
    turns_stop c.args.who.now c.args.door.now c.args.turns (c.args.turns - l._turn) (c.args.turns - (l._turn + 1)) _ l.watch c.turn.new.watch _ _ _
    c.in-Err.fault (omega arith) l.invariant.goes_on c.in-Err.ensures.script

pub loop-turn-preserved : goal.loop-turn-preserved
loop-turn-preserved g c =
    let l = c.loop-turn in
    record {
      goes_on = turns_next c.args.who.now c.args.door.now c.args.turns (c.args.turns - l._turn) (c.args.turns - (l._turn + 1)) _ l.watch
          c.turn.new.watch _ _ _ (omega arith) l.invariant.goes_on c.in-Ok.ensures.script;
      count = c.in-Ok.ensures.cause ∙ l.invariant.count;
    }

pub returns-clause-script : goal.returns-clause-script
returns-clause-script g c =
    let l = c.loop-turn in
    turns_over c.args.who.now c.args.door.now c.args.turns (c.args.turns - l._turn) _ l.watch _ _ (omega arith) l.invariant.goes_on
