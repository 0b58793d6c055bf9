use Rattle.std.proofs.Common.{arith}
use Rattle.chk_wahead.proofs.Joining.{refused_by}
use Rattle.chk_cmd_udp.proofs.Chains.{turns_begin, turns_over, turns_cut, turns_go_on}
use Rattle.chk_cmd_udp.proofs.Turning.{tidy_small}
use Rattle.chk_cmd_udp.proofs.run.run_turns.Goals as goal

pub loop-turn-init : goal.loop-turn-init
loop-turn-init g c =
    turns_begin c.args.who.now c.args.door.now c.args.work.rotate c.args.work.messages
    c.args.work.turns 9223372036854775808 c.args.wahead.now c.args.tally.now
    (g.S.Site.told c.args.site.now) (g.S.Site.fault_count c.args.site.now) c.requires.ready
    c.requires.small

pub loop-turn-preserved : goal.loop-turn-preserved
loop-turn-preserved g c =
    turns_go_on c.loop-turn.invariant c.udp_turn.new.wahead c.udp_turn.new.tally
    (g.S.Site.fault_count c.udp_turn.new.site) c.in_ok-udp_turn.ensures.turn
    c.in_ok-udp_turn.ensures.ready
    (tidy_small c.args.work.rotate 9223372036854775808 c.udp_turn.new.wahead.held
    (omega (arith, c.requires.rotate)) (omega arith) c.in_ok-udp_turn.ensures.tidy)
    c.in_ok-udp_turn.ensures.cause

pub returns-in_err-udp_turn-clause-script : goal.returns-in_err-udp_turn-clause-script
returns-in_err-udp_turn-clause-script g c =
    rw (refused_by c.from_residual.ensures.1)
    (turns_cut c.loop-turn.invariant (omega arith) c.in_err-udp_turn.field-0.0
    c.udp_turn.new.wahead c.udp_turn.new.tally c.in_err-udp_turn.ensures.turn)

pub returns-clause-script : goal.returns-clause-script
returns-clause-script g c = turns_over c.loop-turn.invariant (omega arith)
