use Rattle.std.proofs.Common.{◌∙◌, ◌-◌, arith}
use Rattle.chk_wahead.proofs.Joining.{refused_by}
use Rattle.chk_cmd_udp.proofs.Gathering.{further_begins, further_over, further_full, further_none, further_untaken, further_unput, further_goes_on}
use Rattle.chk_cmd_udp.proofs.turn.gather_more.Goals as goal

pub loop-further-init : goal.loop-further-init
loop-further-init g c =
    further_begins c.args.who.now c.args.door.now c.args.work.rotate (c.args.work.messages - 1)
    c.args.wahead.now c.args.tally.now (g.S.Site.told c.args.site.now)
    (g.S.Site.fault_count c.args.site.now) c.requires.ready

pub loop-further-preserved : goal.loop-further-preserved
loop-further-preserved g c =
    further_goes_on c.loop-further.invariant (omega arith) (omega (arith, c.length.ensures))
    c.in-Some.taking (rw c.in-Some.is at c.in_ok-taken.ensures.told) c.keep.new.wahead
    c.keep.new.tally (g.S.Site.fault_count c.keep.new.site) c.keep.ensures.counted
    c.in_ok-keep.ensures.told (c.in_ok-keep.ensures.cause ∙ c.in_ok-taken.ensures.cause)

pub returns-in_err-taken-clause-script : goal.returns-in_err-taken-clause-script
returns-in_err-taken-clause-script g c =
    rw (refused_by c.from_residual.ensures.1)
    (further_untaken c.loop-further.invariant (omega arith) (omega (arith, c.length.ensures))
    c.in_err-taken.field-0.0 c.in_err-taken.ensures.told)

pub returns-in_default-clause-script : goal.returns-in_default-clause-script
returns-in_default-clause-script g c =
    further_none c.loop-further.invariant (omega arith) (omega (arith, c.length.ensures))
    (rw c.in_default.is at c.in_ok-taken.ensures.told)

pub returns-in_err-keep-clause-script : goal.returns-in_err-keep-clause-script
returns-in_err-keep-clause-script g c =
    rw (refused_by c.from_residual-in_err-keep.ensures.1)
    (further_unput c.loop-further.invariant (omega arith) (omega (arith, c.length.ensures))
    c.in-Some.taking (rw c.in-Some.is at c.in_ok-taken.ensures.told) c.in_err-keep.field-0.0
    c.keep.new.wahead c.keep.new.tally c.keep.ensures.counted c.in_err-keep.ensures.told)

pub returns-clause-script : goal.returns-clause-script
returns-clause-script g c = further_over c.loop-further.invariant (omega arith)

pub returns-then-length-work-clause-script : goal.returns-then-length-work-clause-script
returns-then-length-work-clause-script g c =
    further_full c.loop-further.invariant (omega arith) (omega (arith, c.length.ensures))
