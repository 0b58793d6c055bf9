use Rattle.std.proofs.Common.{◌∙◌, Ok, Err, refl}
use Rattle.chk_wahead.proofs.Joining.{refused_by}
use Rattle.chk_cmd_udp.specs.Takings.{Gathers}
use Rattle.chk_cmd_udp.proofs.Keeping.{put_same}
use Rattle.chk_cmd_udp.proofs.Gathering.{unput_at, heard_at}
use Rattle.chk_cmd_udp.proofs.turn.gather.Goals as goal

pub returns-in_err-taken-clause-script : goal.returns-in_err-taken-clause-script
returns-in_err-taken-clause-script g c =
    rw (refused_by c.from_residual.ensures.1)
    (Gathers.untaken c.in_err-taken.field-0.0 c.in_err-taken.ensures.told)

pub returns-in_default-clause-script : goal.returns-in_default-clause-script
returns-in_default-clause-script g c =
    Gathers.silent (rw c.in_default.is at c.in_ok-taken.ensures.told)

pub returns-in_err-keep-clause-script : goal.returns-in_err-keep-clause-script
returns-in_err-keep-clause-script g c =
    rw (refused_by c.from_residual-in_err-keep.ensures.1)
    (unput_at c.in-Some.taking c.in_err-keep.field-0.0 c.keep.ensures.counted
    (rw c.in-Some.is at c.in_ok-taken.ensures.told) c.in_err-keep.ensures.told)

pub gather_more-requires-clause-ready : goal.gather_more-requires-clause-ready
gather_more-requires-clause-ready g c =
    (put_same c.args.wahead.now c.in-Some.taking.bytes (Ok tt) c.keep.new.wahead _ _
    c.in_ok-keep.ensures.told).ready refl ∙ c.requires.ready

pub returns-in_err-gather_more-clause-script : goal.returns-in_err-gather_more-clause-script
returns-in_err-gather_more-clause-script g c =
    rw (refused_by c.from_residual-in_err-gather_more.ensures.1)
    (heard_at {result = Err c.in_err-gather_more.field-0.0} c.in-Some.taking
    c.keep.ensures.counted (rw c.in-Some.is at c.in_ok-taken.ensures.told)
    c.in_ok-keep.ensures.told c.in_err-gather_more.ensures.script)

pub returns-clause-script : goal.returns-clause-script
returns-clause-script g c =
    heard_at {result = Ok tt} c.in-Some.taking c.keep.ensures.counted
    (rw c.in-Some.is at c.in_ok-taken.ensures.told) c.in_ok-keep.ensures.told
    c.in_ok-gather_more.ensures.script
