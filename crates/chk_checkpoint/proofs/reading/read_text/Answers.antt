use Rattle.std.proofs.Common.{map}
use Rattle.chk_checkpoint.specs.Lines.{shown, text_version}
use Rattle.chk_checkpoint.proofs.Fronts.{no_version}
use Rattle.chk_checkpoint.proofs.SoFar.{bad, one_more, all_read}
use Rattle.chk_checkpoint.proofs.reading.read_text.Goals as goal

pub returns-in_default : goal.returns-in_default
returns-in_default c = no_version c.args.text.now c.in_default.ensures.none

pub returns-in_default-2 : goal.returns-in_default-2
returns-in_default-2 c =
    bad (text_version c.in-Some.version) (map shown c.loop-at.lines.items) c.loop-at.seen c.args.text.now c.loop-at.at c.loop-at.invariant
    c.loop-at-test.true (rw c.in_default-2.is at c.in_ok-size.ensures.none)

pub loop-at-preserved : goal.loop-at-preserved
loop-at-preserved c =
    one_more (text_version c.in-Some.version) (map shown c.loop-at.lines.items) c.loop-at.seen c.args.text.now c.loop-at.at c.loop-at.invariant
    c.next_line.new.seen (map shown c.next_line.new.lines.items) c.in-Some-2.size
    (rw c.in-Some-2.is at c.in_ok-size.ensures.some)

pub returns : goal.returns
returns c =
    all_read (text_version c.in-Some.version) (map shown c.loop-at.lines.items) c.loop-at.seen c.args.text.now c.loop-at.at c.loop-at.invariant
    c.loop-at-test.false
