use Rattle.std.proofs.Common.{sym}
use Rattle.chk_tee_sender.proofs.SubscriberLemmas.{line_unaddressed}
use Rattle.chk_tee_sender.proofs.subscribers.read_subscriber.Goals as goal

pub returns-then-is_some-clause-none : goal.returns-then-is_some-clause-none
returns-then-is_some-clause-none c =
    line_unaddressed c.args.line.now c.in-Some.size c.word_fault.result c.in-Some.ensures.place c.word_fault.ensures
    (sym c.if-is_some.ensures)
