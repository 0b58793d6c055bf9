use Rattle.chk_exchange.specs.Exchanges.{silent}
use Rattle.chk_exchange.proofs.Polling.{never_nothing, ungot_end, taken_end, told_end, refused_end}
use Rattle.chk_exchange.proofs.exchange.end_poll.Goals as goal

pub unreachable-requires : goal.unreachable-requires
unreachable-requires g c =
    never_nothing
    (rw (c.in-Ok-Nothing.is, c.in-Ok-Nothing.field-0-is) at c.poll_reply.ensures.state)
    c.requires.out

pub returns-in-None-clause-script : goal.returns-in-None-clause-script
returns-in-None-clause-script g c stems out =
    rw c.in-None.is
    (taken_end stems c.in-Ok-Lengths.field-0-0 c.in-Ok-Lengths.below out
    (rw (c.in-Ok-Lengths.is, c.in-Ok-Lengths.field-0-is) at c.poll_reply.ensures.state))

pub returns-in-Some-clause-script : goal.returns-in-Some-clause-script
returns-in-Some-clause-script g c stems out =
    rw c.in-Some.is
    (told_end stems c.in-Ok-Lengths.field-0-0 c.in-Ok-Lengths.below c.in-Some.fault out
    (rw (c.in-Ok-Lengths.is, c.in-Ok-Lengths.field-0-is) at c.poll_reply.ensures.state))

pub returns-in-Ok-Refused-clause-script : goal.returns-in-Ok-Refused-clause-script
returns-in-Ok-Refused-clause-script g c stems out =
    refused_end stems c.args.made c.in-Ok-Refused.code c.refusal.result c.refusal.ensures.told
    c.refusal.ensures.other
    (rw (c.in-Ok-Refused.is, c.in-Ok-Refused.field-0-is) at c.poll_reply.ensures.state)

pub returns-in-Ok-Silent-clause-script : goal.returns-in-Ok-Silent-clause-script
returns-in-Ok-Silent-clause-script g c stems out =
    silent (rw (c.in-Ok-Silent.is, c.in-Ok-Silent.field-0-is) at c.poll_reply.ensures.state)

pub returns-in-Err-clause-script : goal.returns-in-Err-clause-script
returns-in-Err-clause-script g c stems out =
    ungot_end stems c.args.made c.in-Err.field-0 (rw c.in-Err.is at c.poll_reply.ensures.state)
