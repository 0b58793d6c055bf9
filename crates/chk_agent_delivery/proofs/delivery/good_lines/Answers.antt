use Rattle.chk_agent_delivery.proofs.GoodReplies.{other_code, other_lines, unread}
use Rattle.chk_agent_delivery.proofs.delivery.good_lines.Goals as goal

pub returns-then-reply-ne200-clause-refused : goal.returns-then-reply-ne200-clause-refused
returns-then-reply-ne200-clause-refused c =
    other_code c.args.bytes.now c.args.count c.in-Ok.reply c.in-Ok.ensures.reply c.if-reply-ne200.true

pub returns-in-Err-new-clause-refused : goal.returns-in-Err-new-clause-refused
returns-in-Err-new-clause-refused c =
    other_lines c.args.bytes.now c.args.count c.in-Ok.reply c.in-Ok.ensures.reply c.if-reply-ne200.false c.in-Err-new.ensures.none

pub returns-in-Err-clause-refused : goal.returns-in-Err-clause-refused
returns-in-Err-clause-refused c = unread c.args.bytes.now c.args.count c.in-Err.field-0 c.in-Err.ensures.reply
