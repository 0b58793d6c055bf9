use Rattle.chk_exchange.proofs.Posting.{unsent_so, sent_by_answer, failed_by_answer}
use Rattle.chk_exchange.proofs.exchange.send_post.Goals as goal

pub returns-in-Ok-Sent-clause-script : goal.returns-in-Ok-Sent-clause-script
returns-in-Ok-Sent-clause-script g c =
    sent_by_answer c.in-Ok-Sent.field-0 c.in-Ok-Sent.field-0-0 c.in-Ok-Sent.is
    c.in-Ok-Sent.field-0-is c.post.ensures.state

pub returns-in-Ok-Failed-clause-script : goal.returns-in-Ok-Failed-clause-script
returns-in-Ok-Failed-clause-script g c =
    failed_by_answer c.in-Ok-Failed.field-0 c.in-Ok-Failed.is c.in-Ok-Failed.field-0-is
    c.post.ensures.state

pub returns-in-Err-clause-script : goal.returns-in-Err-clause-script
returns-in-Err-clause-script g c =
    unsent_so c.in-Err.field-0 (rw c.in-Err.is at c.post.ensures.state)
