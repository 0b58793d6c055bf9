use Rattle.chk_tee_sender.proofs.offers.post_of.Goals as goal

pub returns-in-Ok-Acks-clause-none : goal.returns-in-Ok-Acks-clause-none
returns-in-Ok-Acks-clause-none c body post = rw c.in-Ok-Acks.field-0-is at ((c.in-Ok-Acks.ensures.post body).1 post)

pub returns-in-Err-clause-none : goal.returns-in-Err-clause-none
returns-in-Err-clause-none c body post = (c.in-Err.ensures.post body).1 post
