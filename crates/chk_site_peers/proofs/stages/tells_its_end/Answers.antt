use Rattle.chk_site_peers.proofs.stages.tells_its_end.Goals as goal

pub returns-in-Err-clause-post : goal.returns-in-Err-clause-post
returns-in-Err-clause-post c body post = absurd ((c.in-Err.ensures.post body).1 post)

pub returns-in-Err-clause-poll : goal.returns-in-Err-clause-poll
returns-in-Err-clause-poll c stems poll = absurd ((c.in-Err.ensures.poll stems).1 poll)
