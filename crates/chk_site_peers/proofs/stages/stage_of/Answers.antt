use Rattle.chk_site_peers.proofs.stages.stage_of.Goals as goal

pub returns-in-Err-NotYet-clause-post : goal.returns-in-Err-NotYet-clause-post
returns-in-Err-NotYet-clause-post c body post = absurd ((c.in-Err-NotYet.ensures.post body).1 post)

pub returns-in-Err-NotYet-clause-poll : goal.returns-in-Err-NotYet-clause-poll
returns-in-Err-NotYet-clause-poll c stems poll = absurd ((c.in-Err-NotYet.ensures.poll stems).1 poll)
