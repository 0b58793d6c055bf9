use Rattle.chk_tee_sender.proofs.OfferLemmas.{posted_here}
use Rattle.chk_tee_sender.proofs.offers.count_of.Goals as goal

pub returns-in-Ok-clause-some : goal.returns-in-Ok-clause-some
returns-in-Ok-clause-some c =
    posted_here c.args.body.now c.in-Ok.post.left c.in-Ok.post.count _ c.in-Ok.ensures.post c.in-Ok.ensures.count c.count.ensures
