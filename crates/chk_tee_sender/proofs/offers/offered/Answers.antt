use Rattle.std.proofs.Common.{ℕ, List, ◌∙◌, subst}
use Rattle.chk_chunk.specs.Posts.{IsPost}
use Rattle.chk_http_grammar.proofs.Accepted.{PostRequest-same}
use Rattle.chk_tee_sender.proofs.OfferLemmas.{each_counted}
use Rattle.chk_tee_sender.proofs.offers.offered.Goals as goal

pub returns-in_default-clause-none : goal.returns-in_default-clause-none
returns-in_default-clause-none c chunks acks p = c.in_default.ensures.none p.post.0 p.post.1

pub returns-in_default-count_of-clause-none : goal.returns-in_default-count_of-clause-none
returns-in_default-count_of-clause-none c chunks acks p =
    c.in_default-count_of.ensures.none chunks
    (subst (λ (b : List ℕ). IsPost chunks b)
    (PostRequest-same p.post.0 c.in-Some.post.now c.args.request.now p.post.1 c.in-Some.ensures.some) p.post.2)

pub returns-in-None-clause-none : goal.returns-in-None-clause-none
returns-in-None-clause-none c chunks acks p =
    c.in-None.ensures.none acks p.good
    (p.each ∙ each_counted c.args.request.now c.in-Some.post.now chunks c.in-Some-count_of.count p.post c.in-Some.ensures.some c.in-Some-count_of.ensures.some)
    p.placed
