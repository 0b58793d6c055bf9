use Rattle.std.proofs.Common.{ℕ, ◌∙◌, ap, subst, sym, arith}
use Rattle.chk_chunk.specs.Posts.{IsPost, guessed_chunks}
use Rattle.chk_chunk.proofs.PostGrammar.{post_from_faultless, chunks_from_post, length-guessed_chunks, post_read}
use Rattle.chk_chunk.proofs.posts.read_post.Goals as goal

pub returns-in_err-count-clause-every_post : goal.returns-in_err-count-clause-every_post
returns-in_err-count-clause-every_post c chunks h =
    let fine = (post_read c.args.body.now chunks h).fine in
    absurd (cc (fine, c.in_err-count.ensures.fault))

pub invariant_of-result : goal.invariant_of-result
invariant_of-result c =
    chunks_from_post c.in_ok-count.count c.args.body.now c.in_ok-count.ensures.fine c.in_ok-count.ensures.count

pub returns-clause-post : goal.returns-clause-post
returns-clause-post c =
    let body = c.args.body.now in
    subst (λ (n : ℕ). IsPost (guessed_chunks n 4 body) body) (sym c.in_ok-count.ensures.count)
    (post_from_faultless body (λ i. omega (arith, c.type_inv.body i)) c.in_ok-count.ensures.fine)

pub returns-clause-count : goal.returns-clause-count
returns-clause-count c = sym (length-guessed_chunks c.in_ok-count.count 4 c.args.body.now)

pub returns-clause-every_post : goal.returns-clause-every_post
returns-clause-every_post c chunks h =
    ap (λ n. guessed_chunks n 4 c.args.body.now) c.in_ok-count.ensures.count
    ∙ (post_read c.args.body.now chunks h).are
