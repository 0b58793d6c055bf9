use Rattle.std.proofs.Common.{◌≡◌, ◌++◌, List, ℕ, subst, sym, ap, ◌∙◌}
use Rattle.chk_chunk.specs.Posts.{IsPost, written_post}
use Rattle.chk_chunk.specs.Lent.{chunks_of}
use Rattle.chk_chunk.proofs.PostWriting.{post_of_valid}
use Rattle.chk_chunk.proofs.posts.write_post.Goals as goal

pub returns-clause-post : goal.returns-clause-post
returns-clause-post c =
    let chunks = c.args.chunks.now in
    let r = c.requires in
    let is : c.put_post.new.out ≡ written_post (chunks_of chunks) =
    c.in_ok-put_post.ensures.ok ∙ ap (λ l. l ++ written_post (chunks_of chunks)) c.in_ok-post.ensures in
    subst (λ (post : List ℕ). IsPost (chunks_of chunks) post) (sym is)
    (post_of_valid chunks r.some r.few r.valid r.fits)
