-- What posts say: the chunks that were written, and no others.
use Rattle.std.proofs.Common.{List, length, IsTrue, ◌≤◌, ◌<◌}
use Rattle.std.specs.List.{list_all}
use Rattle.std.proofs.lemmas.List.Sums.{AllPass-from_list_all}
use Rattle.chk_chunk.specs.Keys.{Chunk, is_chunk}
use Rattle.chk_chunk.specs.Posts.{IsPost, post_limit, written_post}
use Rattle.chk_chunk.proofs.PostWriting.{written_post_is_post}

pub written_is_posted : (chunks : List Chunk) → 0 < length chunks → length chunks ≤ 1000 → IsTrue (list_all is_chunk chunks)
    → length (written_post chunks) ≤ post_limit → IsPost chunks (written_post chunks)
written_is_posted chunks some few are short =
    written_post_is_post chunks some few (AllPass-from_list_all is_chunk chunks are) short
