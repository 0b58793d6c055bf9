-- What the fields of a post that was read stand for.
use Rattle.std.specs.Prelude.{◌≡◌, None}
use Rattle.chk_chunk.specs.Posts.{guessed_chunks}
use Rattle.chk_chunk.specs.Faults.{chunks_fault}
use Rattle.chk_chunk.specs.ReadPosts.{ReadPost}
use Rattle.chk_chunk.specs.declared.posts.PostRef.TheInside.{Inside}

abbrev pub post_view : Inside → ReadPost
post_view p = record { count = p.count; left = guessed_chunks p.left p.at p.body.now }

-- the chunks that it hasn't given yet are there, and nothing behind them
abbrev pub IsSoundPost : Inside → Type 0
IsSoundPost p = chunks_fault p.left p.at p.body.now ≡ None
