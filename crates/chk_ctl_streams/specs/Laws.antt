-- What is wanted of the newest segments is what is wanted of all.
use Rattle.std.specs.Prelude.{◌≡◌, ℕ, ◌<◌, ◌≤◌, List, drop}
use Rattle.chk_site.specs.Files.{Files}
use Rattle.chk_chunk.specs.Keys.{Stream}
use Rattle.chk_world.specs.Books.{chunks_of_stream}
use Rattle.chk_world.specs.Jobs.{Run}
use Rattle.chk_ctl_cat.specs.Archives.{chunks_held}
use Rattle.chk_ctl_cat.specs.Courses.{wanted}

-- Suppose that the stream's chunks in some files go on from each other, from its start to its
-- end, and those in the newest ones, all but so many of the oldest, from an offset that isn't past
-- what is wanted to one that is. Then what is wanted of the newest ones is what is wanted of all.
abbrev pub NewestHaveTheRest : Type 0
NewestHaveTheRest =
    (most : ℕ) (held : Files) (names : List (List ℕ)) (oldest : ℕ) (s : Stream)
    (begin start end first from to : ℕ)
    → Run start start (chunks_of_stream s (chunks_held most held names)) end
    → Run first from (chunks_of_stream s (chunks_held most held (drop oldest names))) to
    → from ≤ begin → begin < to
    → wanted s begin (chunks_held most held (drop oldest names))
    ≡ wanted s begin (chunks_held most held names)
