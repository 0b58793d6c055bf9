-- What is wanted of a stream's chunks is its archive from the first offset on that is wanted.
use Rattle.std.specs.Prelude.{◌≡◌, ℕ, ◌-◌, List, drop}
use Rattle.chk_site.specs.Files.{Files}
use Rattle.chk_chunk.specs.Keys.{Stream}
use Rattle.chk_world.specs.Books.{chunks_of_stream, values}
use Rattle.chk_world.specs.Jobs.{Run}
use Rattle.chk_ctl_cat.specs.Courses.{wanted}
use Rattle.chk_ctl_cat.specs.Archives.{chunks_held}

-- where the stream's chunks in some files go on from each other, from its start to any offset, what is wanted of them is
-- their joined values without those in front of the first offset that is wanted
abbrev pub WantedIsArchive : Type 0
WantedIsArchive =
    (most : ℕ) (held : Files) (names : List (List ℕ)) (s : Stream) (begin start to : ℕ)
    → Run start start (chunks_of_stream s (chunks_held most held names)) to
    → wanted s begin (chunks_held most held names)
    ≡ drop (begin - start) (values (chunks_of_stream s (chunks_held most held names)))
