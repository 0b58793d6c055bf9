-- How much of the streams of a load is archived.
use Rattle.std.specs.Prelude.{ℕ, ◌+◌, zero, suc, List, codes}
use Rattle.chk_chunk.specs.Keys.{Stream}
use Rattle.chk_world.specs.Books.{End}
use Rattle.chk_book.specs.Books.{end_in}
use Rattle.chk_cmd_line.specs.Loads.{load_log}

-- the stream of a log of the load
abbrev pub load_stream : ℕ → Stream
load_stream log = record { source = codes "load"; kind = codes "Load"; name = load_log log }

-- the sum of the archived ends of the first streams, 0 for one that has none
abbrev pub archived_of : List End → ℕ → ℕ
archived_of ends zero = 0
archived_of ends (suc log) = archived_of ends log + end_in 0 ends (load_stream log)
