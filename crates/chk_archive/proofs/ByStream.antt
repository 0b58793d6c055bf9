-- Chunks that are the same of each stream, in whatever order the streams stand.
use Rattle.std.proofs.Common.{◌≡◌, List, subst}
use Rattle.std.specs.Prelude.{Contains, filter}
use Rattle.chk_chunk.specs.Keys.{Stream, Chunk, is_of}
use Rattle.chk_world.proofs.Each.{Each, each_from, each_at, passes_in, filter_in}
use Rattle.chk_archive_plan.proofs.Parts.{stream_self}

-- of each stream they are the same, and stand in the same order
abbrev pub SameByStream : List Chunk → List Chunk → Type 0
SameByStream parts others = (s : Stream) → filter (is_of s) parts ≡ filter (is_of s) others

-- each one is among the others
pub each_by_stream : (P : Chunk → Type 0) (parts others : List Chunk) → SameByStream parts others
    → Each P others → Each P parts
each_by_stream P parts others same all =
    each_from P parts
    (λ c one.
    let s = c.key.stream in
    let passes = passes_in (is_of s) parts c one (stream_self s) in
    each_at P others c all (filter_in (is_of s) others c (subst (λ l. Contains l c) (same s) passes)))
